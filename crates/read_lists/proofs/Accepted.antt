-- What it means that a list is accepted: its five tests, one by one. From these it follows that its items can be read.
use Prim.Native.Nat.{ℕ, ◌*◌, ◌^◌, ◌<◌}
use native.Mathlib.Nat.{pos_of_ne-zero}
use native.Mathlib.Omega.{arith}
use mathlib.Core.Path.{◌≡◌, refl, sym, ap, subst, ◌∙◌}
use mathlib.Core.Bool.{Bool, true, false, cond}
use mathlib.Core.List.{List, []}
use mathlib.Core.Logic.{◌⊎◌, inl, inr, ⊎_elim}
use lib.Dec.{eqb}
use borrow.Author.Tests.{eq-eqb, ne_eqb, eqb-true, eqb-false}
use Rattle.strip.specs.declared.Refusal.{Refusal}
use Rattle.std.specs.Prelude.{Result, Ok}
use Rattle.fields.specs.Bytes.{le_at}
use Rattle.strip.specs.Outcome.{Paper, values, refusal, paper}
use Rattle.strip.proofs.Papers.{no_values}
use Rattle.read_lists.specs.Lists.{before, total, readable_at, good_to, all_good, header, table_of, listed}
use Rattle.read_lists.specs.Listed.{Few, Readable}
use Rattle.resource.proofs.Parts.{null_empty}

pub record Accepted (system graphics : List ℕ) (size va : ℕ) : Type 0 where
  pub some : 0 < va
  pub header_whole : readable_at system graphics va 48 ≡ true
  pub table_whole : readable_at system graphics (le_at 8 (header system graphics va) 0x10) (16 * le_at 4 (header system graphics va) 0x20) ≡ true
  pub parts_good : all_good system graphics size (table_of system graphics va) ≡ true
  pub adds_up : total (table_of system graphics va) ≡ le_at 4 (header system graphics va) 8

-- how many items it has
pub data ListFound (system graphics : List ℕ) (size : ℕ) : ℕ → ℕ → Type 0 where
  at_null : ListFound system graphics size 0 0
  there : {va : ℕ} → Accepted system graphics size va → ListFound system graphics size va (le_at 4 (header system graphics va) 8)

-- the tests that an answer with items passed
passed : (a b c d e : Bool) (r p q s m n : ℕ) → cond a (values 0) (cond b (cond c (cond d (cond e (values m) (refusal q s)) (refusal r p)) (refusal r p)) (refusal r p)) ≡ values n
    → ((a ≡ true) × (0 ≡ n)) ⊎ ((a ≡ false) × (b ≡ true) × (c ≡ true) × (d ≡ true) × (e ≡ true) × (m ≡ n))
passed true b c d e r p q s m n h = inl (refl, cc)
passed false false c d e r p q s m n h = absurd (no_values h)
passed false true false d e r p q s m n h = absurd (no_values h)
passed false true true false e r p q s m n h = absurd (no_values h)
passed false true true true false r p q s m n h = absurd (no_values h)
passed false true true true true r p q s m n h = inr (refl, refl, refl, refl, refl, cc)

above_zero : (va : ℕ) → eqb va 0 ≡ false → 0 < va
above_zero va e = pos_of_ne-zero (eqb-false va 0 e)

module _ (system graphics : List ℕ) (size place : ℕ) where
  pub listed_found : {va n : ℕ} → listed system graphics size va place ≡ values n → ListFound system graphics size va n
  unfolding listed
  listed_found {va} {n} h =
      ⊎_elim
      (λ p. let z : va ≡ 0 = eqb-true va 0 p.0 in rw (z, ← p.1) at_null)
      (λ p.
      let (f, b, c, d, e, m) = p in
      rw (← m) (there (record { some = above_zero va f; header_whole = b; table_whole = c; parts_good = d; adds_up = eqb-true _ _ e })))
      (passed _ _ _ _ _ _ _ _ _ _ n h)

  pub found_listed : {va n : ℕ} → ListFound system graphics size va n → listed system graphics size va place ≡ values n
  unfolding listed
  found_listed at_null = refl
  found_listed (there {va = va} a) = rw (ne_eqb va 0 (λ z. omega arith), a.header_whole, a.table_whole, a.parts_good, eq-eqb _ _ a.adds_up)

-- a refusal is 35 or 36, at the list's place
abbrev Refuses : ℕ → Paper ℕ → Type 0
Refuses place (values n) = Unit {0}
Refuses place (refusal number p) = ((number ≡ 35) ⊎ (number ≡ 36)) × (p ≡ place)

pub listed_refused : (system graphics : List ℕ) (size va place : ℕ) {number p : ℕ} → listed system graphics size va place ≡ refusal number p → ((number ≡ 35) ⊎ (number ≡ 36)) × (p ≡ place)
unfolding listed
listed_refused system graphics size va place h =
    subst (Refuses place) h
    (by (eqb va 0) (readable_at system graphics va 48) (readable_at system graphics (le_at 8 (header system graphics va) 0x10) (16 * le_at 4 (header system graphics va) 0x20)) (all_good system graphics size (table_of system graphics va)) (eqb (total (table_of system graphics va)) (le_at 4 (header system graphics va) 8)))
  where
    by : (a b c d e : Bool)
        → Refuses place
        (cond a (values 0)
        (cond b
        (cond c
        (cond d (cond e (values (le_at 4 (header system graphics va) 8)) (refusal 36 place)) (refusal 35 place))
        (refusal 35 place))
        (refusal 35 place)))
    by true b c d e = tt
    by false false c d e = (inl refl, refl)
    by false true false d e = (inl refl, refl)
    by false true true false e = (inl refl, refl)
    by false true true true false = (inr refl, refl)
    by false true true true true = tt

-- ---- reading the items

module _ (system graphics : List ℕ) (size : ℕ) where
  null_table : table_of system graphics 0 ≡ []
  unfolding table_of header le_at
  null_table = rw (null_empty system graphics 48) (null_empty system graphics 0)

  found_good : {va n : ℕ} → ListFound system graphics size va n → (all_good system graphics size (table_of system graphics va) ≡ true) × (n ≡ total (table_of system graphics va))
  unfolding good_to before
  found_good at_null = rw null_table (refl, refl)
  found_good (there a) = (a.parts_good, sym a.adds_up)

  -- a list that `read_list` accepted can be read by its part table, and has as many items as its parts together
  pub readable : (va place : ℕ) {a : (Result ℕ Refusal)} {n : ℕ} → size < 65536 → (paper a ≡ listed system graphics size va place) × Few a → a ≡ Ok n
      → Readable system graphics size (table_of system graphics va) × (n ≡ total (table_of system graphics va))
  readable va place {n = n} small h e =
      let (g, s) = found_good (listed_found system graphics size place (sym h.0 ∙ ap paper e)) in
      let few : n < 2 ^ 32 = rw e at h.1 in
      (record { small = small; good = g; few = omega arith }, s)
