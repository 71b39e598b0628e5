-- The three answers of `vertex_index` are what `LookedUp` says, and what such an answer says of the test that it goes by.
use Prim.Native.Nat.{ℕ, ◌+◌, ◌≤◌, ◌<◌}
use native.Mathlib.Omega.{arith}
use mathlib.Core.Path.{◌≡◌, refl, ap, sym, ◌∙◌}
use mathlib.Core.Bool.{Bool, true, false, cond}
use mathlib.Core.List.{List, [], ◌∷◌, ◌++◌}
use lib.ListN.{length}
use lib.Dec.{leb}
use borrow.Author.Tests.{lt-ltb, le-ltb}
use Rattle.std.specs.Prelude.{Option, Some, None}
use Rattle.strip.specs.Outcome.{Paper, refusal, values}
use Rattle.distinct.specs.Distinct.{index_of, is_in, with_new}
use Rattle.distinct.specs.Numbers.{up_to}
use Rattle.write_vertices.specs.Vertices.{paper, number_of, count_after}
use Rattle.write_vertices.specs.Table.{triple, met, added, Table, Finds, Ends, TableRoom, LookedUp}
use Rattle.write_vertices.specs.declared.Numbered.{Numbered}
use Rattle.distinct.proofs.Laws.{index_at, index_none, with_old, length_with, length_fresh, fresh_index, up_old, up_new, up_full}
use Rattle.write_vertices.proofs.Triples.{length_met, met_at}
use Rattle.write_vertices.proofs.Adding.{met_added, table_added, drop_added, length_added}

-- the answer and the list after it, of the list alone
module _ (ts : List ℕ) (x : ℕ) where
  answer_old : length ts ≤ 65536 → is_in ts x ≡ true → ((place : ℕ) → paper (Some (record { number = index_of ts x; count = length ts })) place ≡ number_of ts x place) × (up_to 65536 ts x ≡ ts)
  answer_old few e =
      let up = up_old 65536 ts x e few in
      (λ place. rw (up.0, with_old ts x e), up.1)

  answer_new : length ts < 65536 → is_in ts x ≡ false → ((place : ℕ) → paper (Some (record { number = length ts; count = length ts + 1 })) place ≡ number_of ts x place) × (up_to 65536 ts x ≡ ts ++ (x ∷ []))
  answer_new lt e =
      let up = up_new 65536 ts x e lt in
      (λ place. rw (up.0, length_fresh ts x e, fresh_index ts x e), up.1)

  answer_full : 65536 ≤ length ts → is_in ts x ≡ false → ((place : ℕ) → paper None place ≡ number_of ts x place) × (up_to 65536 ts x ≡ ts)
  answer_full ge e =
      let up = up_full 65536 ts x e ge in
      (λ place. rw up.0, up.1)

module _ (t : List ℕ) (b n x : ℕ) where
  -- a vertex with x, when no two are equal, is the first
  index_found : Table t b n → (i : ℕ) → i < n → triple t b i ≡ x → index_of (met t b n) x ≡ i
  index_found T i h e =
      index_at (met t b n) x i (omega (arith, length_met t b n)) (met_at t b n i h ∙ e) (λ j q f. T.once j i q h (sym (met_at t b n j (omega arith)) ∙ f ∙ sym e))

  missing : ((j : ℕ) → j < n → triple t b j ≡ x → ⊥) → is_in (met t b n) x ≡ false
  missing none =
      let out : index_of (met t b n) x ≡ length (met t b n) =
      index_none (met t b n) x (λ j q f. none j (omega (arith, length_met t b n)) (sym (met_at t b n j (omega (arith, length_met t b n))) ∙ f)) in
      le-ltb (index_of (met t b n) x) (length (met t b n)) (omega arith)

  pub looked_old : (i : ℕ) → Table t b n → Finds t b n x i → LookedUp t t b n x (Some (record { number = i; count = n }))
  looked_old i T f =
      let here = index_found T i f.below f.equal in
      let a = answer_old (met t b n) x (omega (arith, T.few, length_met t b n)) (lt-ltb (index_of (met t b n) x) (length (met t b n)) (omega (arith, f.below, length_met t b n))) in
      record { answer = λ place. ap (λ (k : ℕ). values (k, n)) (sym here) ∙ (rw length_met at (a.0 place)); now_met = sym a.1; table = T; rest = refl; long = refl }

  pub looked_new : (s : ℕ) → TableRoom t b n x → n < 65536 → Ends t b n x s → LookedUp t (added t b n x s) b n x (Some (record { number = n; count = n + 1 }))
  looked_new s R lt E =
      let a = answer_new (met t b n) x (omega (arith, length_met t b n)) (missing E.none) in
      record {
        answer = λ place. rw length_met at (a.0 place);
        now_met = met_added t b n x s R lt E ∙ sym a.1;
        table = table_added t b n x s R lt E;
        rest = drop_added t b n x s R lt E;
        long = length_added t b n x s R lt E;
      }

  pub looked_full : (s : ℕ) → Table t b n → 65536 ≤ n → Ends t b n x s → LookedUp t t b n x None
  looked_full s T ge E =
      let a = answer_full (met t b n) x (omega (arith, length_met t b n)) (missing E.none) in
      record { answer = a.0; now_met = sym a.1; table = T; rest = refl; long = refl }

-- what an answer says of the test that it goes by
pub vertex_in : (s : Bool) (j n : ℕ) (v : Numbered) {r : Option Numbered} → r ≡ Some v → paper r 0 ≡ cond s (values (j, n)) (refusal 14 0) → (s ≡ true) × (v.number ≡ j) × (v.count ≡ n)
vertex_in true j n v e h = let same : ◌≡◌ {A = Paper (ℕ × ℕ)} (values (v.number, v.count)) (values (j, n)) = rw e at h in
    let pair : ◌≡◌ {A = ℕ × ℕ} (v.number, v.count) (j, n) = cc in
    (refl, ap (λ (p : ℕ × ℕ). p.0) pair, ap (λ (p : ℕ × ℕ). p.1) pair)
vertex_in false j n v e h = let other : ◌≡◌ {A = Paper (ℕ × ℕ)} (values (v.number, v.count)) (refusal 14 0) = rw e at h in let z : ◌≡◌ {A = ℕ} 0 1 = cc in absurd (omega arith)

pub full_in : (s : Bool) (j n : ℕ) {r : Option Numbered} → r ≡ None → paper r 0 ≡ cond s (values (j, n)) (refusal 14 0) → s ≡ false
full_in true j n e h = let other : ◌≡◌ {A = Paper (ℕ × ℕ)} (refusal 14 0) (values (j, n)) = rw e at h in let z : ◌≡◌ {A = ℕ} 0 1 = cc in absurd (omega arith)
full_in false j n e h = refl

-- an answer has one triple more at most
pub count_le : (ts : List ℕ) (x n : ℕ) → length ts ≡ n → (r : Option Numbered) → paper r 0 ≡ number_of ts x 0 → count_after r n ≤ n + 1
count_le ts x n e (Some v) h = omega (arith, (vertex_in (leb (length (with_new ts x)) 65536) (index_of ts x) (length (with_new ts x)) v refl h).2, length_with ts x)
count_le ts x n e None h = omega arith
