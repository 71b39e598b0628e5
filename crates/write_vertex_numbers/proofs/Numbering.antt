-- A turn of the numbering of a list of triples: what is left to number after it. The table t and the numbers o are apart here.
use Prim.Native.Nat.{ℕ, ◌+◌, ◌*◌, ◌≤◌, ◌<◌, ◌^◌}
use native.Mathlib.Omega.{arith}
use mathlib.Core.Path.{◌≡◌, refl, ap, sym, subst, ◌∙◌}
use mathlib.Core.Bool.{true}
use mathlib.Core.List.{List, [], ◌++◌}
use lib.ListN.{length, get_or, set, drop}
use lib.Dec.{leb}
use Rattle.std.specs.Prelude.{Option, Some, None, Result, Ok, Err}
use Rattle.strip.specs.Outcome.{paper}
use Rattle.strip.specs.declared.Reason.TheVariants.{ManyVertices}
use Rattle.strip.specs.declared.Refusal.{Refusal}
use Rattle.distinct.specs.Distinct.{index_of, with_new, distinct_from}
use Rattle.distinct.specs.Numbers.{numbers_from}
use Rattle.distinct.proofs.Laws.{index_most, length_with}
use Rattle.distinct.proofs.Left.{Left, drop_more, left_start, left_turn, left_over, done_excess, done_distinct, done_numbers}
use Rattle.write_vertices.specs.Vertices.{count_after}
use Rattle.write_vertices.specs.Table.{triple_at, met, cleared, Table, LookedUp}
use Rattle.write_vertices.specs.declared.Numbered.{Numbered}
use Rattle.write_vertices.proofs.Triples.{length_met, met_at}
use Rattle.write_vertices.proofs.Lookup.{vertex_in, full_in, count_le}
use Rattle.write_vertices.proofs.Clearing.{table_cleared, drop_cleared}
use Rattle.write_vertex_numbers.specs.Numbers.{answer_all}

-- the answer r for the m triples xs, with the table from t to t' and the numbers from o to o'
pub record AllNumbered (xs : List ℕ) (m b : ℕ) (t t' o o' : List ℕ) (r : Result ℕ Refusal) : Type 0 where
  pub answer : paper r ≡ answer_all xs
  pub numbered : (n : ℕ) → r ≡ Ok n → (met t' b n ≡ distinct_from [] xs) × (o' ≡ numbers_from [] xs ++ drop m o)
  pub rest : drop (b + 2 * m) t' ≡ drop (b + 2 * m) t
  pub kept : drop m o' ≡ drop m o

-- what holds before the triple at i
pub record Going (xs : List ℕ) (m b : ℕ) (t₀ o₀ t o : List ℕ) (n i : ℕ) : Type 0 where
  pub left : Left 65536 [] xs o₀ (met t b n) o i
  pub few : n ≤ i
  pub table : Table t b n
  pub table_long : length t ≡ length t₀
  pub rest : drop (b + 2 * m) t ≡ drop (b + 2 * m) t₀

-- the i-th of m triples that are given as two words each
pub given_at : (ws : List ℕ) (m i x : ℕ) → i < m → x ≡ triple_at ws (2 * i) → x ≡ get_or (met ws 0 m) i 0
given_at ws m i x h e =
    let place : 2 * i ≡ 0 + 2 * i = omega arith in
    e ∙ ap (triple_at ws) place ∙ sym (met_at ws 0 m i h)

-- before the first triple
pub start : (xs : List ℕ) (m b : ℕ) (t₀ t o : List ℕ) → 0 < b → b ≤ 2 ^ 32 → b ≤ length t₀ → t ≡ cleared t₀ b → Going xs m b t o t o 0 0
unfolding met
start xs m b t₀ t o h narrow l e = record {
  left = left_start 65536 [] xs o [] refl;
  few = omega arith;
  table = rw e (table_cleared t₀ b l h narrow);
  table_long = refl;
  rest = refl;
}

-- the triple x at i was looked up, with the answer r
pub record Step (xs : List ℕ) (m b : ℕ) (t₀ o₀ t o : List ℕ) (n i x : ℕ) (t' : List ℕ) (r : Option Numbered) : Type 0 where
  pub going : Going xs m b t₀ o₀ t o n i
  pub size : length xs ≡ m
  pub more : i < m
  pub key : x ≡ get_or xs i 0
  pub looked : LookedUp t t' b n x r

module _ {xs : List ℕ} {m b : ℕ} {t₀ o₀ t o : List ℕ} {n i x : ℕ} {t' : List ℕ} {r : Option Numbered} (s : Step xs m b t₀ o₀ t o n i x t' r) where
  inside : i < length xs
  inside = omega (arith, s.size, s.more)

  rest_more : drop (b + 2 * m) t' ≡ drop (b + 2 * m) t₀
  rest_more =
      let few : count_after r n ≤ n + 1 = count_le (met t b n) x n (length_met t b n) r (s.looked.answer 0) in
      drop_more (b + 2 * count_after r n) (b + 2 * m) (omega (arith, s.going.few, s.more)) t' t s.looked.rest ∙ s.going.rest

  -- x has a number: what holds before the next triple
  module _ {v : Numbered} (er : r ≡ Some v) where
    is_in : (leb (length (with_new (met t b n) x)) 65536 ≡ true) × (v.number ≡ index_of (met t b n) x) × (v.count ≡ length (with_new (met t b n) x))
    is_in = vertex_in _ _ _ v er (s.looked.answer 0)

    -- the number fits a word
    pub number_le : v.number ≤ 65536
    number_le = omega (arith, is_in.1, index_most (met t b n) x, length_met t b n, s.going.table.few)

    pub turn : m ≤ length o₀ → Going xs m b t₀ o₀ t' (set o i v.number) v.count (i + 1)
    turn lo = record {
      left = left_turn 65536 [] xs o₀ (met t b n) o i x s.going.left inside s.key v.number (met t' b v.count) (omega (arith, s.size)) is_in.0 is_in.1
          (ap (λ (q : Option Numbered). met t' b (count_after q n)) (sym er) ∙ s.looked.now_met ∙ rw is_in.0);
      few = omega (arith, is_in.2, length_with (met t b n) x, length_met t b n, s.going.few);
      table = subst (λ (q : Option Numbered). Table t' b (count_after q n)) er s.looked.table;
      table_long = s.looked.long ∙ s.going.table_long;
      rest = rest_more;
    }

  -- x is a 65,537th
  pub over : r ≡ None → AllNumbered xs m b t₀ t' o₀ o (Err (record { reason = ManyVertices; place = i }))
  over er = record {
    answer = rw (left_over 65536 [] xs o₀ (met t b n) o i x s.going.left inside s.key (full_in (leb (length (with_new (met t b n) x)) 65536) _ _ er (s.looked.answer 0)));
    numbered = λ n' e. let z : ◌≡◌ {A = ℕ} 0 1 = cc in absurd (omega arith);
    rest = rest_more;
    kept = drop_more i m (omega (arith, s.more)) o o₀ s.going.left.kept;
  }

-- nothing is left
pub done : (xs : List ℕ) (m b : ℕ) (t₀ o₀ t o : List ℕ) (n i : ℕ) → length xs ≡ m → m ≤ i → Going xs m b t₀ o₀ t o n i → AllNumbered xs m b t₀ t o₀ o (Ok n)
done xs m b t₀ o₀ t o n i lx ge g =
    let e : i ≡ m = omega (arith, g.left.within) in
    let end : i ≡ length xs = omega arith in
    let all = done_distinct 65536 [] xs o₀ (met t b n) o i g.left end in
    record {
      answer = rw (done_excess 65536 [] xs o₀ (met t b n) o i g.left end, all, length_met t b n);
      numbered = λ n' q.
          let same : n ≡ n' = cc in
          (ap (λ (k : ℕ). met t b k) (sym same) ∙ sym all, rw (← e) (done_numbers 65536 [] xs o₀ (met t b n) o i g.left end));
      rest = g.rest;
      kept = rw (← e) g.left.kept;
    }

-- the words past the table are those from before it was cleared
pub uncleared : {xs : List ℕ} {m b : ℕ} (t₀ t : List ℕ) {t' o o' : List ℕ} {r : Result ℕ Refusal} → b ≤ length t₀ → t ≡ cleared t₀ b → AllNumbered xs m b t t' o o' r → AllNumbered xs m b t₀ t' o o' r
uncleared {m = m} {b = b} t₀ t l e a = record { answer = a.answer; numbered = a.numbered; rest = a.rest ∙ rw e (drop_cleared t₀ b l m); kept = a.kept }
