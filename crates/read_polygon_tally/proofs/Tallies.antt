-- Pass one: the answers on one polygon and on polygons in order, and what each answer says.
use Prim.Native.Nat.{ℕ, ◌+◌, ◌-◌, ◌*◌, ◌/◌, ◌%◌, ◌≤◌, ◌<◌}
use native.Mathlib.Nat.{add-zero, zero-add, add_assoc, sub-zero}
use native.Mathlib.Omega.{arith}
use mathlib.Core.Path.{◌≡◌, refl, sym, ap, ◌∙◌}
use mathlib.Core.Bool.{Bool, true, false, cond, ◌&&◌}
use mathlib.Core.List.{List, [], ◌∷◌, ◌++◌}
use mathlib.Core.Logic.{◌⊎◌, inl, inr}
use lib.Dec.{leb}
use lib.ListN.{length, take, drop}
use borrow.Author.Tests.{le-leb, lt-leb, leb-true}
use Rattle.fields.specs.Bytes.{le_at, cut}
use Rattle.strip.specs.Outcome.{Paper, values, refusal}
use Rattle.strip.proofs.Papers.{no_values}
use Rattle.read_grammar.specs.Polygons.{count_of, start_of, run_of}
use Rattle.read_polygon_words.specs.Words.{link_count, all_below}
use Rattle.read_list_set.specs.declared.Limits.{Limits}
use Rattle.read_list_set.proofs.Runs.{record_next, record_none}
use Rattle.read_polygon_tally.specs.Tally.{size_of, tally_of, words_added, tally_from}

-- ---- one polygon

module _ (l : Limits) (indices : List (List ℕ)) (p : ℕ) (rec : List ℕ) {a count start : ℕ} (ea : a ≡ le_at 2 rec 2) (ec : count ≡ a / 32 % 2048) (es : start ≡ le_at 2 rec 4) where
  pub run_out : l.indices < start + count → tally_of l indices p rec ≡ refusal 37 p
  unfolding tally_of
  run_out h = rw (← ea, ← ec, ← es, lt-leb (start + count) l.indices h)

  module _ (i : start + count ≤ l.indices) where
    pub edges_out : l.edges < start + count → tally_of l indices p rec ≡ refusal 37 p
    unfolding tally_of
    edges_out h = rw (← ea, ← ec, ← es, le-leb (start + count) l.indices i, lt-leb (start + count) l.edges h)

    module _ (e : start + count ≤ l.edges) {t : Bool} (et : t ≡ all_below l.vertices (take count (drop start indices))) where
      pub index_out : t ≡ false → tally_of l indices p rec ≡ refusal 38 p
      unfolding tally_of
      index_out f = rw (← ea, ← ec, ← es, le-leb (start + count) l.indices i, le-leb (start + count) l.edges e, ← et, f)

      pub all_well : {n : ℕ} → t ≡ true → n ≡ link_count l.links rec → tally_of l indices p rec ≡ values (4 + n + 9 * count)
      unfolding tally_of size_of
      all_well f en = rw (← ea, ← ec, ← es, le-leb (start + count) l.indices i, le-leb (start + count) l.edges e, ← et, f, ← en)

-- ---- polygons in order

pub then_none : (t : Paper ℕ) → words_added (values 0) t ≡ t
then_none (values w) = ap values (zero-add w)
then_none (refusal number place) = refl

then_assoc : (s t u : Paper ℕ) → words_added (words_added s t) u ≡ words_added s (words_added t u)
then_assoc (values a) (values b) (values w) = ap values (add_assoc a b w)
then_assoc (values a) (values b) (refusal number place) = refl
then_assoc (values a) (refusal number place) u = refl
then_assoc (refusal number place) t u = refl

module _ (l : Limits) (indices : List (List ℕ)) (p w : ℕ) where
  module _ (b : List ℕ) (bs : List (List ℕ)) {xs : List (List ℕ)} (e : xs ≡ b ∷ bs) where
    pub tally_more : {v : ℕ} → tally_of l indices p b ≡ values v → words_added (values (w + v)) (tally_from l indices (p + 1) bs) ≡ words_added (values w) (tally_from l indices p xs)
    unfolding tally_from
    tally_more {v} f = then_assoc (values w) (values v) (tally_from l indices (p + 1) bs) ∙ rw (e, f)

    pub tally_stop : {number place : ℕ} → tally_of l indices p b ≡ refusal number place → refusal number place ≡ words_added (values w) (tally_from l indices p xs)
    unfolding tally_from
    tally_stop f = rw (e, f)

  pub tally_end : {xs : List (List ℕ)} → xs ≡ [] → values w ≡ words_added (values w) (tally_from l indices p xs)
  unfolding tally_from
  tally_end e = rw (e, add-zero w)

-- the first m polygons of a run, one after the other, the very first number `first`
module _ (l : Limits) (indices : List (List ℕ)) (run : List ℕ) (m first : ℕ) where
  pub run_begin : words_added (values 0) (tally_from l indices (first + 0) (cut 48 (m - 0) (drop (48 * 0) run))) ≡ tally_from l indices first (cut 48 m run)
  run_begin = rw (add-zero first, sub-zero m) (then_none (tally_from l indices first (cut 48 m run)))

  module _ (k w : ℕ) where
    module _ (h : k < m) {at : ℕ} (here : at ≡ first + k) where
      pub run_more : {v : ℕ} → tally_of l indices at (take (48 * k + 48 - 48 * k) (drop (48 * k) run)) ≡ values v
          → words_added (values (w + v)) (tally_from l indices (first + (k + 1)) (cut 48 (m - (k + 1)) (drop (48 * (k + 1)) run))) ≡ words_added (values w) (tally_from l indices (first + k) (cut 48 (m - k) (drop (48 * k) run)))
      run_more f = rw (← add_assoc first k 1) (tally_more l indices (first + k) w (take (48 * k + 48 - 48 * k) (drop (48 * k) run)) (cut 48 (m - (k + 1)) (drop (48 * (k + 1)) run)) (record_next run m k h) (rw here at f))

      pub run_stop : {number place : ℕ} → tally_of l indices at (take (48 * k + 48 - 48 * k) (drop (48 * k) run)) ≡ refusal number place
          → refusal number place ≡ words_added (values w) (tally_from l indices (first + k) (cut 48 (m - k) (drop (48 * k) run)))
      run_stop f = tally_stop l indices (first + k) w (take (48 * k + 48 - 48 * k) (drop (48 * k) run)) (cut 48 (m - (k + 1)) (drop (48 * (k + 1)) run)) (record_next run m k h) (rw here at f)

    pub run_end : m ≤ k → values w ≡ words_added (values w) (tally_from l indices (first + k) (cut 48 (m - k) (drop (48 * k) run)))
    run_end h = tally_end l indices (first + k) w (record_none run m k h)

-- runs, one after the other
module _ (l : Limits) (indices : List (List ℕ)) where
  pub tally_append : (p : ℕ) (ys zs : List (List ℕ)) → tally_from l indices p (ys ++ zs) ≡ words_added (tally_from l indices p ys) (tally_from l indices (p + length ys) zs)
  unfolding tally_from
  tally_append p [] zs = rw (add-zero p) (sym (then_none (tally_from l indices p zs)))
  tally_append p (y ∷ ys) zs =
      let e : p + 1 + length ys ≡ p + length (y ∷ ys) = omega arith in
      rw (tally_append (p + 1) ys zs, e) (sym (then_assoc (tally_of l indices p y) (tally_from l indices (p + 1) ys) (tally_from l indices (p + length (y ∷ ys)) zs)))

  module _ (p w : ℕ) (ys zs : List (List ℕ)) {xs : List (List ℕ)} (e : xs ≡ ys ++ zs) where
    pub runs_more : {m v : ℕ} → length ys ≡ m → tally_from l indices p ys ≡ values v → words_added (values (w + v)) (tally_from l indices (p + m) zs) ≡ words_added (values w) (tally_from l indices p xs)
    runs_more {m} {v} el f = then_assoc (values w) (values v) (tally_from l indices (p + m) zs) ∙ rw (e, tally_append p ys zs, el, f)

    pub runs_stop : {number place : ℕ} → tally_from l indices p ys ≡ refusal number place → refusal number place ≡ words_added (values w) (tally_from l indices p xs)
    runs_stop f = rw (e, tally_append p ys zs, f)

-- ---- what pass one accepted

pub then_words : (t u : Paper ℕ) {w : ℕ} → words_added t u ≡ values w → (a b : ℕ) × (t ≡ values a) × (u ≡ values b) × (w ≡ a + b)
then_words (refusal number place) u e = absurd (no_values e)
then_words (values a) (refusal number place) e = absurd (no_values e)
then_words (values a) (values b) e = (a, b, refl, refl, cc)

picked : (x y z : Bool) (m p n q v w : ℕ) → cond (x && y) (cond z (values w) (refusal m p)) (refusal n q) ≡ values v → (x ≡ true) × (y ≡ true) × (z ≡ true) × (v ≡ w)
picked false y z m p n q v w e = absurd (no_values e)
picked true false z m p n q v w e = absurd (no_values e)
picked true true false m p n q v w e = absurd (no_values e)
picked true true true m p n q v w e = (refl, refl, refl, cc)

module _ (l : Limits) (indices : List (List ℕ)) where
  pub accepted : (p : ℕ) (b : List ℕ) {v : ℕ} → tally_of l indices p b ≡ values v
      → (start_of b + count_of b ≤ l.indices) × (start_of b + count_of b ≤ l.edges) × (all_below l.vertices (run_of b indices) ≡ true) × (v ≡ size_of l.links b)
  unfolding tally_of
  accepted p b {v} e =
      let (x, y, z, w) = picked (leb (start_of b + count_of b) l.indices) (leb (start_of b + count_of b) l.edges) (all_below l.vertices (run_of b indices)) _ _ _ _ v (size_of l.links b) e in
      (leb-true _ _ x, leb-true _ _ y, z, w)

-- ---- what pass one refused

-- a refusal's number, and its place: the polygon
module _ (l : Limits) (indices : List (List ℕ)) where
  one_refused : (p : ℕ) (b : List ℕ) {m q : ℕ} → tally_of l indices p b ≡ refusal m q → ((m ≡ 37) ⊎ (m ≡ 38)) × (q ≡ p)
  unfolding tally_of
  one_refused p b {m} {q} e = by (leb (start_of b + count_of b) l.indices && leb (start_of b + count_of b) l.edges) (all_below l.vertices (run_of b indices)) e
    where
      by : (x y : Bool) → cond x (cond y (values (size_of l.links b)) (refusal 38 p)) (refusal 37 p) ≡ refusal m q
          → ((m ≡ 37) ⊎ (m ≡ 38)) × (q ≡ p)
      by false y e = (inl (cc), cc)
      by true false e = (inr (cc), cc)
      by true true e = absurd (no_values (sym e))

  pub tally_refused : (p : ℕ) (bs : List (List ℕ)) {m q : ℕ} → tally_from l indices p bs ≡ refusal m q → ((m ≡ 37) ⊎ (m ≡ 38)) × (p ≤ q) × (q < p + length bs)
  unfolding tally_from
  tally_refused p [] e = absurd (no_values (sym e))
  tally_refused p (b ∷ bs) {m} {q} e = by (tally_of l indices p b) (tally_from l indices (p + 1) bs) refl (λ h. tally_refused (p + 1) bs {m = m} {q = q} h) e
    where
      by : (t u : Paper ℕ) → tally_of l indices p b ≡ t → (u ≡ refusal m q → ((m ≡ 37) ⊎ (m ≡ 38)) × (p + 1 ≤ q) × (q < p + 1 + length bs)) → words_added t u ≡ refusal m q
          → ((m ≡ 37) ⊎ (m ≡ 38)) × (p ≤ q) × (q < p + length (b ∷ bs))
      by (refusal number place) u f g h = let (n, at) = one_refused p b {m = m} {q = q} (f ∙ h) in (n, omega arith, omega arith)
      by (values a) (refusal number place) f g h = let (n, lo, hi) = g h in (n, omega arith, omega arith)
      by (values a) (values c) f g h = absurd (no_values (sym h))
