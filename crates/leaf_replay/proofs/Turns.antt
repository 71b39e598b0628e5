-- What a turn of the loop over ids adds: one id more.
use Prim.Native.Nat.{ℕ, suc, ◌+◌, ◌-◌, ◌≤◌, ◌<◌}
use native.Mathlib.Numerals.{add-one}
use native.Mathlib.Omega.{arith}
use mathlib.Core.Path.{◌≡◌, ap, sym, ◌∙◌}
use mathlib.Core.Bool.{true, false}
use mathlib.Core.List.{List, ◌∷◌}
use lib.ListN.{length, get_or, drop, drop_of_length-le}
use lib.Seq.{drop-cons}
use Rattle.std.specs.Prelude.{Option, Some, None}
use Rattle.areas.specs.Tables.{paper, area_ids, area_at, EnsuredIn}
use Rattle.areas.specs.declared.Areas.{Areas}
use Rattle.areas.specs.declared.Ensured.{Ensured}
use Rattle.leaf_replay.specs.Agreement.{is_refused, taking}
use Rattle.leaf_replay.specs.declared.Taken.{Taken}

module _ (input : List ℕ) (i : ℕ) (t : Areas) where
  -- an id is taken
  pub one_more : (e : Ensured) (k : ℕ) (r : Taken) → 1 ≤ i → i < length input → taking t (i - 1) (drop i input) ≡ r → EnsuredIn t (get_or input i 0) e → e.at ≡ Some k → taking e.areas (i + 1 - 1) (drop (i + 1) input) ≡ r
  unfolding taking
  one_more e k r some h all ee ek =
      let n : i + 1 - 1 ≡ i - 1 + 1 = omega arith in
      let free : is_refused (area_at (area_ids t) (get_or input i 0) 0) ≡ false = ap is_refused (sym (ee.answer 0) ∙ ap (λ (a : (Option ℕ)). paper a 0) ek) in
      let split : taking t (i - 1) (get_or input i 0 ∷ drop (suc i) input) ≡ r = rw (drop-cons input i 0 h) at all in
      rw (n, add-one i, ee.table) (rw free at split)

  -- it would be a 33rd area
  pub full : (e : Ensured) (r : Taken) → i < length input → taking t (i - 1) (drop i input) ≡ r → EnsuredIn t (get_or input i 0) e → e.at ≡ None → record { areas = t; count = i - 1 } ≡ r
  unfolding taking
  full e r h all ee ef =
      let stop : is_refused (area_at (area_ids t) (get_or input i 0) 0) ≡ true = ap is_refused (sym (ee.answer 0) ∙ ap (λ (a : (Option ℕ)). paper a 0) ef) in
      let split : taking t (i - 1) (get_or input i 0 ∷ drop (suc i) input) ≡ r = rw (drop-cons input i 0 h) at all in
      rw stop at split

  -- there is none left
  pub no_more : (r : Taken) → length input ≤ i → taking t (i - 1) (drop i input) ≡ r → record { areas = t; count = i - 1 } ≡ r
  unfolding taking
  no_more r h all = rw (drop_of_length-le input h) at all
