-- The answers of `ensure_id` and the words that it leaves, and what they say of the list.
use Rattle.std.specs.Prelude.{Option, Some, None}
use Rattle.std.proofs.Common.{◌≡◌, ℕ, ◌+◌, ◌<◌, ◌≤◌, min, Bool, true, false, cond, List, [], ◌∷◌, length, take, set, refl, arith, length-append, length-take, le-ltb, lt-ltb}
use native.Mathlib.Nat.{min-le_right}
use Rattle.fields.specs.Bytes.{over}
use Rattle.fields.proofs.Over.{over_own, over_one, take_over}
use Rattle.distinct.specs.Distinct.{index_of, is_in}
use Rattle.distinct.specs.Numbers.{up_to}
use Rattle.distinct.proofs.Laws.{index_most, up_old, up_new, up_full, up_most}
use Rattle.strip.specs.Outcome.{refusal, values}
use Rattle.areas.specs.Tables.{paper, Entered}

module _ (ids : List ℕ) (long : length ids ≡ 32) (len x count at : ℕ) (held : count ≡ min len 32) (here : at ≡ index_of (take len ids) x) where
  taken_length : length (take len ids) ≡ count
  taken_length = rw (length-take len ids, long, held)

  -- x is in the table
  module _ (h : at < count) where
    old : is_in (take len ids) x ≡ true
    old = lt-ltb (index_of (take len ids) x) (length (take len ids)) (omega (arith, taken_length))

    few : length (take len ids) ≤ 32
    few = omega (arith, taken_length)

    pub answer_old : (k n : ℕ) → k ≡ at → n ≡ count → Entered (take len ids) x (record { at = Some k; len = n }) × (ids ≡ over (up_to 32 (take len ids) x) ids)
    answer_old k n ek en =
        let up = up_old 32 (take len ids) x old few in
        (record { answer = λ place. rw (up.0, ek, here); len_is = rw (up.1, taken_length, en) }, rw (up.1, over_own len ids))

  module _ (h : count ≤ at) where
    out : is_in (take len ids) x ≡ false
    out = le-ltb (index_of (take len ids) x) (length (take len ids)) (omega (arith, taken_length))

    place : index_of (take len ids) x ≡ count
    place = omega (arith, taken_length, index_most (take len ids) x)

    -- x is new, and there is room
    module _ (room : count < 32) where
      less : length (take len ids) < 32
      less = omega (arith, taken_length)

      pub answer_new : (k n : ℕ) → k ≡ count → n ≡ count + 1 → Entered (take len ids) x (record { at = Some k; len = n }) × (set ids k x ≡ over (up_to 32 (take len ids) x) ids)
      answer_new k n ek en =
          let up = up_new 32 (take len ids) x out less in
          (record { answer = λ spot. rw (up.0, place, ek); len_is = rw (up.1, length-append (take len ids) (x ∷ []), taken_length, en) }, rw (up.1, over_one len ids x, taken_length, ek))

    -- x would be a 33rd
    module _ (full : 32 ≤ count) where
      many : 32 ≤ length (take len ids)
      many = omega (arith, taken_length)

      pub answer_full : (n : ℕ) → n ≡ 32 → Entered (take len ids) x (record { at = None; len = n }) × (ids ≡ over (up_to 32 (take len ids) x) ids)
      answer_full n en =
          let up = up_full 32 (take len ids) x out many in
          let all : count ≡ 32 = omega (arith, min-le_right len 32) in
          (record { answer = λ place. rw up.0; len_is = rw (up.1, taken_length, all, en) }, rw (up.1, over_own len ids))

-- the table after it
pub ids_after : (ids : List ℕ) → length ids ≡ 32 → (len x : ℕ) → let l = up_to 32 (take len ids) x in take (length l) (over l ids) ≡ l
ids_after ids long len x =
    let few : length (take len ids) ≤ 32 = omega (arith, length-take len ids, min-le_right len (length ids)) in
    take_over (up_to 32 (take len ids) x) ids (omega (arith, up_most 32 (take len ids) x few))

-- what an answer says of the test that it goes by
pub at_in : (s : Bool) (i j : ℕ) {a : (Option ℕ)} → a ≡ Some i → paper a 0 ≡ cond s (values j) (refusal 15 0) → (s ≡ true) × (i ≡ j)
at_in true i j e h = let same : values i ≡ values j = rw e at h in (refl, cc)
at_in false i j e h = let other : values i ≡ refusal 15 0 = rw e at h in let z : ◌≡◌ {A = ℕ} 0 1 = cc in absurd (omega arith)

pub full_in : (s : Bool) (j : ℕ) {a : (Option ℕ)} → a ≡ None → paper a 0 ≡ cond s (values j) (refusal 15 0) → s ≡ false
full_in true j e h = let other : refusal 15 0 ≡ values j = rw e at h in let z : ◌≡◌ {A = ℕ} 0 1 = cc in absurd (omega arith)
full_in false j e h = refl
