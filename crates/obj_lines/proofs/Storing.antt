-- Lines of items by the turns of a loop over them, and the invariant of the loops that store such lines one behind the other. Assumes nothing.
use mathlib.Core.Path.{◌≡◌, refl, ap, ◌∙◌}
use mathlib.Core.List.{List, [], ◌++◌}
use Prim.Native.Nat.{ℕ, ◌+◌, ◌-◌, ◌≤◌, ◌<◌}
use native.Mathlib.Omega.{arith}
use lib.ListN.{length, length-append}
use Rattle.decimal.specs.Stored.{Stored}
use Rattle.decimal.proofs.Stored.{nothing, stored_then, kept}
use Rattle.strip.specs.Cell.{each}
use Rattle.strip.specs.Reading.{items_at}
use Rattle.strip.proofs.Steps.{items_turn, items_done}

-- The invariant: what stores `rest` from here on has stored `all` from there on, and there is room for it.
pub record Storing (at : ℕ) (all old : List ℕ) (to : ℕ) (rest text : List ℕ) : Type 0 where
  pub size : length text ≡ length old
  pub room : to + length rest ≤ length text
  pub on : (new : List ℕ) (next : ℕ) → Stored to rest text new next → Stored at all old new next

pub begins : {at : ℕ} {all rest old : List ℕ} → at + length all ≤ length old → rest ≡ all → Storing at all old at rest old
begins h e = record { size = refl; room = rw e h; on = λ new next s. rw e at s }

-- a turn has room for the first part of the rest, and one that stores it goes on
pub has_room : {at to : ℕ} {all old rest text : List ℕ} (a b : List ℕ) → Storing at all old to rest text → rest ≡ a ++ b → to + length a ≤ length text
has_room a b k e = omega (arith, k.room, ap length e ∙ length-append a b)

pub goes_on : {at to to' : ℕ} {all old a b rest text text' : List ℕ} → Storing at all old to rest text → rest ≡ a ++ b → Stored to a text text' to' → Storing at all old to' b text'
goes_on {at} {to} {to'} {all} {old} {a} {b} k e s = record {
  size = kept s ∙ k.size;
  room = omega (arith, k.room, ap length e ∙ length-append a b, kept s, s.place);
  on = λ new next t. k.on new next (rw e (stored_then s t));
}

pub ends : {at to : ℕ} {all old rest text : List ℕ} → Storing at all old to rest text → rest ≡ [] → Stored at all old text to
ends {at} {to} {all} {old} {rest} {text} k e = k.on text to (rw e nothing)

-- the lines of items, by a turn of a loop over 0..n
module _ {A : Type 0} (line : A → List ℕ) (item : ℕ → A) (next : ℕ → ℕ) (at i n : ℕ) where
  pub lines_turn : i < n → each line (items_at item next at (n - i)) ≡ line (item at) ++ each line (items_at item next (next at) (n - (i + 1)))
  unfolding each
  lines_turn h = rw (items_turn item next at i n h)

  pub lines_done : n ≤ i → each line (items_at item next at (n - i)) ≡ []
  unfolding each
  lines_done h = rw (items_done item next at i n h)
