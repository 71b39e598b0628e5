-- The seeds: at most six, and a turn of `seed_areas`, where what is left of them, added from here, makes the whole.
use Rattle.std.proofs.Common.{◌≡◌, ℕ, ◌+◌, ◌<◌, ◌≤◌, List, [], ◌∷◌, length, get_or, take, drop, sym, refl, ap, ◌∙◌, add-one, arith, length-append, length-take-le, drop-cons}
use lib.Seq.{drop-length}
use Rattle.fields.specs.Bytes.{over, zeros}
use Rattle.fields.proofs.Over.{length_over, take_over, over_longer}
use Rattle.distinct.specs.Distinct.{with_new, distinct_from}
use Rattle.distinct.specs.Numbers.{up_to}
use Rattle.distinct.proofs.Laws.{length_with, up_room}
use Rattle.distinct.proofs.Final.{with_grows, length_distinct}
use Rattle.areas.specs.Areas.{seeds, seeded}
use Rattle.areas.specs.Tables.{with_area, stored}
use Rattle.areas.specs.declared.Areas.{Areas}

pub length_seeded : (a : ℕ) → length (seeded a) ≤ 6
length_seeded a = length_distinct [] (seeds a)

-- the table that they make: 32 words, and what stands in it
pub seeds_long : (a : ℕ) (r : Areas) → r ≡ stored (seeded a) (zeros 32) → length r.ids ≡ 32
seeds_long a r e = rw e (length_over (seeded a) (zeros 32))

pub seeds_are : (a : ℕ) (r : Areas) → r ≡ stored (seeded a) (zeros 32) → take r.len r.ids ≡ seeded a
seeds_are a r e = rw e (take_over (seeded a) (zeros 32) (omega (arith, length_seeded a)))

-- before the seed at i of xs, the first `len` words of `ids` being the table so far
pub record Seeding (xs ids : List ℕ) (len i : ℕ) : Type 0 where
  pub few : len ≤ i
  pub long : length ids ≡ 32
  pub words : ids ≡ over (take len ids) (zeros 32)
  pub left : distinct_from (take len ids) (drop i xs) ≡ distinct_from [] xs

pub seeding_start : (xs : List ℕ) → Seeding xs (zeros 32) 0 0
unfolding over
seeding_start xs = record { few = omega arith; long = refl; words = refl; left = refl }

module _ (xs ids : List ℕ) (len i x : ℕ) (g : Seeding xs ids len i) (lt : i < length xs) (small : i < 32) (ex : x ≡ get_or xs i 0) where
  taken_length : length (take len ids) ≡ len
  taken_length = length-take-le len ids (omega (arith, g.few, g.long))

  grown : up_to 32 (take len ids) x ≡ with_new (take len ids) x
  grown = up_room 32 (take len ids) x (omega (arith, taken_length, g.few))

  more : drop i xs ≡ x ∷ drop (i + 1) xs
  more = rw (add-one, ex) (drop-cons xs i 0 lt)

  longer : length (take len ids) ≤ length (with_new (take len ids) x)
  longer = let w = with_grows (take len ids) x in omega (arith, ap length w.1 ∙ length-append (take len ids) w.0)

  pub seeding_turn : (t : Areas) → t ≡ with_area (record { ids = ids; len = len }) x → Seeding xs t.ids t.len (i + 1)
  unfolding distinct_from
  seeding_turn t et =
      let l = with_new (take len ids) x in
      let el : t.len ≡ length l = ap (λ (r : Areas). r.len) et ∙ ap length grown in
      let ei : t.ids ≡ over (up_to 32 (take len ids) x) ids = ap (λ (r : Areas). r.ids) et in
      let front : take t.len t.ids ≡ l = rw (el, ei, grown) (take_over l ids (omega (arith, length_with (take len ids) x, taken_length, g.few, g.long))) in
      record {
        few = omega (arith, el, length_with (take len ids) x, taken_length, g.few);
        long = rw (ei, length_over) g.long;
        words = rw front (ei ∙ ap (λ (z : List ℕ). over z ids) grown ∙ ap (over l) g.words ∙ over_longer (take len ids) l (zeros 32) longer);
        left = rw front (sym (rw more) ∙ g.left);
      }

pub seeding_done : (xs ids : List ℕ) (len i : ℕ) → Seeding xs ids len i → i ≡ length xs → i ≤ 32 → record { ids = ids; len = len } ≡ stored (distinct_from [] xs) (zeros 32)
unfolding distinct_from
seeding_done xs ids len i g e few =
    let none : drop i xs ≡ [] = rw e (drop-length xs) in
    let all : take len ids ≡ distinct_from [] xs = sym (rw none) ∙ g.left in
    let taken_length : len ≡ length (distinct_from [] xs) = sym (length-take-le len ids (omega (arith, g.few, g.long))) ∙ ap length all in
    let words : ids ≡ over (distinct_from [] xs) (zeros 32) = g.words ∙ ap (λ (l : List ℕ). over l (zeros 32)) all in
    cc
