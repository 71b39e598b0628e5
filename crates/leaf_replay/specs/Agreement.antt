-- What the leaves, `pick_poly`, `export_obj`, `count_seams` and `reachable` make of a record's words in, by its tag, and when a record agrees with them. Definitions only.
use Rattle.std.specs.Prelude.{ℕ, ◌+◌, ◌-◌, ◌*◌, ◌%◌, ◌≤◌, ◌<◌, ◌≡◌, Bool, true, false, cond, List, [], ◌∷◌, length, get_or, take, drop, Float}
use Rattle.std.specs.Float.{binary32}
use Rattle.std.specs.Float.Ieee.{of_bits, to_bits}
use Rattle.fields.specs.Bytes.{over, zeros}
use Rattle.quantise.specs.Short.{short, coordinate}
use Rattle.quarters.specs.Quarter.{quarter_floor, quarter_ceil, bits16}
use Rattle.areas.specs.Areas.{seeded}
use Rattle.areas.specs.Tables.{stored, area_ids, area_at, with_area}
use Rattle.areas.specs.declared.Areas.{Areas}
use Rattle.write_blocks.specs.Layout.{place_of}
use Rattle.strip.specs.Outcome.{Paper, refusal, values, shown}
use Rattle.strip.specs.Checked.{strip_outcome}
use Rattle.units.specs.Entries.{number_of, answer_of}
use Rattle.answers.specs.Words as Words
use Rattle.pick_contains.specs.declared.Spot.{Spot}
use Rattle.picking.specs.Picking.{pick_outcome}
use Rattle.pick_entry.specs.Entries.{found_words}
use Rattle.obj_replay.specs.Agreement.{DrawingAgrees}
use Rattle.seams.specs.Seams.{seam_outcome}
use Rattle.seams.specs.Entries.{seam_words}
use Rattle.reach_replay.specs.Agreement.{WalkAgrees}
use Rattle.replay.specs.Ends.{record_end}
use Rattle.replay.specs.Tallies.{Within, Passed, Counted}
use Rattle.replay.specs.declared.Tally.{Tally}
use Rattle.leaf_replay.specs.declared.Taken.{Taken}
use Rattle.leaf_replay.specs.declared.Record.{Record}

-- word k as a float
abbrev pub float_at : List ℕ → ℕ → Float
float_at i k = of_bits binary32 (get_or i k 0)

abbrev pub short_of : List ℕ → ℕ
short_of i = short (float_at i 0) (float_at i 1) (float_at i 2)

abbrev pub back_of : List ℕ → ℕ
back_of i = to_bits binary32 (coordinate (get_or i 0 0 % 65536) (float_at i 1) (float_at i 2))

abbrev pub floor_of : List ℕ → ℕ
floor_of i = bits16 (quarter_floor (float_at i 0))

abbrev pub ceil_of : List ℕ → ℕ
ceil_of i = bits16 (quarter_ceil (float_at i 0))

abbrev pub place_in : List ℕ → ℕ
place_in i = place_of (get_or i 0 0) (get_or i 1 0)

abbrev pub strip_number : List ℕ → ℕ
strip_number i = number_of (shown (strip_outcome i))

abbrev pub strip_words : List ℕ → List ℕ
strip_words i = over (answer_of (shown (strip_outcome i))) (zeros 8)

-- the spot that stands before a strip, and what picking there answers for C
abbrev pub spot_in : List ℕ → Spot
spot_in i = record { x = get_or i 0 0 % 65536; y = get_or i 1 0 % 65536 }

abbrev pub pick_number : List ℕ → ℕ
pick_number i = Words.number_of (shown (pick_outcome (drop 2 i) (spot_in i)))

abbrev pub pick_words : List ℕ → List ℕ
pick_words i = over (Words.answer_words found_words (shown (pick_outcome (drop 2 i) (spot_in i)))) (zeros 8)

-- what counting a strip's seams answers for C
abbrev pub seams_number : List ℕ → ℕ
seams_number i = Words.number_of (shown (seam_outcome i))

abbrev pub seams_words : List ℕ → List ℕ
seams_words i = over (Words.answer_words seam_words (shown (seam_outcome i))) (zeros 8)

abbrev pub is_refused : Paper ℕ → Bool
is_refused (values i) = false
is_refused (refusal number place) = true

-- the table after as many ids as are taken before a 33rd area, and how many these are with n before them
unfoldable pub taking : Areas → ℕ → List ℕ → Taken
taking t n [] = record { areas = t; count = n }
taking t n (x ∷ xs) = cond (is_refused (area_at (area_ids t) x 0)) (record { areas = t; count = n }) (taking (with_area t x) (n + 1) xs)

-- the words out are how many ids are taken, the length of the table and its 32 words
pub record AreasAgree (i o : List ℕ) : Type 0 where
  pub end : Taken
  pub taken : end ≡ taking (stored (seeded (get_or i 0 0)) (zeros 32)) 0 (drop 1 i)
  pub count : end.count ≡ get_or o 0 0
  pub len : end.areas.len ≡ get_or o 1 0
  pub ids : (k : ℕ) → k < 32 → get_or end.areas.ids k 0 ≡ get_or o (k + 2) 0

-- the first three of ws stand behind the first of o
pub record FirstThree (ws o : List ℕ) : Type 0 where
  pub polys : get_or ws 0 0 ≡ get_or o 1 0
  pub portals : get_or ws 1 0 ≡ get_or o 2 0
  pub points : get_or ws 2 0 ≡ get_or o 3 0

-- a record of a tag, with the words i in and the words o out, agrees
pub data Agrees : ℕ → List ℕ → List ℕ → Type 0 where
  as_short : {i o : List ℕ} → short_of i ≡ get_or o 0 0 → Agrees 1 i o
  as_back : {i o : List ℕ} → back_of i ≡ get_or o 0 0 → Agrees 2 i o
  as_quarter : {i o : List ℕ} → (floor_of i ≡ get_or o 0 0) × (ceil_of i ≡ get_or o 1 0) → Agrees 3 i o
  as_areas : {i o : List ℕ} → AreasAgree i o → Agrees 4 i o
  as_place : {i o : List ℕ} → place_in i ≡ get_or o 0 0 + 0x1_0000_0000 * get_or o 1 0 → Agrees 5 i o
  as_strip : {i o : List ℕ} → (strip_number i ≡ get_or o 0 0) × FirstThree (strip_words i) o → Agrees 6 i o
  as_pick : {i o : List ℕ} → (pick_number i ≡ get_or o 0 0) × FirstThree (pick_words i) o → Agrees 7 i o
  as_drawing : {i o : List ℕ} → DrawingAgrees i o → Agrees 8 i o
  as_seams : {i o : List ℕ} → (seams_number i ≡ get_or o 0 0) × FirstThree (seams_words i) o → Agrees 9 i o
  as_walk : {i o : List ℕ} → WalkAgrees i o → Agrees 10 i o

-- where the parts of the record at a place stand: what the list lacks is left out
abbrev pub output_at : List ℕ → ℕ → ℕ
output_at ws at = record_end (length ws) (at + 3) (get_or ws (at + 1) 0)

abbrev pub next_at : List ℕ → ℕ → ℕ
next_at ws at = record_end (length ws) (output_at ws at) (get_or ws (at + 2) 0)

abbrev pub record_of : List ℕ → ℕ → Record
record_of ws at = record { input = at + 3; output = output_at ws at; next = next_at ws at }

abbrev pub between : List ℕ → (from to : ℕ) → List ℕ
between ws from to = take (to - from) (drop from ws)

-- whether a record whose parts stand so agrees, and whether its tag is one of those that are asked for
abbrev pub AgreesAt : List ℕ → ℕ → Record → Type 0
AgreesAt ws at r = Agrees (get_or ws at 0) (between ws r.input r.output) (between ws r.output r.next)

abbrev pub Asked : List ℕ → (low high at : ℕ) → Type 0
Asked ws low high at = Within low high (get_or ws at 0)

-- the tally of the records with such a tag: of those before a place, and of all
abbrev pub PassedAt : List ℕ → (low high at : ℕ) → Tally → Type 0
PassedAt ws low high = Passed (λ (at : ℕ). at + 3 ≤ length ws) (λ (at : ℕ). Asked ws low high at) (λ (at : ℕ). AgreesAt ws at (record_of ws at)) (λ (at : ℕ). next_at ws at) (length ws)

abbrev pub TallyOf : List ℕ → (low high : ℕ) → Tally → Type 0
TallyOf ws low high = Counted (λ (at : ℕ). at + 3 ≤ length ws) (λ (at : ℕ). Asked ws low high at) (λ (at : ℕ). AgreesAt ws at (record_of ws at)) (λ (at : ℕ). next_at ws at) (length ws)

-- a record at a place of n words, which it goes beyond and does not leave
pub record LeafRecordInside (at : ℕ) (r : Record) (n : ℕ) : Type 0 where
  pub starts : at < r.input
  pub ends : r.input ≤ r.output
  pub to_next : r.output ≤ r.next
  pub within : r.next ≤ n
