-- What each step over the corners leaves in lent memory: work holds the vertex table (b roots of trees, then two words to each of m vertices) and
-- behind it the corners' numbers; ids holds the areas. Definitions only.
use Rattle.std.specs.Prelude.{ℕ, ◌+◌, ◌*◌, ◌≤◌, min, ◌≡◌, cond, List, [], ◌∷◌, ◌++◌, length, take, drop, ltb, Result, Ok, Err, IsOk}
use Rattle.strip.specs.Reading.{word}
use Rattle.areas.specs.EdgeHalf.{adjacent_none}
use Rattle.distinct.specs.Distinct.{with_new, index_of, distinct_from}
use Rattle.distinct.specs.Numbers.{numbers_from}
use Rattle.write_vertices.specs.Table.{Table, met}
use Rattle.write_pages.specs.Items.{Corner, triples, named}
use Rattle.write_pages.specs.Checks.{Verdict, refused, fault_if, first_fault, at, corners_fault}
use Rattle.strip.specs.Reasons.{reason_number}
use Rattle.strip.specs.declared.Reason.{Reason}
use Rattle.write_corner_checks.specs.declared.Tables.{Tables}

-- the area that stands at a place for a half of edge i, and that of no neighbour where there are only so many edges
unfoldable pub area_or : (strip : List ℕ) → (place i edges : ℕ) → ℕ
area_or strip place i edges = cond (ltb i edges) (word strip place) adjacent_none

-- ---- what a check says

-- each case at a place, and then the rest
abbrev pub check_then : {A : Type 0} → Result A Reason → ℕ → Verdict → Verdict
check_then (Ok a) place rest = rest
check_then (Err reason) place rest = refused (reason_number reason) place

-- a check has this fault, 0 for none: wherever it stands and whatever comes after it
abbrev pub HasFault : {A : Type 0} → Result A Reason → ℕ → Type 0
HasFault c fault = (place : ℕ) (rest : Verdict) → check_then c place rest ≡ at place fault rest

-- ---- faults, by the values that a step has. us are the areas so far, ts the triples

-- 15
abbrev pub area_fault : (us : List ℕ) → (a : ℕ) → ℕ
area_fault us a = fault_if (ltb 32 (length (with_new us a))) 15

-- 15 for half a, then for half b
abbrev pub edge_faults : (us : List ℕ) → (a b : ℕ) → List ℕ
edge_faults us a b = area_fault us a ∷ area_fault (with_new us a) b ∷ []

-- 14, then 15
abbrev pub corner_faults : (ts us : List ℕ) → (x a b : ℕ) → List ℕ
corner_faults ts us x a b = fault_if (ltb 65536 (length (with_new ts x))) 14 ∷ edge_faults us a b

-- ---- an edge

-- ids' is ids, with `len` areas, after the area a, with the answer r
pub record AreaHas (ids ids' : List ℕ) (len a : ℕ) (r : Result ℕ Reason) : Type 0 where
  pub fault : HasFault r (area_fault (take len ids) a)
  pub long : length ids' ≡ 32
  pub now_ids : (n : ℕ) → r ≡ Ok n → take n ids' ≡ with_new (take len ids) a

-- the same after the areas a and b of an edge
pub record EdgeHas (ids ids' : List ℕ) (len a b : ℕ) (r : Result ℕ Reason) : Type 0 where
  pub fault : HasFault r (first_fault (edge_faults (take len ids) a b))
  pub long : length ids' ≡ 32
  pub now_ids : (n : ℕ) → r ≡ Ok n → take n ids' ≡ with_new (with_new (take len ids) a) b

-- ---- corners

-- the words behind the vertex table
abbrev pub behind_table : List ℕ → ℕ → ℕ → List ℕ
behind_table w b m = drop (b + 2 * m) w

-- w holds a table of n vertices, no more than corners so far, with room for m vertices and as many indices; ids has room for 32 areas
pub record TablesReady (w ids : List ℕ) (b m n item : ℕ) : Type 0 where
  pub table : Table w b n
  pub few : n ≤ item
  pub room : b + 3 * m ≤ length w
  pub trees : min m 65536 ≤ b
  pub areas : length ids ≡ 32

-- what the corners ks, the first of them number `item`, add: from w and ids with the counts t to w' and ids' with the counts t'
pub record Added (w w' ids ids' : List ℕ) (b m : ℕ) (t t' : Tables) (item : ℕ) (ks : List Corner) : Type 0 where
  pub now_met : met w' b t'.vertices ≡ distinct_from (met w b t.vertices) (triples ks)
  pub now_ids : take t'.areas ids' ≡ distinct_from (take t.areas ids) (named ks)
  pub indices : take (item + length ks) (behind_table w' b m) ≡ take item (behind_table w b m) ++ numbers_from (met w b t.vertices) (triples ks)

-- after the corner number `item`, with the triple x and the areas y and z: from the tables t to the tables t', after a refusal too
pub record CornerDone (w w' ids ids' : List ℕ) (b m : ℕ) (t t' : Tables) (item x y z : ℕ) (r : Result (Unit {0}) Reason) : Type 0 where
  pub fault : HasFault r (first_fault (corner_faults (met w b t.vertices) (take t.areas ids) x y z))
  pub ready : TablesReady w' ids' b m t'.vertices (item + 1)
  pub long : length w' ≡ length w
  pub back : drop (item + 1) (behind_table w' b m) ≡ drop (item + 1) (behind_table w b m)
  pub now_met : IsOk r → met w' b t'.vertices ≡ with_new (met w b t.vertices) x
  pub now_ids : IsOk r → take t'.areas ids' ≡ with_new (with_new (take t.areas ids) y) z
  pub index : IsOk r → take (item + 1) (behind_table w' b m) ≡ take item (behind_table w b m) ++ (index_of (met w b t.vertices) x ∷ [])

-- after the corners ks, the first of them number `item`: from the tables t to the tables t', after a refusal too
pub record CornersDone (w w' ids ids' : List ℕ) (b m : ℕ) (t t' : Tables) (item : ℕ) (ks : List Corner) (r : Result ℕ Reason) : Type 0 where
  pub fault : HasFault r (corners_fault (met w b t.vertices) (take t.areas ids) ks)
  pub ready : TablesReady w' ids' b m t'.vertices (item + length ks)
  pub long : length w' ≡ length w
  pub back : drop (item + length ks) (behind_table w' b m) ≡ drop (item + length ks) (behind_table w b m)
  pub added : IsOk r → Added w w' ids ids' b m t t' item ks
