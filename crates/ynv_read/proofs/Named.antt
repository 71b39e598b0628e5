-- The refusals of a reading, each with its number and place: all but 2, which is the lent strip's. Assumes nothing.
use Prim.Native.Nat.{ℕ, zero, suc, ◌*◌, ◌≤◌, ◌<◌}
use native.Mathlib.Omega.{arith}
use mathlib.Core.Path.{◌≡◌, refl}
use mathlib.Core.Bool.{Bool, true, false}
use mathlib.Core.List.{List, [], ◌∷◌, ◌++◌}
use mathlib.Core.Logic.{⊎_elim}
use lib.Dec.{ltb}
use lib.ListN.{length}
use Rattle.fields.specs.Bytes.{le_at}
use Rattle.resource.specs.Section.{good}
use Rattle.strip.specs.Outcome.{Paper, values, refusal}
use Rattle.strip.specs.Box.{finite_box}
use Rattle.read_grammar.specs.Trees.{subs_to}
use Rattle.read_lists.specs.Lists.{readable_at, listed}
use Rattle.read_lists.proofs.Accepted.{listed_refused}
use Rattle.read_sectors.specs.Sector.{good_data, points_of}
use Rattle.read_sectors.specs.Walk.{Walked, walk, also, checked, sector_at}
use Rattle.read_sectors.specs.Walk as Walk
use Rattle.read_list_set.specs.declared.Limits.{Limits}
use Rattle.read_polygons.specs.Polygons.{limits_of}
use Rattle.read_polygon_tally.specs.Tally.{tally_from}
use Rattle.read_polygon_tally.proofs.Tallies.{tally_refused}
use Rattle.read_decide.specs.Reading.{Reading, made, refused, check, on_paper, on_walk, header, root_at, head, source, polygons, portal_count, cell_of, on_head, on_lists, after_walk, read_cell}
use Rattle.ynv_read.specs.Theorems.{Named, bad_header, no_root, bad_sector, many_sectors, bad_data, bad_box, bad_list, bad_counts, bad_run, bad_index, bad_portals}

abbrev pub AsNamed : ℕ → Reading → Type 0
AsNamed polys (made c k) = Unit
AsNamed polys (refused number place) = Named polys number place

-- none of them is 2
pub late : {polys number place : ℕ} → Named polys number place → 30 ≤ number
late bad_header = omega arith
late no_root = omega arith
late bad_sector = omega arith
late many_sectors = omega arith
late bad_data = omega arith
late bad_box = omega arith
late (bad_list h k) = omega arith
late (bad_counts h k) = omega arith
late (bad_run h) = omega arith
late (bad_index h) = omega arith
late bad_portals = omega arith

named_at : {polys m n p q : ℕ} → m ≡ n → p ≡ q → Named polys n q → Named polys m p
named_at e f h = rw (e, f) h

checks : {polys : ℕ} (b : Bool) (number : ℕ) (rest : Reading) → Named polys number 0 → AsNamed polys rest → AsNamed polys (check b number rest)
checks true number rest h k = k
checks false number rest h k = h

module _ (S G : List ℕ) where
  abbrev count : ℕ
  count = length (polygons S G)

  lists : (w va place : ℕ) (rest : Reading) → 1 ≤ place → place ≤ 4 → AsNamed count rest → AsNamed count (on_paper (listed S G w va place) rest)
  lists w va place rest lo hi k = by (listed S G w va place) refl
    where
      by : (a : Paper ℕ) → listed S G w va place ≡ a → AsNamed count (on_paper a rest)
      by (values n) e = k
      by (refusal number p) e =
          let (f, g) = listed_refused S G w va place e in
          ⊎_elim (λ h. named_at h g (bad_list lo hi)) (λ h. named_at h g (bad_counts lo hi)) f

  -- a walk's own: 32, 33, 34
  abbrev WalkNamed : Walked → Type 0
  WalkNamed (Walk.done left points) = Unit
  WalkNamed (Walk.refused number) = Named count number 0

  walk_also : (ps : List (List ℕ)) (w : Walked) → WalkNamed w → WalkNamed (also ps w)
  walk_also ps (Walk.done left points) h = tt
  walk_also ps (Walk.refused number) h = h

  walk_checked : (a b : Bool) (w : Walked) → WalkNamed w → WalkNamed (checked a b w)
  walk_checked false b w h = bad_sector
  walk_checked true false w h = bad_data
  walk_checked true true w h = h

  walks : (n : ℕ) (vas : List ℕ) → WalkNamed (walk S G n vas)
  unfolding walk
  walks zero [] = tt
  walks zero (va ∷ vas) = many_sectors
  walks (suc n) [] = tt
  walks (suc n) (va ∷ vas) =
      let s = sector_at S G va in
      let w = walk S G n (subs_to s 4 ++ vas) in
      walk_checked (good S G va 96) (good_data S G s) (also (points_of S G s) w) (walk_also (points_of S G s) w (walks n (subs_to s 4 ++ vas)))

  on_walk_lem : (w : Walked) (rest : List (List ℕ) → ℕ → Reading) → WalkNamed w → ((ps : List (List ℕ)) (k : ℕ) → AsNamed count (rest ps k)) → AsNamed count (on_walk w rest)
  on_walk_lem (Walk.done left points) rest h f = f points _
  on_walk_lem (Walk.refused number) rest h f = h

  tallies : (l : Limits) (is : List (List ℕ)) (rest : Reading) → AsNamed count rest → AsNamed count (on_paper (tally_from l is 0 (polygons S G)) rest)
  tallies l is rest k = by (tally_from l is 0 (polygons S G)) refl
    where
      by : (t : Paper ℕ) → tally_from l is 0 (polygons S G) ≡ t → AsNamed count (on_paper t rest)
      by (values n) e = k
      by (refusal number p) e =
          let (f, lo, hi) = tally_refused l is 0 (polygons S G) {m = number} {q = p} e in
          let inside : p < count = omega arith in
          ⊎_elim (λ h. named_at h refl (bad_run inside)) (λ h. named_at h refl (bad_index inside)) f

  after_walk_lem : (ps : List (List ℕ)) (k : ℕ) → AsNamed count (after_walk S G ps k)
  unfolding after_walk on_lists
  after_walk_lem ps k =
      let h = header S G in
      let s = source S G in
      let last = check (readable_at S G (le_at 8 h 0x128) (28 * portal_count S G)) 39 (made (cell_of S G ps) k) in
      let o₅ = on_paper (tally_from (limits_of s) s.indices 0 (polygons S G)) last in
      let o₄ = on_paper (listed S G 48 (le_at 8 h 0x118) 4) o₅ in
      let o₃ = on_paper (listed S G 8 (le_at 8 h 0x88) 3) o₄ in
      let o₂ = on_paper (listed S G 2 (le_at 8 h 0x80) 2) o₃ in
      lists 6 (le_at 8 h 0x70) 1 o₂ (omega arith) (omega arith)
      (lists 2 (le_at 8 h 0x80) 2 o₃ (omega arith) (omega arith)
      (lists 8 (le_at 8 h 0x88) 3 o₄ (omega arith) (omega arith)
      (lists 48 (le_at 8 h 0x118) 4 o₅ (omega arith) (omega arith)
      (tallies (limits_of s) s.indices last
      (checks (readable_at S G (le_at 8 h 0x128) (28 * portal_count S G)) 39 (made (cell_of S G ps) k) bad_portals tt)))))

  pub named : AsNamed count (read_cell S G)
  unfolding read_cell on_head
  named =
      let w = walk S G 4096 (root_at S G ∷ []) in
      let o₄ = on_walk w (after_walk S G) in
      let o₃ = check (finite_box (head S G)) 40 o₄ in
      let o₂ = check (readable_at S G (root_at S G) 96) 32 o₃ in
      let o₁ = check (ltb 0 (root_at S G)) 31 o₂ in
      checks (readable_at S G 0x5000_0000 368) 30 o₁ bad_header
      (checks (ltb 0 (root_at S G)) 31 o₂ no_root
      (checks (readable_at S G (root_at S G) 96) 32 o₃ bad_sector
      (checks (finite_box (head S G)) 40 o₄ bad_box (on_walk_lem w (after_walk S G) (walks 4096 (root_at S G ∷ [])) after_walk_lem))))
