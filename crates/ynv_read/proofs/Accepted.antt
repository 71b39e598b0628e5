-- What a reading that made a cell has passed: each check, the walk, each list, the polygons. Assumes nothing.
use Prim.Native.Nat.{ℕ, ◌-◌, ◌*◌}
use mathlib.Core.Path.{◌≡◌}
use mathlib.Core.Bool.{true}
use mathlib.Core.List.{List, [], ◌∷◌}
use lib.Dec.{ltb}
use Rattle.fields.specs.Bytes.{le_at}
use Rattle.strip.specs.Outcome.{values}
use Rattle.strip.specs.Cell.{Cell}
use Rattle.strip.specs.Box.{finite_box}
use Rattle.read_lists.specs.Lists.{readable_at, listed}
use Rattle.read_sectors.specs.Walk.{walk}
use Rattle.read_sectors.specs.Walk as Walk
use Rattle.read_polygons.specs.Polygons.{limits_of}
use Rattle.read_polygon_tally.specs.Tally.{tally_from}
use Rattle.read_decide.specs.Reading.{made, check, on_paper, on_walk, header, root_at, head, source, polygons, portal_count, cell_of, on_head, on_lists, after_walk, read_cell}
use Rattle.ynv_read.proofs.Checks.{check_in, paper_in, walk_in}

-- the list of items of w bytes whose address stands in the header at off was accepted
abbrev pub Listed : (S G : List ℕ) (w off place : ℕ) → Type 0
Listed S G w off place = (n : ℕ) × (listed S G w (le_at 8 (header S G) off) place ≡ values n)

pub record Accepted (S G : List ℕ) (c : Cell) (k : ℕ) : Type 0 where
  pub header_whole : readable_at S G 0x5000_0000 368 ≡ true
  pub root_whole : readable_at S G (root_at S G) 96 ≡ true
  pub box : finite_box (head S G) ≡ true
  pub left : ℕ
  pub points : List (List ℕ)
  pub walked : walk S G 4096 (root_at S G ∷ []) ≡ Walk.done left points
  pub vertex_list : Listed S G 6 0x70 1
  pub index_list : Listed S G 2 0x80 2
  pub edge_list : Listed S G 8 0x88 3
  pub polygon_list : Listed S G 48 0x118 4
  pub words : ℕ
  pub tally : tally_from (limits_of (source S G)) (source S G).indices 0 (polygons S G) ≡ values words
  pub portals_whole : readable_at S G (le_at 8 (header S G) 0x128) (28 * portal_count S G) ≡ true
  pub is : c ≡ cell_of S G points
  pub sectors : k ≡ 4096 - left

pub accepted : (S G : List ℕ) {c : Cell} {k : ℕ} → read_cell S G ≡ made c k → Accepted S G c k
unfolding read_cell on_head after_walk on_lists
accepted S G e =
    let s = source S G in
    let hh = header S G in
    let w = walk S G 4096 (root_at S G ∷ []) in
    let o₄ = on_walk w (after_walk S G) in
    let o₃ = check (finite_box (head S G)) 40 o₄ in
    let o₂ = check (readable_at S G (root_at S G) 96) 32 o₃ in
    let o₁ = check (ltb 0 (root_at S G)) 31 o₂ in
    let (h, e₁) = check_in (readable_at S G 0x5000_0000 368) 30 o₁ e in
    let e₂ = (check_in (ltb 0 (root_at S G)) 31 o₂ e₁).1 in
    let (r, e₃) = check_in (readable_at S G (root_at S G) 96) 32 o₃ e₂ in
    let (b, e₄) = check_in (finite_box (head S G)) 40 o₄ e₃ in
    let (l, points, walked, e₅) = walk_in w (after_walk S G) e₄ in
    let cell = made (cell_of S G points) (4096 - l) in
    let p₅ = check (readable_at S G (le_at 8 hh 0x128) (28 * portal_count S G)) 39 cell in
    let p₄ = on_paper (tally_from (limits_of s) s.indices 0 (polygons S G)) p₅ in
    let p₃ = on_paper (listed S G 48 (le_at 8 hh 0x118) 4) p₄ in
    let p₂ = on_paper (listed S G 8 (le_at 8 hh 0x88) 3) p₃ in
    let p₁ = on_paper (listed S G 2 (le_at 8 hh 0x80) 2) p₂ in
    let (n₁, l₁, f₁) = paper_in (listed S G 6 (le_at 8 hh 0x70) 1) p₁ e₅ in
    let (n₂, l₂, f₂) = paper_in (listed S G 2 (le_at 8 hh 0x80) 2) p₂ f₁ in
    let (n₃, l₃, f₃) = paper_in (listed S G 8 (le_at 8 hh 0x88) 3) p₃ f₂ in
    let (n₄, l₄, f₄) = paper_in (listed S G 48 (le_at 8 hh 0x118) 4) p₄ f₃ in
    let (n, t, f₅) = paper_in (tally_from (limits_of s) s.indices 0 (polygons S G)) p₅ f₄ in
    let (g, f₆) = check_in (readable_at S G (le_at 8 hh 0x128) (28 * portal_count S G)) 39 cell f₅ in
    record {
      header_whole = h;
      root_whole = r;
      box = b;
      left = l;
      points = points;
      walked = walked;
      vertex_list = (n₁, l₁);
      index_list = (n₂, l₂);
      edge_list = (n₃, l₃);
      polygon_list = (n₄, l₄);
      words = n;
      tally = t;
      portals_whole = g;
      is = cc f₆;
      sectors = cc f₆;
    }
