-- How long an accepted cell's pages are at most, from the words of its strip, and how long the strip is that is read from them. Assumes nothing.
use Prim.Native.Nat.{ℕ, zero, suc, ◌+◌, ◌*◌, ◌/◌, ◌%◌, ◌^◌, ◌≤◌}
use mathlib.Core.Path.{◌≡◌}
use mathlib.Core.List.{List, [], ◌∷◌, ◌++◌, map}
use native.Mathlib.Omega.{arith}
use lib.ListN.{length, length-map}
use Rattle.quarters.specs.declared.quarter.QuarterBox.{QuarterBox}
use Rattle.strip.specs.Cell.{Cell, encode}
use Rattle.distinct.proofs.Final.{length_distinct}
use Rattle.write_blocks.specs.Lists.{part_count, list_sizes}
use Rattle.write_pages.specs.Items.{Corner, box_of, triples}
use Rattle.write_blocks.specs.Optional.{size_of}
use Rattle.write_pages.specs.Sectors as Sectors
use Rattle.write_pages.specs.Sectors.{leaf_ids, tree_of, point_count, depth_by, depth_of, root_box}
use Rattle.write_pages.specs.Pages as Pages
use Rattle.write_pages.specs.Pages.{all_corners, bb_min, bb_size, vertices, links, sectors, sizes_of, sizes, pages}
use Rattle.write_pages.specs.Reread.{reread}
use Rattle.write_pages.specs.Accepted.{Accepted}
use Rattle.write_pages.proofs.Placed.{few_corners, at_most_200, pages_placed}
use Rattle.write_pages.proofs.Sizes.{pages_length}
use Rattle.write_leaf_counts.proofs.Picks.{ids_few}
use Rattle.write_pages.proofs.LeafCounts.{few_stored}
use Rattle.write_blocks.specs.Laid.{sum_of}
use Rattle.write_blocks.proofs.Layouts.{end_sum, sum_append}
use Rattle.write_ends.proofs.Cells.{sum_some, sum_tree}
use Rattle.rooms.specs.Rooms.{pages_room, strip_room}
use Rattle.rooms.proofs.Ends.{most, end_most, most_append, most_some, list_most, list_sum, tree_most, tree_most_lem, points_bytes}
use Rattle.write_pages.proofs.Stored.{stored_at_most}
use Rattle.rooms.proofs.Words.{three_corners, words_least, words_again}

-- ---- the tree

tree_deep : (p n : ℕ) → tree_most p (depth_by n) ≤ 6091 + 64 * p
tree_deep p zero = omega arith
tree_deep p (suc n) = omega arith

sectors_most : (c : Cell) → most (Sectors.sizes (sectors c)) ≤ 6091 + 64 * length c.polys + 16 * point_count (sectors c)
unfolding sectors tree_of
sectors_most c =
    let h = c.head in
    let p : ℕ = length c.polys in
    let few : (q : QuarterBox) → length (leaf_ids q 0 (map box_of c.polys)) ≤ p = λ q. omega (arith, ids_few q 0 (map box_of c.polys), length-map c.polys box_of) in
    let b : most (Sectors.sizes (sectors c)) ≤ tree_most p (depth_of h.content) + 16 * point_count (sectors c) = tree_most_lem _ _ p few (depth_of h.content) 0 (root_box h) in
    omega (arith, tree_deep p (h.content / 2 ^ 2 % 2))

-- ---- all blocks

-- an f of the sizes that is the sum of f of its parts
module _ (f : List ℕ → ℕ) (append : (ms ns : List ℕ) → f (ms ++ ns) ≡ f ms + f ns) (v i p q l : ℕ) (t : List ℕ) where
  parts : f ((368 ∷ []) ++ (list_sizes 6 v ++ (list_sizes 2 i ++ (list_sizes 8 i ++ (list_sizes 48 p ++ (t ++ (size_of (28 * q) ++ size_of (2 * l))))))))
      ≡ f (368 ∷ []) + (f (list_sizes 6 v) + (f (list_sizes 2 i) + (f (list_sizes 8 i) + (f (list_sizes 48 p) + (f t + (f (size_of (28 * q)) + f (size_of (2 * l))))))))
  parts =
      let qs = size_of (28 * q) in
      let ls = size_of (2 * l) in
      let ps = list_sizes 48 p in
      let es = list_sizes 8 i in
      let is = list_sizes 2 i in
      let vs = list_sizes 6 v in
      rw (
        append (368 ∷ []) (vs ++ (is ++ (es ++ (ps ++ (t ++ (qs ++ ls)))))),
        append vs (is ++ (es ++ (ps ++ (t ++ (qs ++ ls))))),
        append is (es ++ (ps ++ (t ++ (qs ++ ls)))),
        append es (ps ++ (t ++ (qs ++ ls))),
        append ps (t ++ (qs ++ ls)),
        append t (qs ++ ls),
        append qs ls,
      )

module _ (c : Cell) where
  -- how many there are of each: vertices in the table, indices, polygons, portals, links, points stored
  abbrev v : ℕ
  v = length (vertices c)

  abbrev i : ℕ
  i = length (all_corners c)

  abbrev p : ℕ
  p = length c.polys

  abbrev q : ℕ
  q = length c.portals

  abbrev l : ℕ
  l = length (links c)

  abbrev t : ℕ
  t = point_count (sectors c)

  pages_most : length (pages c) ≤ 7436 + 12 * v + 20 * i + 160 * p + 16 * t + 56 * q + 4 * l + 55 * (part_count 6 v + part_count 2 i + part_count 8 i + part_count 48 p)
  unfolding sizes sizes_of Pages.counts
  pages_most =
      omega (
        arith,
        pages_length c,
        end_most 0 (sizes c),
        parts most most_append v i p q l (Sectors.sizes (sectors c)),
        list_most 6 v,
        list_most 2 i,
        list_most 8 i,
        list_most 48 p,
        sectors_most c,
        most_some (28 * q),
        most_some (2 * l),
      )

  pages_least : 368 + 10 * i + 48 * p + 8 * t + 28 * q + 2 * l ≤ length (pages c)
  unfolding sizes sizes_of Pages.counts
  pages_least =
      omega (
        arith,
        pages_length c,
        end_sum 0 (sizes c),
        parts sum_of sum_append v i p q l (Sectors.sizes (sectors c)),
        list_sum 2 i (omega arith),
        list_sum 8 i (omega arith),
        list_sum 48 p (omega arith),
        sum_tree (sectors c),
        points_bytes (sectors c),
        sum_some (28 * q),
        sum_some (2 * l),
      )

  -- a vertex in the table is a corner's
  few_distinct : v ≤ i
  unfolding vertices
  few_distinct = omega (arith, length_distinct [] (triples (all_corners c)), length-map (all_corners c) (λ (k : Corner). k.vertex))

  module _ (acc : Accepted c) where
    -- the bytes of pages that a strip's words ask for
    pub pages_room_lem : length (pages c) ≤ pages_room (length (encode c))
    unfolding pages
    pages_room_lem =
        let least = words_least c in
        let corners = three_corners (bb_min c) (bb_size c) 0 c.polys acc.checked in
        let few = few_distinct in
        let stored = stored_at_most c in
        let whole : length (pages c) ≤ 6553600 = omega (arith, (pages_placed c acc).short, at_most_200 c acc) in
        let long = pages_most in
        omega arith

    -- the words of strip that written pages ask for
    pub strip_room_lem : length (encode (reread c)) ≤ strip_room (length (pages c))
    strip_room_lem =
        let again = words_again c in
        let points : t ≤ 32768 = omega (arith, few_stored c acc) in
        omega (arith, pages_least, few_corners c acc, acc.few_polygons, acc.few_portals, acc.few_links)
