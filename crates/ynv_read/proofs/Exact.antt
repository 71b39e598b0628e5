-- A reading makes a cell exactly when the grammar does, the same cell from a tree of as many sectors. Assumes nothing.
use Prim.Native.Nat.{ℕ, zero, suc, ◌+◌, ◌-◌, ◌*◌, ◌<◌}
use native.Mathlib.Omega.{arith}
use mathlib.Core.Path.{◌≡◌, refl, sym, ap, subst, ◌∙◌}
use mathlib.Core.Bool.{true}
use mathlib.Core.List.{List, [], ◌∷◌}
use lib.ListN.{length}
use borrow.Author.Tests.{lt-ltb}
use Rattle.fields.specs.Bytes.{le_at, cut}
use Rattle.strip.specs.Outcome.{values}
use Rattle.strip.specs.Cell.{Cell}
use Rattle.strip.specs.Box.{finite_box}
use Rattle.read_grammar.specs.Parts.{Good, Array}
use Rattle.read_grammar.specs.Trees.{Tree}
use Rattle.read_grammar.specs.Lists as grammar
use Rattle.read_grammar.specs.Polygons.{Each}
use Rattle.read_grammar.specs.Derives.{head_of, Makes}
use Rattle.read_grammar.proofs.Parts.{null_never}
use Rattle.read_grammar.proofs.Unique.{makes_one}
use Rattle.read_lists.specs.Lists.{readable_at, before, total, table_of, list_bytes, listed}
use Rattle.read_lists.specs.Lists.{header as lists-header}
use Rattle.resource.proofs.Parts.{null_empty}
use Rattle.read_lists.proofs.Accepted.{ListFound, at_null, there, listed_found}
use Rattle.read_lists.proofs.Exact as lists
use Rattle.read_sectors.specs.Walk.{walk}
use Rattle.read_sectors.specs.Walk as Walk
use Rattle.read_sectors.proofs.Exact.{walk_sound, walk_complete}
use Rattle.read_polygons.specs.Polygons as Polygons
use Rattle.read_list_set.specs.Items.{items_in}
use Rattle.read_polygons.proofs.Exact.{tally_made, made_tally}
use Rattle.read_decide.specs.Reading.{made, header, root_at, root, head, items_at, source, polygons, portal_count, portals, cell_of, on_head, on_lists, after_walk, read_cell}
use Rattle.ynv_read.proofs.Accepted.{accepted}
use Rattle.ynv_read.proofs.Checks.{good_in, good_out, array_in, array_out}

module _ (S G : List ℕ) where
  -- ---- parts by the header

  header_in : readable_at S G 0x5000_0000 368 ≡ true → Good S G 0x5000_0000 368 (header S G)
  unfolding header
  header_in e = good_in S G 0x5000_0000 368 (omega arith) e

  root_in : readable_at S G (root_at S G) 96 ≡ true → Good S G (root_at S G) 96 (root S G)
  unfolding root
  root_in e = good_in S G (root_at S G) 96 (omega arith) e

  head_is : head S G ≡ head_of (header S G) (root S G)
  unfolding head
  head_is = refl

  portals_in : readable_at S G (le_at 8 (header S G) 0x128) (28 * portal_count S G) ≡ true
      → Array S G 28 (le_at 8 (header S G) 0x128) (portal_count S G) (cut 28 (portal_count S G) (portals S G))
  unfolding portals
  portals_in e = array_in S G 28 (le_at 8 (header S G) 0x128) (portal_count S G) e (omega arith)

  -- ---- lists

  null_total : total (table_of S G 0) ≡ 0
  unfolding table_of lists-header le_at before
  null_total = rw (null_empty S G 48) (rw (null_empty S G 0))

  count_is : {w va n : ℕ} → ListFound S G w va n → n ≡ total (table_of S G va)
  count_is at_null = sym null_total
  count_is (there a) = sym a.adds_up

  module _ (w va place : ℕ) (wide : 0 < w) where
    -- an accepted list has the items of the grammar's
    items_in_lem : {n : ℕ} → listed S G w va place ≡ values n → grammar.Items S G w va (items_at S G w va)
    unfolding items_in
    items_in_lem {n} e = rw (← (count_is (listed_found S G w place e))) (lists.listed_items S G w wide place e)

    items_out : {xs : List (List ℕ)} → grammar.Items S G w va xs → (listed S G w va place ≡ values (length xs)) × (xs ≡ items_at S G w va)
    unfolding items_in
    items_out i =
        let (e, f) = lists.items_listed S G w wide place i in
        (e, f ∙ ap (λ (n : ℕ). cut w n (list_bytes S G w (table_of S G va))) (count_is (listed_found S G w place e)))

  -- ---- what is accepted is made

  pub accepted_made : {c : Cell} {k : ℕ} → read_cell S G ≡ made c k → Makes S G k c
  unfolding cell_of source
  accepted_made {c} {k} e =
      let f = accepted S G e in
      let hh = header S G in
      let s = source S G in
      let (n, t, sum) = walk_sound S G 4096 (root_at S G ∷ []) f.left f.points f.walked in
      let visited : n ≡ k = omega (arith, sum, f.sectors) in
      let it : Makes S G k (cell_of S G f.points) = record {
        header = hh;
        root = root S G;
        vertices = s.vertices;
        indices = s.indices;
        edges = s.edges;
        polygons = polygons S G;
        portals = cut 28 (portal_count S G) (portals S G);
        points = f.points;
        header_good = header_in f.header_whole;
        root_good = root_in f.root_whole;
        head_is = head_is;
        finite_box_is = f.box;
        tree = subst (λ (m : ℕ). Tree S G (root_at S G) m f.points) visited t;
        few_sectors = omega (arith, f.sectors);
        vertex_list = items_in_lem 6 (le_at 8 hh 0x70) 1 (omega arith) f.vertex_list.1;
        index_list = items_in_lem 2 (le_at 8 hh 0x80) 2 (omega arith) f.index_list.1;
        edge_list = items_in_lem 8 (le_at 8 hh 0x88) 3 (omega arith) f.edge_list.1;
        polygon_list = items_in_lem 48 (le_at 8 hh 0x118) 4 (omega arith) f.polygon_list.1;
        portal_list = portals_in f.portals_whole;
        polygons_are = (tally_made s 0 (polygons S G) f.tally).0;
        portals_are = refl;
        points_are = refl;
      } in
      subst (λ (d : Cell). Makes S G k d) (sym f.is) it

  -- ---- what is made is accepted

  -- a good part isn't at address 0
  far : (va : ℕ) {n : ℕ} {b : List ℕ} → Good S G va n b → 0 < va
  far zero {n} g = absurd (null_never S G n g)
  far (suc va) g = omega arith

  pub made_accepted : {c : Cell} {k : ℕ} → Makes S G k c → read_cell S G ≡ made c k
  unfolding read_cell on_head after_walk on_lists header root head source
  made_accepted {c} {k} m =
      let hh = header S G in
      let s = source S G in
      let e : hh ≡ m.header = m.header_good.there in
      let good : Good S G (root_at S G) 96 m.root = rw (← e) at m.root_good in
      let same : head S G ≡ c.head = ap (λ (x : List ℕ). head_of x (root S G)) e ∙ ap (head_of m.header) good.there ∙ sym m.head_is in
      let fin : finite_box (head S G) ≡ true = ap finite_box same ∙ m.finite_box_is in
      let tree : Tree S G (root_at S G) k m.points = rw (← e) at m.tree in
      let all : k + (4096 - k) ≡ 4096 = omega (arith, m.few_sectors) in
      let walked : walk S G 4096 (root_at S G ∷ []) ≡ Walk.done (4096 - k) m.points = rw all at (walk_complete S G tree (4096 - k)) in
      let visited : 4096 - (4096 - k) ≡ k = omega (arith, m.few_sectors) in
      let (l₁, v) = items_out 6 (le_at 8 hh 0x70) 1 (omega arith) (rw (← e) at m.vertex_list) in
      let (l₂, i) = items_out 2 (le_at 8 hh 0x80) 2 (omega arith) (rw (← e) at m.index_list) in
      let (l₃, d) = items_out 8 (le_at 8 hh 0x88) 3 (omega arith) (rw (← e) at m.edge_list) in
      let (l₄, b) = items_out 48 (le_at 8 hh 0x118) 4 (omega arith) (rw (← e) at m.polygon_list) in
      let ps : Each (Polygons.Makes s) (polygons S G) c.polys = rw (v, i, d, b, ← e, ← same) at m.polygons_are in
      let l₅ = (made_tally s 0 ps).0 in
      let qs : Array S G 28 (le_at 8 hh 0x128) (portal_count S G) m.portals = rw (← e) at m.portal_list in
      let whole-cell : read_cell S G ≡ made (cell_of S G m.points) k =
      rw (good_out S G 0x5000_0000 368 m.header_good, lt-ltb 0 (root_at S G) (far (root_at S G) good), good_out S G (root_at S G) 96 good, fin, walked, visited, l₁, l₂, l₃, l₄, l₅, array_out S G qs) in
      whole-cell ∙ ap (λ (x : Cell). made x k) (makes_one S G (accepted_made whole-cell) m).1
