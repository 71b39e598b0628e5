-- A derived strip is well formed: the cell that two sections of bytes make fits a strip, no coordinate in it is a NaN, and its polygons have
-- as many edges as vertices and at most 7 links. Assumes nothing.
use mathlib.Core.Path.{◌≡◌, refl, sym, ap, ◌∙◌}
use mathlib.Core.Bool.{Bool, true, false, not, cond}
use mathlib.Core.List.{List, [], ◌∷◌, map}
use Prim.Native.Nat.{ℕ, ◌+◌, ◌*◌, ◌/◌, ◌%◌, ◌^◌, ◌≤◌, ◌<◌}
use native.Mathlib.Nat.{min-le_left}
use native.Mathlib.Omega.{arith}
use lib.Dec.{T, leb}
use lib.ListN.{length, take, drop, get_or, length-take, length-drop, length-map}
use lib.Seq.{length-take-le}
use lib.Ieee.{Float, binary32, of_bits, is_nan, fits}
use lib.Ieee.Scale.{finite}
use lib.Ieee.Fits.{add-fits}
use lib.Ieee.Bits.{of_bits-to_bits}
use Rattle.fields.specs.Bytes.{le_at, cut}
use Rattle.fields.specs.Rows.{field}
use Rattle.fields.proofs.Bytes.{le_lt}
use Rattle.math.proofs.Finite.{finite_bits}
use Rattle.quantise.specs.Short.{coordinate}
use Rattle.quantise.proofs.Numbers.{coordinate_number}
use Rattle.areas.specs.EdgeHalf as EdgeHalf
use Rattle.resource.specs.Section.{resolved}
use Rattle.strip.specs.Cell.{Vec3, NavPoly, NavPortal, NavPoint, Head, Cell, plain}
use Rattle.strip.specs.Fits.{All, HalfFits, EdgeFits, PolygonFits, PortalFits, PointFits, Fits}
use Rattle.strip.specs.Box as Box
use Rattle.strip.specs.Scan.{Scanned, scan}
use Rattle.strip.proofs.Box.{FiniteVec, box_finite}
use Rattle.strip.proofs.Readback.{scan_encode}
use Rattle.read_grammar.specs.Polygons.{half_of, edge_of, vertex_of, links_at, link_run, count_of, start_of, run_of, PolygonOf}
use Rattle.read_grammar.specs.Derives.{area_of, axis, back_of, portal_of, point_of, Makes, Derives}
use Rattle.read_grammar.specs.Formed.{Bytes, AllNumbers, Ends, Positions, Shaped}
use Rattle.strip.proofs.Alls.{all_take, all_drop, all_at, all_map, all_images}
use Rattle.read_grammar.proofs.Runs.{each_all}
use Rattle.read_grammar.proofs.Bytes.{bytes_none, bytes_cut, bytes_resolved, bytes_array, bytes_items, bytes_trees}

abbrev Short : ℕ → Type 0
Short w = w < 2 ^ 16

-- ---- a short turned back

coordinate_fits : (q : ℕ) (lo extent : Float) → T (fits binary32 (coordinate q lo extent))
unfolding coordinate
coordinate_fits q lo extent = add-fits binary32 lo _

of_finite : (b : ℕ) → Box.finite_bits b ≡ true → T (finite (of_bits binary32 b))
of_finite b h = rw (finite_bits b, h) tt

is_number : (b : Bool) → T (not b) → b ≡ false
is_number true t = absurd t
is_number false t = refl

-- on a finite axis it is the bits of a number
pub axis_number : (q lo extent : ℕ) → q < 65536 → Box.finite_bits lo ≡ true → Box.finite_bits extent ≡ true → is_nan (of_bits binary32 (axis q lo extent)) ≡ false
unfolding axis
axis_number q lo extent h l e =
    let x : Float = coordinate q (of_bits binary32 lo) (of_bits binary32 extent) in
    ap is_nan (of_bits-to_bits binary32 x (coordinate_fits q (of_bits binary32 lo) (of_bits binary32 extent)))
    ∙ is_number (is_nan x) (coordinate_number q (of_bits binary32 lo) (of_bits binary32 extent) (omega arith) (of_finite lo l) (of_finite extent e))

back_numbers : (h : Head) → FiniteVec h.bb_min → FiniteVec h.bb_size → (x y z : ℕ) → Short x → Short y → Short z → AllNumbers (back_of h x y z)
unfolding back_of
back_numbers h l e x y z hx hy hz =
    record { x = axis_number x _ _ hx l.x e.x; y = axis_number y _ _ hy l.y e.y; z = axis_number z _ _ hz l.z e.z }

-- ---- every position, where P holds of what shorts are turned back to

module _ (P : Vec3 → Type 0) (back : ℕ → ℕ → ℕ → Vec3) (good : (x y z : ℕ) → Short x → Short y → Short z → P (back x y z)) where
  at_bytes : (b : List ℕ) (i j k : ℕ) → Bytes b → P (back (le_at 2 b i) (le_at 2 b j) (le_at 2 b k))
  at_bytes b i j k h = good _ _ _ (le_lt 2 b i h) (le_lt 2 b j h) (le_lt 2 b k h)

  vertices_have : {vs is es : List (List ℕ)} {ls : List ℕ} {area : ℕ → ℕ} → All Bytes vs → {b : List ℕ} {p : NavPoly}
      → PolygonOf vs is es ls area back b p → All P p.vertices
  unfolding vertex_of
  vertices_have {vs} {is} h {b} f = rw f.vertices_are (each_item (run_of b is))
    where
      each_item : (l : List (List ℕ)) → All P (map (λ i. back (le_at 2 (get_or vs (le_at 2 i 0) []) 0) (le_at 2 (get_or vs (le_at 2 i 0) []) 2) (le_at 2 (get_or vs (le_at 2 i 0) []) 4)) l)
      each_item [] = tt
      each_item (i ∷ l) = (at_bytes (get_or vs (le_at 2 i 0) []) 0 2 4 (all_at Bytes vs (le_at 2 i 0) [] h bytes_none), each_item l)

  ends_have : (b : List ℕ) → Bytes b → Ends P (portal_of back b)
  unfolding portal_of
  ends_have b h = record { from = at_bytes b 4 6 8 h; to = at_bytes b 10 12 14 h }

  point_has : (b : List ℕ) → Bytes b → P (point_of back b).position
  unfolding point_of
  point_has b h = at_bytes b 0 2 4 h

-- ---- a polygon

run_most : (table : List ℕ) (start n : ℕ) → length (link_run table start n) ≤ n
unfolding link_run
run_most table start n = by (leb (start + n) (length table))
  where
    by : (b : Bool) → length (cond b (take n (drop start table)) []) ≤ n
    by true = omega (arith, length-take n (drop start table), min-le_left n (length (drop start table)))
    by false = omega arith

run_shorts : (table : List ℕ) (start n : ℕ) → All Short table → All Short (link_run table start n)
unfolding link_run
run_shorts table start n h = by (leb (start + n) (length table))
  where
    by : (b : Bool) → All Short (cond b (take n (drop start table)) [])
    by true = all_take Short n (drop start table) (all_drop Short start table h)
    by false = tt

half_fits : (area : ℕ → ℕ) (w : ℕ) → HalfFits (half_of area w)
unfolding half_of
half_fits area w = record { unk3 = omega arith; unk2 = omega arith }

edge_fits : (area : ℕ → ℕ) (b : List ℕ) → EdgeFits (edge_of area b)
unfolding edge_of
edge_fits area b = record { a = half_fits area (le_at 4 b 0); b = half_fits area (le_at 4 b 4) }

module _ {vs is es : List (List ℕ)} {ls : List ℕ} {area : ℕ → ℕ} {back : ℕ → ℕ → ℕ → Vec3} {b : List ℕ} {p : NavPoly} (h : Bytes b) (f : PolygonOf vs is es ls area back b p) where
  run_length : (items : List (List ℕ)) → start_of b + count_of b ≤ length items → length (run_of b items) ≡ count_of b
  run_length items room = length-take-le (count_of b) (drop (start_of b) items) (rw length-drop (omega arith))

  vertex_count : length p.vertices ≡ count_of b
  vertex_count = ap length f.vertices_are ∙ length-map (run_of b is) (λ i. vertex_of back (get_or vs (le_at 2 i 0) [])) ∙ run_length is f.in_indices

  edge_count : length p.edges ≡ count_of b
  edge_count = ap length f.edges_are ∙ length-map (run_of b es) (edge_of area) ∙ run_length es f.in_edges

  link_count : length p.links ≤ 7
  link_count = rw f.links_are (omega (arith, run_most ls (field 15 17 (le_at 4 b 0x2C)) (field 12 3 (le_at 4 b 0x2C))))

  polygon_shaped : Shaped p
  polygon_shaped = record { edges = edge_count ∙ sym vertex_count; few_vertices = omega (arith, vertex_count); few_links = link_count }

  polygon_fits : All Short ls → PolygonFits p
  polygon_fits shorts =
      record {
        vertex_count = omega (arith, vertex_count);
        edge_count = omega (arith, edge_count);
        link_count = omega (arith, link_count);
        flags0 = rw f.flags0 (le_lt 2 b 0 h);
        links = rw f.links_are (run_shorts ls (field 15 17 (le_at 4 b 0x2C)) (field 12 3 (le_at 4 b 0x2C)) shorts);
        edges = rw f.edges_are (all_images EdgeFits (edge_of area) (edge_fits area) (run_of b es));
      }

-- ---- portals and points

module _ (back : ℕ → ℕ → ℕ → Vec3) (b : List ℕ) (h : Bytes b) where
  portal_fits : PortalFits (portal_of back b)
  unfolding portal_of
  portal_fits =
      record {
        kind = le_lt 1 b 0 h;
        angle = le_lt 1 b 1 h;
        flags_unk = le_lt 2 b 2 h;
        poly_from = le_lt 2 b 16 h;
        area_from = omega arith;
        area_unk = omega arith;
      }

  point_fits : PointFits (point_of back b)
  unfolding point_of
  point_fits = record { angle = le_lt 1 b 6 h; kind = le_lt 1 b 7 h }

-- ---- the cell

module _ (system graphics : List ℕ) (sb : Bytes system) (gb : Bytes graphics) where
  links_short : (va n : ℕ) → All Short (links_at system graphics va n)
  unfolding links_at
  links_short va n =
      all_map Short Bytes (λ b. le_at 2 b 0) (λ b h. le_lt 2 b 0 h) (cut 2 (length (resolved system graphics va (2 * n)) / 2) (resolved system graphics va (2 * n)))
      (bytes_cut 2 _ _ (bytes_resolved system graphics sb gb va (2 * n)))

  module _ {sectors : ℕ} {c : Cell} (m : Makes system graphics sectors c) where
    abbrev back : ℕ → ℕ → ℕ → Vec3
    back = back_of c.head

    abbrev links : List ℕ
    links = links_at system graphics (le_at 8 m.header 0x130) (le_at 4 m.header 0x150)

    -- what holds of every item made from bytes holds of all the cell's
    polygons_have : (Q : NavPoly → Type 0) → ((b : List ℕ) (p : NavPoly) → Bytes b → PolygonOf m.vertices m.indices m.edges links (area_of m.header) back b p → Q p)
        → All Q c.polys
    polygons_have Q good = each_all Bytes Q good (bytes_items system graphics sb gb m.polygon_list) m.polygons_are

    portals_have : (Q : NavPortal → Type 0) → ((b : List ℕ) → Bytes b → Q (portal_of back b)) → All Q c.portals
    portals_have Q good = rw m.portals_are (all_map Q Bytes (portal_of back) good m.portals (bytes_array system graphics sb gb m.portal_list))

    points_have : (Q : NavPoint → Type 0) → ((b : List ℕ) → Bytes b → Q (point_of back b)) → All Q c.points
    points_have Q good = rw m.points_are (all_map Q Bytes (point_of back) good m.points (bytes_trees system graphics sb gb m.tree))

    positions : (P : Vec3 → Type 0) → ((x y z : ℕ) → Short x → Short y → Short z → P (back x y z)) → Positions P c
    positions P good = record {
      polys = polygons_have (λ p. All P p.vertices) (λ b p h f. vertices_have P back good (bytes_items system graphics sb gb m.vertex_list) f);
      portals = portals_have (Ends P) (ends_have P back good);
      points = points_have (λ t. P t.position) (point_has P back good);
    }

    -- no NaN is computed into a cell
    pub makes_numbers : Positions AllNumbers c
    makes_numbers =
        let b = box_finite c.head m.finite_box_is in
        positions AllNumbers (back_numbers c.head b.bb_min b.bb_size)

    pub makes_shaped : All Shaped c.polys
    makes_shaped = polygons_have Shaped (λ b p h f. polygon_shaped h f)

    short_links : All Short links
    short_links = links_short (le_at 8 m.header 0x130) (le_at 4 m.header 0x150)

    makes_fits : Fits c
    makes_fits = record {
      polys = polygons_have PolygonFits (λ b p h f. polygon_fits h f short_links);
      portals = portals_have PortalFits (portal_fits back);
      points = points_have PointFits (point_fits back);
    }

  pub derived_scans : {w : List ℕ} (d : Derives system graphics w) → scan w ≡ Scanned.ok d.cell
  derived_scans d = ap scan d.strip ∙ scan_encode plain d.cell (makes_fits d.makes)
