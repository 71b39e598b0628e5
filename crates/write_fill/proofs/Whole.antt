-- The header, stored last, completes the pages. Assumes nothing.
use Prim.Native.Nat.{ℕ, ◌-◌, ◌^◌, ◌<◌}
use mathlib.Core.Path.{◌≡◌, refl, sym, ap, subst, ◌∙◌}
use mathlib.Core.List.{List, ◌∷◌, ◌++◌, append_assoc}
use native.Mathlib.Omega.{arith}
use lib.ListN.{length}
use Rattle.fields.specs.Bytes.{zeros}
use Rattle.fields.specs.Put.{put}
use Rattle.fields.proofs.Puts.{put_nil}
use Rattle.strip.specs.Cell.{Cell}
use Rattle.strip.specs.Reading.{word, head_at}
use Rattle.cell_record.specs.Record.{head_by}
use Rattle.cell_record.proofs.Fields.{head_is, word_box}
use Rattle.areas.specs.Tables.{area_ids}
use Rattle.write_blocks.specs.Layout.{place_of, pages_of}
use Rattle.write_blocks.specs.Laid.{empty, allocated, Laid}
use Rattle.write_blocks.specs.declared.Layout.{Layout}
use Rattle.write_blocks.proofs.Layouts.{laid_then, laid_before}
use Rattle.write_pages.specs.Pages as Pages
use Rattle.write_pages.specs.Pages.{Places, header_bytes, vertices, areas, links, sectors, counts, places_of, header, blocks, pages}
use Rattle.write_pages.specs.Sectors.{byte_count}
use Rattle.write_pages.proofs.Sizes.{header_length}
use Rattle.write_pages.proofs.Placed.{few_corners}
use Rattle.write_decide.specs.declared.Decision.{Decision}
use Rattle.strip.specs.Laid.{cell_at}
use Rattle.write_plan.specs.Ready.{Ready}
use Rattle.write_ends.proofs.Planned.{vertex_count, polygon_count, portal_count, link_count}
use Rattle.write_rest.specs.Rest.{rest_of, RestFilled, places_by, Near}
use Rattle.write_fill.specs.Filled.{lists_of, Left, ListsFilled, counts_by, Few, Filled}
use Rattle.write_rest.specs.declared.ListEnds.{ListEnds}
use Rattle.write_rest.specs.declared.RestEnds.{RestEnds}
use Rattle.write_fill.proofs.Rooms.{header_at, all_near, bytes_few}

-- ---- of a cell's pages

header_long : (c : Cell) → length (header c) ≡ 368
unfolding header
header_long c = header_length c.head (places_of (counts c) (sectors c)) (counts c) (areas c)

blocks_apart : (c : Cell) → header c ∷ (lists_of c ++ rest_of c) ≡ blocks c
unfolding blocks lists_of rest_of
blocks_apart c = simp append_assoc

-- the header stands at the front, where nothing is skipped
place_first : place_of 0 368 ≡ 0
unfolding place_of
place_first = refl

skips_nothing : (xs : List ℕ) → put 0 (zeros (place_of 0 368 - 0)) xs ≡ xs
skips_nothing xs = rw place_first (put_nil 0 xs)

header_last : (c : Cell) {a b : Layout} {xs ys : List ℕ} → a ≡ allocated empty 368 → Laid a (lists_of c ++ rest_of c) b xs ys
    → put 0 (header c) ys ≡ put 0 (pages c) xs
unfolding pages
header_last c {a} {b} {xs} {ys} e f =
    let all : Laid empty (header c ∷ (lists_of c ++ rest_of c)) b xs (put (place_of 0 368) (header c) ys) =
    laid_before {l = empty} (header_long c) e (subst (λ (zs : List ℕ). Laid a (lists_of c ++ rest_of c) b zs ys) (sym (skips_nothing xs)) f) in
    ap (λ (k : ℕ). put k (header c) ys) (sym place_first) ∙ all.bytes ∙ ap (λ (bs : List (List ℕ)). put 0 (pages_of bs) xs) (blocks_apart c)

-- ---- of a planned strip

module _ (s w : List ℕ) (d : Decision) (R : Ready s w d) where
  pub few : (b : ℕ) → b ≡ byte_count (sectors (cell_at s d.counts)) → Few d b
  few b e = record {
    vertices = omega (arith, vertex_count s w d R, R.accepted.few_vertices);
    corners = omega (arith, R.tabled.corner_count, few_corners (cell_at s d.counts) R.accepted);
    polys = omega (arith, polygon_count s w d R, R.accepted.few_polygons);
    portals = omega (arith, portal_count s w d R, R.accepted.few_portals);
    links = omega (arith, link_count s w d R, R.accepted.few_links);
    bytes = omega (arith, e, bytes_few (cell_at s d.counts) R.accepted);
  }

  module _ {x0 x1 x2 : List ℕ} {a : ListEnds} {b : RestEnds} (f : ListsFilled (cell_at s d.counts) x0 x1 a) (g : RestFilled (cell_at s d.counts) a.polygons x1 x2 b) where
    pub near : Near a b d.counts.portals d.links
    near = all_near (cell_at s d.counts) R.accepted f g d.counts.portals d.links (portal_count s w d R) (link_count s w d R)

    places_are : places_by a b d.counts.portals d.links ≡ places_of (counts (cell_at s d.counts)) (sectors (cell_at s d.counts))
    unfolding places_of counts
    places_are = rw (header_at (cell_at s d.counts) f, f.vertices, f.indices, f.edges, f.polygons, g.sectors_end, g.portals_end, ← (portal_count s w d R), ← (link_count s w d R))

    areas_are : area_ids d.areas ≡ areas (cell_at s d.counts)
    unfolding areas
    areas_are = R.tabled.areas

    counts_are : (n : ℕ) → n ≡ byte_count (sectors (cell_at s d.counts)) → counts_by d b.points n ≡ counts (cell_at s d.counts)
    unfolding counts
    counts_are n e =
        rw (← (vertex_count s w d R), ← R.tabled.corner_count, areas_are, ← (polygon_count s w d R), ← (portal_count s w d R), ← (link_count s w d R), g.points, e)

    -- the blocks behind the header, and the header stored before them
    header_is : ((k : ℕ) → word s k < 2 ^ 32) → (p : Places) (n : Pages.HeaderCounts) → p ≡ places_by a b d.counts.portals d.links → (t : ℕ) → t ≡ byte_count (sectors (cell_at s d.counts)) → n ≡ counts_by d b.points t
        → header_bytes (head_by d.cell) p n (area_ids d.areas) ≡ header (cell_at s d.counts)
    unfolding header
    header_is words p n ep t et en =
        rw (head_is (head_at s 0) d.cell R.tabled.cell (word_box s words) R.accepted.finite_box_is, ep, en, places_are, counts_are t et, areas_are)

    pub filled : ((k : ℕ) → word s k < 2 ^ 32) → {w' : List ℕ} → Left s d.counts w w' → (p : Places) → p ≡ places_by a b d.counts.portals d.links
        → (t : ℕ) → t ≡ byte_count (sectors (cell_at s d.counts)) → (n : Pages.HeaderCounts) → n ≡ counts_by d b.points t
        → {x3 : List ℕ} → x3 ≡ put 0 (header_bytes (head_by d.cell) p n (area_ids d.areas)) x2 → Filled s d.counts w w' x0 x3
    filled words k p ep t et n en e3 = record {
      bytes = e3 ∙ ap (λ (h : List ℕ). put 0 h x2) (header_is words p n ep t et en) ∙ header_last (cell_at s d.counts) f.header (laid_then f.laid g.laid);
      long = k.long;
      beyond = k.beyond;
    }
