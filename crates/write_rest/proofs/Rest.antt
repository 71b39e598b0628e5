-- Portals and links behind the sectors: what each asks for, and that the three together are the rest of the pages. Assumes nothing.
use Prim.Native.Nat.{ℕ, ◌+◌, ◌*◌, ◌^◌, ◌≤◌, ◌<◌}
use mathlib.Core.Path.{◌≡◌, sym, subst, ◌∙◌}
use mathlib.Core.List.{List}
use native.Mathlib.Omega.{arith}
use lib.ListN.{length}
use Rattle.fields.specs.Bytes.{les, cat}
use Rattle.math.specs.declared.vec3.Vec3.{Vec3 as Floats}
use Rattle.strip.specs.Reading.{head_at}
use Rattle.strip.specs.Rows.{polygons_at, after_polygons, portals_at}
use Rattle.strip.specs.declared.Counts.{Counts}
use Rattle.write_blocks.specs.Layout.{end_of}
use Rattle.write_blocks.specs.Laid.{Laid}
use Rattle.write_blocks.specs.declared.Layout.{Layout}
use Rattle.write_blocks.proofs.Layouts.{laid_end, laid_then}
use Rattle.write_pages.specs.Items.{floats, links_of}
use Rattle.write_blocks.specs.Optional.{block_of, size_of}
use Rattle.write_pages.specs.Pages.{bb_min, bb_size, links, sectors, counts, portal_items, end_portals}
use Rattle.write_pages.proofs.Sizes.{block_size, length_portals}
use Rattle.strip.specs.Laid.{first_portal, cell_at}
use Rattle.write_leaves.specs.declared.SectorCursor.{SectorCursor}
use Rattle.write_ends.proofs.Planned.{portals_many}
use Rattle.write_rest.specs.Rest.{WorkKept, SectorsFilled, rest_of, RestFilled}
use Rattle.write_rest.proofs.Ends.{portals_below, links_below}

module _ (s w : List ℕ) (n : Counts) (K : WorkKept s w n) {l : Layout} {xs ys : List ℕ} {cursor : SectorCursor} (f : SectorsFilled (cell_at s n) l xs ys cursor) where
  module _ (first : ℕ) (first-is : first ≡ first_portal s n) where
    pub portals_ask : (first + 11 * n.portals ≤ length s) × (end_of cursor.layout.at (size_of (28 * n.portals)) < 2 ^ 28)
    portals_ask =
        let many : length (cell_at s n).portals ≡ n.portals = sym (portals_many s n) in
        (omega (arith, first-is, K.length_is), rw f.ends (rw many at (portals_below (cell_at s n) K.accepted)))

    module _ (bb-min bb-size : Floats) (el : bb-min ≡ floats (head_at s 0).bb_min) (es : bb-size ≡ floats (head_at s 0).bb_size) {r : Layout} {zs : List ℕ}
        (g : Laid cursor.layout (block_of (cat (portal_items bb-min bb-size (portals_at s first n.portals)))) r ys zs) where
      portals_laid : Laid cursor.layout (block_of (cat (portal_items (bb_min (cell_at s n)) (bb_size (cell_at s n)) (cell_at s n).portals))) r ys zs
      portals_laid =
          subst (λ (k : ℕ). Laid cursor.layout (block_of (cat (portal_items (bb_min (cell_at s n)) (bb_size (cell_at s n)) (portals_at s k n.portals)))) r ys zs) first-is
          (subst (λ (v : Floats). Laid cursor.layout (block_of (cat (portal_items (bb_min (cell_at s n)) v (portals_at s first n.portals)))) r ys zs) es
          (subst (λ (v : Floats). Laid cursor.layout (block_of (cat (portal_items v bb-size (portals_at s first n.portals)))) r ys zs) el g))

      portals_end : r.at ≡ end_portals (counts (cell_at s n)) (sectors (cell_at s n))
      unfolding end_portals counts
      portals_end =
          let ps = (cell_at s n).portals in
          let own-size : _ = block_size (28 * length ps) (cat (portal_items (bb_min (cell_at s n)) (bb_size (cell_at s n)) ps)) (length_portals (bb_min (cell_at s n)) (bb_size (cell_at s n)) ps) in
          laid_end portals_laid ∙ rw (own-size, f.ends)

      pub links_ask : (m : ℕ) → m ≡ length (links (cell_at s n))
          → (after_polygons s 14 n.polys ≤ length s) × (m ≡ length (links_of (polygons_at s 14 n.polys))) × (end_of r.at (size_of (2 * m)) < 2 ^ 28)
      unfolding links
      links_ask m e = (omega (arith, K.length_is), e, rw (portals_end, e) (links_below (cell_at s n) K.accepted))

      pub rest_filled : {q : Layout} {us : List ℕ} → Laid r (block_of (les 2 (links_of (polygons_at s 14 n.polys)))) q zs us
          → RestFilled (cell_at s n) l xs us (record { sectors = cursor.layout; portals = r; links = q; points = cursor.first })
      unfolding links rest_of
      rest_filled h = record {
        sectors_end = f.ends;
        portals_end = portals_end;
        points = f.points;
        laid = laid_then f.laid (laid_then portals_laid h);
      }
