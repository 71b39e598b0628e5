-- What the polygons that are left add to a tally, by a turn of the loop over them. Assumes nothing.
use mathlib.Core.Path.{◌≡◌}
use mathlib.Core.List.{List}
use Prim.Native.Nat.{ℕ, ◌+◌, ◌-◌, ◌≤◌, ◌<◌}
use lib.Dec.{ltb}
use Rattle.strip.specs.Reading.{poly_at, polygon_of}
use Rattle.strip.specs.Rows.{polygons_at}
use Rattle.strip.specs.declared.Poly.{Poly}
use Rattle.strip.proofs.Steps.{polygons_turn}
use Rattle.strip.proofs.Lengths.{vertex_count_lem}
use Rattle.obj_text.proofs.Polygons.{no_polygons}
use Rattle.obj_room.specs.Thin.{is_thin}
use Rattle.obj_text.specs.Counts.{vertex_count}

-- whether a polygon is thin, by the cursor's count
pub thin_of : (s : List ℕ) (p : Poly) → ltb p.vertices 3 ≡ is_thin (polygon_of s p)
thin_of s p = rw (vertex_count_lem s p)

pub count_turn : (s : List ℕ) (at i n : ℕ) → i < n → (p : Poly) → p ≡ poly_at s at
    → vertex_count (polygons_at s at (n - i)) ≡ p.vertices + vertex_count (polygons_at s p.next (n - (i + 1)))
unfolding vertex_count
count_turn s at i n h p e = rw (polygons_turn s at i n h p e, vertex_count_lem s p)

pub count_done : (s : List ℕ) (at i n : ℕ) → n ≤ i → vertex_count (polygons_at s at (n - i)) ≡ 0
unfolding vertex_count
count_done s at i n h = rw (no_polygons s at i n h)
