-- How long a drawing is: its vertices' lines have 20 bytes at most, its numbers stand once each, and a polygon's line has two bytes more. Assumes nothing.
use mathlib.Core.List.{List, [], ◌∷◌}
use Prim.Native.Nat.{ℕ, zero, suc, ◌+◌, ◌*◌, ◌^◌, ◌≤◌, ◌<◌}
use native.Mathlib.Omega.{arith}
use lib.ListN.{length, length-append}
use Rattle.decimal.proofs.Decimal.{length_below}
use Rattle.math.specs.declared.vec3.Vec3.{Vec3 as Floats}
use Rattle.strip.specs.Cell.{NavPoly, Head, each}
use Rattle.strip.specs.Reading.{items_at}
use Rattle.cell_record.specs.Floats.{floats}
use Rattle.obj_lines.specs.Lines.{spaced, vertex_line, consecutive}
use Rattle.obj_lines.proofs.Lengths.{spaced_length, vertex_most}
use Rattle.obj_text.specs.Text.{vertex_lines, text_of}
use Rattle.obj_text.specs.Counts.{vertex_count}
use Rattle.obj_text.proofs.Polygons.{text_length}
use Rattle.obj_length.proofs.Numbers.{faces_length}

each_most : {A : Type 0} (f : A → List ℕ) (k : ℕ) → ((a : A) → length (f a) ≤ k) → (xs : List A) → length (each f xs) ≤ k * length xs
unfolding each
each_most f k h [] = omega arith
each_most f k h (x ∷ xs) = omega (arith, length-append (f x) (each f xs), h x, each_most f k h xs)

-- ---- the lines of vertices

module _ (bb-min bb-size : Floats) where
  vertices_most : (ps : List NavPoly) → length (each (vertex_lines bb-min bb-size) ps) ≤ 20 * vertex_count ps
  unfolding each vertex_count
  vertices_most [] = omega arith
  vertices_most (p ∷ ps) =
      omega (
        arith,
        length-append (vertex_lines bb-min bb-size p) (each (vertex_lines bb-min bb-size) ps),
        each_most (vertex_line bb-min bb-size) 20 (vertex_most bb-min bb-size) p.vertices,
        vertices_most ps,
      )

-- ---- the lines of polygons, where every number has d + 1 digits at most

module _ (d : ℕ) where
  numbers_most : (n first : ℕ) → first + n ≤ 10 ^ suc d → length (each spaced (consecutive first n)) ≤ (d + 2) * n
  unfolding each items_at
  numbers_most zero first h = omega arith
  numbers_most (suc n) first h =
      omega (
        arith,
        length-append (spaced first) (each spaced (consecutive (first + 1) n)),
        spaced_length first,
        length_below d first (omega arith),
        numbers_most n (first + 1) (omega arith),
      )

  -- the whole text
  pub text_most : (h : Head) (ps : List NavPoly) → vertex_count ps < 10 ^ suc d → length (text_of h ps) ≤ 20 * vertex_count ps + (d + 2) * vertex_count ps + 2 * length ps
  text_most h ps k =
      omega (
        arith,
        text_length h ps,
        vertices_most (floats h.bb_min) (floats h.bb_size) ps,
        faces_length ps 1,
        numbers_most (vertex_count ps) 1 (omega arith),
      )
