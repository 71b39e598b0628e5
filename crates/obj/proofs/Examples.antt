-- The request's triangle, computed; numbers that go on through the whole text; 41 before 2; and no polygons. Assumes nothing.
use Prim.Native.Nat.{ℕ}
use mathlib.Core.Path.{◌≡◌}
use mathlib.Core.List.{List, [], ◌∷◌}
use native.Mathlib.Omega.{arith}
use borrow.Author.Tests.{le-leb}
use lib.Dec.{lit<, lit≤}
use lib.ListN.{length}
use lib.Ieee.{sub, div, mul, lt, of_bits}
use Rattle.fields.specs.Bytes.{cat}
use Rattle.decimal.specs.Text.{ascii, decimal}
use Rattle.decimal.proofs.Decimal.{one_digit, more_digits}
use Rattle.quantise.specs.Short.{short, fraction, clamped, nearest_number}
use Rattle.strip.specs.Cell.{Vec3, NavPoly, Head, Cell, each, plain, encode}
use Rattle.strip.specs.Fits.{PolygonFits}
use Rattle.strip.specs.Reading.{items_at}
use Rattle.strip.specs.Box.{finite_box}
use Rattle.strip.specs.Scan.{ok, scan}
use Rattle.strip.specs.Outcome.{refused, done}
use Rattle.strip.proofs.Readback.{scan_encode}
use Rattle.picking.specs.Picking.{first_from}
use Rattle.obj_lines.specs.Lines.{shorts_line, face_line}
use Rattle.obj_text.specs.Text.{face_numbers, face_lines, text_of}
use Rattle.obj.specs.Obj.{drawn, obj_outcome}

-- a box from 0 to 1, and its triangle of shorts (0,0,0), (65535,0,0), (0,65535,0)
abbrev at : ℕ → ℕ → ℕ → Vec3
at x y z = record { x = x; y = y; z = z }

abbrev box : Head
box = record { content = 0; area = 0; version = 0; vft = 0; bb_min = at 0 0 0; bb_max = at 0x3f80_0000 0x3f80_0000 0x3f80_0000; bb_size = at 0x3f80_0000 0x3f80_0000 0x3f80_0000 }

abbrev triangle : NavPoly
triangle = record { flags0 = 0; flags1 = 0; flags2 = 0; links = []; vertices = at 0 0 0 ∷ at 0x3f80_0000 0 0 ∷ at 0 0x3f80_0000 0 ∷ []; edges = [] }

most : decimal 65535 ≡ ascii "65535"
unfolding ascii
most = rw (more_digits 65535 (lit≤ tt), more_digits 6553 (lit≤ tt), more_digits 655 (lit≤ tt), more_digits 65 (lit≤ tt), one_digit 6 (lit< tt))

pub example : text_of box (triangle ∷ []) ≡ ascii "v 0 0 0\nv 65535 0 0\nv 0 65535 0\nf 1 2 3\n"
unfolding text_of each shorts_line face_numbers face_line cat items_at ascii short fraction sub div mul lt clamped nearest_number of_bits
example = rw (most, one_digit 0 (lit< tt), one_digit 1 (lit< tt), one_digit 2 (lit< tt), one_digit 3 (lit< tt))

-- a second polygon goes on with the next number
pub two_faces : face_lines 1 (triangle ∷ triangle ∷ []) ≡ ascii "f 1 2 3\nf 4 5 6\n"
unfolding face_numbers face_line cat each items_at ascii
two_faces = rw (one_digit 1 (lit< tt), one_digit 2 (lit< tt), one_digit 3 (lit< tt), one_digit 4 (lit< tt), one_digit 5 (lit< tt), one_digit 6 (lit< tt))

-- the triangle's strip, exported into 40 bytes and into 39
abbrev cell_of : List NavPoly → Cell
cell_of ps = record { head = box; polys = ps; portals = []; points = [] }

abbrev strip : List ℕ
strip = encode (cell_of (triangle ∷ []))

its_cell : scan strip ≡ ok (cell_of (triangle ∷ []))
its_cell =
    let small : PolygonFits triangle = record { vertex_count = lit< tt; edge_count = lit< tt; link_count = lit< tt; flags0 = lit< tt; links = tt; edges = tt } in
    scan_encode plain (cell_of (triangle ∷ [])) (record { polys = (small, tt); portals = tt; points = tt })

pub just_fits : obj_outcome strip 40 ≡ done 40 (ascii "v 0 0 0\nv 65535 0 0\nv 0 65535 0\nf 1 2 3\n")
unfolding drawn finite_box first_from ascii
just_fits = rw (its_cell, example)

pub too_short : obj_outcome strip 39 ≡ refused 2 0
unfolding drawn finite_box first_from ascii
too_short = rw (its_cell, example)

-- 41 comes before 2, at the first polygon that is thin
pub thin_first : (room : ℕ) (q : NavPoly) → length q.vertices ≡ 2 → drawn room box (triangle ∷ q ∷ []) ≡ refused 41 1
unfolding drawn first_from
thin_first room q e = rw e

-- no polygons: no text, accepted whatever is lent
pub no_text : (room : ℕ) (h : Head) → drawn room h [] ≡ done 0 []
unfolding drawn first_from text_of each face_numbers
no_text room h = rw (le-leb 0 room (omega arith))
