-- What the call has to decide (document 02, No. 7). The marks are computed here by passes over all polygons and portals; which polygons they mark is said
-- by `Reach` and the theorem `marks_reach`, and the call itself works in another order. Definitions only.
use Rattle.std.specs.Prelude.{ℕ, zero, suc, ◌+◌, cond, List, [], ◌∷◌, eqb, ltb, leb, length, set, replicate}
use Rattle.strip.specs.Cell.{Cell, NavPoly, NavPortal}
use Rattle.strip.specs.Scan.{scan}
use Rattle.strip.specs.Outcome.{Outcome, refused, done}
use Rattle.strip.specs.Check.{on_cell}
use Rattle.reach_marks.specs.Step.{served}
use Rattle.reach_marks.specs.Marks.{visit, portal_pass, marked}

-- the polygons from number i on take their steps, in order
unfoldable pub poly_pass : ℕ → List NavPoly → ℕ → List ℕ → List ℕ
poly_pass own [] i m = m
poly_pass own (p ∷ ps) i m = poly_pass own ps (i + 1) (visit own (served p) i m)

unfoldable pub pass : ℕ → List NavPoly → List NavPortal → List ℕ → List ℕ
pass own ps qs m = portal_pass own qs (poly_pass own ps 0 m)

-- passes, up to a number of them, until one adds no mark
unfoldable pub settle : (List ℕ → List ℕ) → ℕ → List ℕ → List ℕ
settle go zero m = m
settle go (suc t) m = cond (eqb (marked (go m)) (marked m)) (go m) (settle go t (go m))

-- "mark 1 each polygon to which some chain of steps leads from there, the start included, 0 the others"
unfoldable pub marks_of : Cell → ℕ → List ℕ
marks_of c start =
    settle (pass c.head.area c.polys c.portals) (suc (length c.polys)) (set (replicate (length c.polys) 0) start 2)

-- "42 start is no polygon, then 43 fewer bytes than polygons"; otherwise the marks, "and return how many are marked"
unfoldable pub reached : ℕ → ℕ → Cell → Outcome ℕ
reached start room c =
    cond (ltb start (length c.polys))
    (cond (leb (length c.polys) room) (done (marked (marks_of c start)) (marks_of c start)) (refused 43 0))
    (refused 42 0)

-- "Checks: 3, then": what the call has to decide of a strip, a start and so many bytes
abbrev pub reach_outcome : List ℕ → ℕ → ℕ → Outcome ℕ
reach_outcome s start room = on_cell (reached start room) (scan s)
