-- The seam count before request 5, and what changed with it. Only theorems use these. Definitions only.
use Rattle.std.specs.Prelude.{ℕ, List, [], ◌∷◌, Bool, not, ◌&&◌, ◌⊎◌}
use Rattle.strip.specs.Cell.{Cell, NavEdgeEnd, NavPoly}
use Rattle.touching.specs.Touch.{touch}
use Rattle.touching.specs.Before.{touch_by_number}
use Rattle.seams.specs.Seams.{half_count}

-- a half was counted by its area's number alone
unfoldable pub counted_by_number : ℕ → NavEdgeEnd → Bool
counted_by_number own h = touch_by_number own h.area

abbrev pub seams_by_number : Cell → ℕ
seams_by_number c = half_count (counted_by_number c.head.area) c.polys

-- a half that the test before took and the test now does not
unfoldable pub left_out : ℕ → NavEdgeEnd → Bool
left_out own h = touch_by_number own h.area && not (touch own h.area)

-- some element has a property; some half of all the edges of polygons, surplus ones too
abbrev pub Any : {A : Type 0} → (A → Type 0) → List A → Type 0
Any P [] = ⊥
Any P (a ∷ rest) = P a ⊎ Any P rest

abbrev pub SomeHalf : (NavEdgeEnd → Type 0) → List NavPoly → Type 0
SomeHalf P ps = Any (λ p. Any (λ e. P e.a ⊎ P e.b) p.edges) ps
