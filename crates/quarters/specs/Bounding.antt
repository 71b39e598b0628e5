-- The bounds of a polygon's vertices as words of a strip, and what the loop over them keeps. Definitions only.
use Rattle.std.specs.Prelude.{ℕ, zero, suc, ◌+◌, ◌-◌, ◌/◌, min, List, [], ◌∷◌, length, from_bits, slice_index, Float}
use Rattle.std.specs.Float.{binary32}
use Rattle.math.specs.Picked.{IsMin, IsMax}
use Rattle.quarters.specs.declared.quarter.QuarterBox.{QuarterBox}
use Rattle.quarters.specs.declared.bounds.Aabb.{Aabb}
use Rattle.quarters.specs.Bounds.{greatest, lowest, least_side, greatest_side}

-- every third of 3 * n words from a place on: one axis of n vertices
unfoldable pub every_third : List ℕ → ℕ → ℕ → List ℕ
every_third s at zero = []
every_third s at (suc n) = slice_index s at ∷ every_third s (at + 3) n

-- how many of n vertices from a place on the words hold whole; the others are left out
abbrev pub held : List ℕ → ℕ → ℕ → ℕ
held s at n = min n ((length s - at) / 3)

-- r is what a comes to, taken together with one float after the other, where `step a x b` says that b may come of a and x
pub data Run (step : Float → Float → Float → Type 0) : Float → List ℕ → Float → Type 0 where
  done : {a : Float} → Run step a [] a
  turn : {a b r : Float} {w : ℕ} {ws : List ℕ} → step a (from_bits binary32 w) b → Run step b ws r → Run step a (w ∷ ws) r

-- A polygon's min and max, by axis. Which zero is free.
pub record Bounding (s : List ℕ) (at n : ℕ) (r : Aabb) : Type 0 where
  pub min_x : Run IsMin greatest (every_third s at n) r.min.x
  pub min_y : Run IsMin greatest (every_third s (at + 1) n) r.min.y
  pub min_z : Run IsMin greatest (every_third s (at + 2) n) r.min.z
  pub max_x : Run IsMax lowest (every_third s at n) r.max.x
  pub max_y : Run IsMax lowest (every_third s (at + 1) n) r.max.y
  pub max_z : Run IsMax lowest (every_third s (at + 2) n) r.max.z

-- A polygon's quarter box.
abbrev pub quarter_bounds : List ℕ → ℕ → ℕ → QuarterBox
quarter_bounds s at n = record {
  x_min = least_side (every_third s at n);
  x_max = greatest_side (every_third s at n);
  y_min = least_side (every_third s (at + 1) n);
  y_max = greatest_side (every_third s (at + 1) n);
  z_min = least_side (every_third s (at + 2) n);
  z_max = greatest_side (every_third s (at + 2) n);
}
