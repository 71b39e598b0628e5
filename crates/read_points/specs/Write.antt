-- The second pass: what it writes of a tree that was accepted, from a word of the strip on. Definitions only.
use Rattle.std.specs.Prelude.{ℕ, zero, suc, ◌+◌, ◌*◌, ◌%◌, ◌≤◌, ◌≡◌, List, [], map, length, get_or}
use Rattle.fields.specs.Put.{put}
use Rattle.math.specs.declared.vec3.Vec3 as Floats
use Rattle.strip.specs.Cell.{Vec3, each, vec_words, point_words}
use Rattle.read_grammar.specs.Derives.{point_of}
use Rattle.read_records.specs.Back.{back_by}
use Rattle.read_points.specs.declared.TreeCursor.{TreeCursor}
use Rattle.read_sectors.specs.Walk.{Walked}
use Rattle.read_sectors.specs.Walk.Walked.{done, refused}

-- the points of an accepted walk
abbrev pub points_in : Walked → List (List ℕ)
points_in (done l ps) = ps
points_in (refused number) = []

-- the words of points, each given by its bytes
unfoldable pub points_words : (ℕ → ℕ → ℕ → Vec3) → List (List ℕ) → List ℕ
points_words back ps = each point_words (map (point_of back) ps)

-- the walk was accepted, and its points have room from at on in a strip of n words
pub record HasRoom (w : Walked) (at n : ℕ) : Type 0 where
  pub left : ℕ
  pub points : List (List ℕ)
  pub is : w ≡ done left points
  pub room : at + 4 * length points ≤ n

-- The steps of the pass. First the points' positions are their shorts:
unfoldable pub as_shorts : ℕ → ℕ → ℕ → Vec3
as_shorts x y z = record { x = x; y = y; z = z }

-- of an accepted walk with the points ps and l visits left, the points stand from a word on, and the rest is as it was
pub record PointsPut (l : ℕ) (ps : List (List ℕ)) (from : ℕ) (old : List ℕ) (r : TreeCursor) (new : List ℕ) : Type 0 where
  pub left : r.left ≡ l
  pub at : r.at ≡ from + 4 * length ps
  pub strip : new ≡ put from (points_words as_shorts ps) old

abbrev pub Written : Walked → ℕ → List ℕ → TreeCursor → List ℕ → Type 0
Written w at old r new = (l : ℕ) (ps : List (List ℕ)) → w ≡ done l ps → PointsPut l ps at old r new

-- then they are turned back, one record after the other
unfoldable pub turned_at : Floats.Vec3 → Floats.Vec3 → ℕ → List ℕ → List ℕ
turned_at bb-min bb-size at s = put (at + 1) (vec_words (back_by bb-min bb-size (get_or s (at + 1) 0 % 65536) (get_or s (at + 2) 0 % 65536) (get_or s (at + 3) 0 % 65536))) s

unfoldable pub turned : Floats.Vec3 → Floats.Vec3 → ℕ → ℕ → List ℕ → List ℕ
turned bb-min bb-size zero at s = s
turned bb-min bb-size (suc n) at s = turned bb-min bb-size n (at + 4) (turned_at bb-min bb-size at s)
