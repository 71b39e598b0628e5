-- Positions turned back: records whose positions are shorts become those whose positions are the coordinates, in whatever box.
use Prim.Native.Nat.{ℕ, suc, ◌+◌, ◌-◌, ◌*◌, ◌/◌, ◌%◌, ◌≤◌, ◌<◌}
use native.Mathlib.Nat.{mod-eq_of_lt}
use native.Mathlib.Omega.{arith}
use mathlib.Core.Path.{◌≡◌, sym, ap, ◌∙◌}
use mathlib.Core.List.{List, [], ◌∷◌, ◌++◌}
use lib.ListN.{length, get_or}
use Rattle.fields.specs.Bytes.{le_at, over}
use Rattle.fields.specs.Put.{put}
use Rattle.fields.proofs.Puts.{length_put, put_next, put_inside, stored}
use Rattle.math.specs.declared.vec3.Vec3 as Floats
use Rattle.strip.specs.Cell.{vec_words, point_words}
use Rattle.strip.specs.Fits.{All}
use Rattle.read_grammar.specs.Derives.{point_of}
use Rattle.read_records.specs.Back.{back_by}
use Rattle.read_sectors.specs.Walk.{Walked}
use Rattle.read_points.specs.declared.TreeCursor.{TreeCursor}
use Rattle.read_points.specs.Write.{as_shorts, points_words, points_in, HasRoom, Written, turned_at, turned}
use Rattle.read_points.proofs.Shorts.{Shorts}
use Rattle.read_points.proofs.Stores.{words_cons, words_next, put_none}
use Rattle.strip.proofs.Plain.{point_length}

module _ (bb-min bb-size : Floats.Vec3) where
  -- by the places that are read and the one that is stored at
  pub turned_by_places : (at : ℕ) (s : List ℕ) {x y z to : ℕ} → x ≡ at + 1 → y ≡ at + 2 → z ≡ at + 3 → to ≡ at + 1
      → put to (vec_words (back_by bb-min bb-size (get_or s x 0 % 65536) (get_or s y 0 % 65536) (get_or s z 0 % 65536))) s ≡ turned_at bb-min bb-size at s
  unfolding turned_at
  turned_by_places at s ex ey ez et = rw (ex, ey, ez, et)

  -- the record at a place, whatever follows it
  record_turned : (at h x y z : ℕ) (rest old : List ℕ) → at + 4 ≤ length old
      → turned_at bb-min bb-size at (put at (h ∷ x ∷ y ∷ z ∷ rest) old)
      ≡ put at (h ∷ (vec_words (back_by bb-min bb-size (x % 65536) (y % 65536) (z % 65536)) ++ rest)) old
  unfolding turned_at put over vec_words
  record_turned at h x y z rest old room =
      let rec : List ℕ = h ∷ x ∷ y ∷ z ∷ rest in
      rw (stored at rec old 1 (omega arith) (omega arith), stored at rec old 2 (omega arith) (omega arith), stored at rec old 3 (omega arith) (omega arith))
      (put_inside at 1 _ rec old (omega arith))

  point_turned : (at : ℕ) (p : List ℕ) (rest old : List ℕ) → Shorts p → at + 4 ≤ length old
      → turned_at bb-min bb-size at (put at (point_words (point_of as_shorts p) ++ rest) old) ≡ put at (point_words (point_of (back_by bb-min bb-size) p) ++ rest) old
  unfolding point_words point_of vec_words as_shorts back_by
  point_turned at p rest old (x, y, z) room =
      record_turned at _ (le_at 2 p 0) (le_at 2 p 2) (le_at 2 p 4) rest old room ∙ rw (mod-eq_of_lt x, mod-eq_of_lt y, mod-eq_of_lt z)

  first_turned : (at : ℕ) (p : List ℕ) (ps : List (List ℕ)) (old : List ℕ) → Shorts p → at + 4 ≤ length old
      → turned_at bb-min bb-size at (put at (points_words as_shorts (p ∷ ps)) old) ≡ put (at + 4) (points_words as_shorts ps) (put at (point_words (point_of (back_by bb-min bb-size) p)) old)
  first_turned at p ps old q room =
      ap (λ (ws : List ℕ). turned_at bb-min bb-size at (put at ws old)) (words_cons as_shorts p ps)
      ∙ point_turned at p (points_words as_shorts ps) old q room
      ∙ sym (put_next 4 at (point_words (point_of (back_by bb-min bb-size) p)) (points_words as_shorts ps) old (point_length (point_of (back_by bb-min bb-size) p)))

  pub points_turned : (ps : List (List ℕ)) (at : ℕ) (old : List ℕ) → All Shorts ps → at + 4 * length ps ≤ length old
      → turned bb-min bb-size (length ps) at (put at (points_words as_shorts ps) old) ≡ put at (points_words (back_by bb-min bb-size) ps) old
  unfolding turned
  points_turned [] at old q room = put_none as_shorts at old ∙ sym (put_none (back_by bb-min bb-size) at old)
  points_turned (p ∷ ps) at old q room =
      let old' = put at (point_words (point_of (back_by bb-min bb-size) p)) old in
      let room' : at + 4 + 4 * length ps ≤ length old' = rw length_put (omega arith) in
      ap (turned bb-min bb-size (length ps) (at + 4)) (first_turned at p ps old q.0 (omega arith)) ∙ points_turned ps (at + 4) old' q.1 room' ∙ words_next (back_by bb-min bb-size) at p ps old

  -- one turn of the loop
  pub turned_more : (n i at : ℕ) (s : List ℕ) {t : List ℕ} → i < n → t ≡ turned_at bb-min bb-size (at + 4 * i) s
      → turned bb-min bb-size (n - (i + 1)) (at + 4 * (i + 1)) t ≡ turned bb-min bb-size (n - i) (at + 4 * i) s
  unfolding turned
  turned_more n i at s h e =
      let f : n - i ≡ suc (n - (i + 1)) = omega arith in
      let g : at + 4 * (i + 1) ≡ at + 4 * i + 4 = omega arith in
      rw (e, f, g)

  pub turned_start : (n i at : ℕ) (s : List ℕ) → i ≡ 0 → turned bb-min bb-size (n - i) (at + 4 * i) s ≡ turned bb-min bb-size n at s
  turned_start n i at s e =
      let a : at + 4 * i ≡ at = omega arith in
      let b : n - i ≡ n = omega arith in
      rw (a, b)

  pub turned_end : (n i at : ℕ) (s : List ℕ) → i ≡ n → turned bb-min bb-size (n - i) (at + 4 * i) s ≡ s
  unfolding turned
  turned_end n i at s e = let z : n - i ≡ 0 = omega arith in rw z

-- ---- the two steps together

module _ {w : Walked} {at : ℕ} {old mid : List ℕ} {r : TreeCursor} (f : HasRoom w at (length old)) (t : Written w at old r mid) where
  pub count_is : r.at ≡ at + 4 * length f.points
  count_is = (t f.left f.points f.is).at

  pub turn_fits : (n : ℕ) → n ≡ (r.at - at) / 4 → length mid ≡ length old → at + 4 * n ≤ length mid
  turn_fits n e k = let c = count_is in omega (arith, f.room)

  pub next_is : r.at ≡ at + 4 * length (points_in w)
  next_is = rw f.is count_is

  pub all_turned : (bb-min bb-size : Floats.Vec3) (n : ℕ) {new : List ℕ} → All Shorts f.points → n ≡ (r.at - at) / 4 → new ≡ turned bb-min bb-size n at mid
      → new ≡ put at (points_words (back_by bb-min bb-size) (points_in w)) old
  all_turned bb-min bb-size n q e g =
      let c = count_is in
      let m : n ≡ length f.points = omega arith in
      g ∙ rw ((t f.left f.points f.is).strip, m, f.is) (points_turned bb-min bb-size f.points at old q f.room)
