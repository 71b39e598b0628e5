-- What stands behind the tables: there is room for it, and the tree by its words is the cell's. Assumes nothing.
use Prim.Native.Nat.{ℕ, zero, suc, ◌+◌, ◌-◌, ◌*◌, ◌≤◌}
use native.Mathlib.Omega.{arith}
use native.Mathlib.Nat.{add-zero}
use mathlib.Core.Path.{◌≡◌, refl, ap, sym, ◌∙◌}
use mathlib.Core.List.{List, [], ◌∷◌, ◌++◌, append_assoc}
use lib.ListN.{length, get_or, take, drop, length-append}
use lib.Seq.{get_or-append-add}
use Rattle.fields.specs.Put.{put}
use Rattle.fields.proofs.Puts.{put_next}
use Rattle.quarters.specs.declared.bounds.Aabb.{Aabb}
use Rattle.std.specs.Prelude.{Result}
use Rattle.strip.specs.declared.Refusal.{Refusal}
use Rattle.strip.specs.Cell.{NavPoly, NavPoint}
use Rattle.strip.specs.Reading.{word, poly_at, point_at, head_at}
use Rattle.strip.specs.Rows.{after, polygons_at, after_polygons, points_at}
use Rattle.strip.specs.Laid.{first_point, Whole}
use Rattle.strip.specs.declared.Counts.{Counts}
use Rattle.strip.proofs.Lengths.{poly_count}
use Rattle.strip.proofs.Steps.{items_length}
use Rattle.strip.proofs.Judged.{poly_next}
use Rattle.write_pages.specs.Items.{floats, box_of, gather}
use Rattle.write_pages.specs.Sectors.{Sector, leaf_of, leaves, depth_of, root_box, leaf_counts, tree_of}
use Rattle.write_pages.specs.Checks.{leaves_verdict}
use Rattle.write_leaf_counts.specs.Work.{tree_by, BoxesHeld, LeavesHeld}
use Rattle.write_leaf_checks.specs.FirstRefused.{FirstRefused}
use Rattle.write_leaf_counts.proofs.Held.{tree_held}
use Rattle.write_decide.specs.Decide.{work_places}
use Rattle.write_decide.specs.declared.WorkPlaces.{WorkPlaces}
use Rattle.write_decide.proofs.Fronts.{trees_in}
use Rattle.write_decide.proofs.Places.{cut}
use Rattle.write_plan.specs.Plan.{box_words, boxes, leaf_words, points_in, rest_words, WorkHeld}

-- ---- room: a polygon has four words or more, and a point four

polygons_long : (n : ℕ) (s : List ℕ) (at : ℕ) → at + 4 * n ≤ after_polygons s at n
unfolding after
polygons_long zero s at = omega arith
polygons_long (suc n) s at = omega (arith, poly_next s at, polygons_long n s (poly_at s at).next)

pub rest_fits : (s : List ℕ) (n : Counts) → 14 ≤ length s → Whole s n
    → (work_places (length s) n).end ≤ 3 * length s
rest_fits s n l e = omega (arith, (trees_in (length s) l).2, polygons_long n.polys s 14)

pub length_boxes : (ps : List NavPoly) → length (boxes ps) ≡ 3 * length ps
unfolding gather box_words
length_boxes [] = refl
length_boxes (p ∷ ps) = omega (arith, length_boxes ps)

pub length_leaves : (bs : List Aabb) (ts : List NavPoint) → length (leaf_words bs ts) ≡ length ts
unfolding leaf_words
length_leaves bs [] = refl
length_leaves bs (t ∷ ts) = ap suc (length_leaves bs ts)

pub point_count_lem : (s : List ℕ) (n : Counts) → length (points_in s n) ≡ n.points
point_count_lem s n = items_length (point_at s) (λ x. x + 4) n.points (first_point s n)

pub rest_stored : (s : List ℕ) (n : Counts) (w w1 w2 : List ℕ) (p : WorkPlaces) (first : ℕ) (b : Aabb)
    → p ≡ work_places (length s) n → first ≡ first_point s n → b ≡ root_box (head_at s 0)
    → w1 ≡ put p.boxes (boxes (polygons_at s 14 n.polys)) w
    → w2 ≡ put p.leaves (leaf_words (leaves (depth_of (word s 1)) b) (points_at s first n.points)) w1
    → w2 ≡ put (work_places (length s) n).boxes (rest_words s n) w
unfolding head_at
rest_stored s n w w1 w2 p first b eb ef er e1 e2 =
    let size : length (boxes (polygons_at s 14 n.polys)) ≡ 3 * n.polys = length_boxes (polygons_at s 14 n.polys) ∙ ap (λ (k : ℕ). 3 * k) (poly_count s n.polys) in
    e2 ∙ rw (e1, eb, ef, er) (put_next (3 * n.polys) (work_places (length s) n).boxes (boxes (polygons_at s 14 n.polys)) _ w size)

-- ---- the words hold boxes and leaves

got : (pre : List ℕ) (i : ℕ) (xs : List ℕ) → get_or (pre ++ xs) (length pre + i) 0 ≡ get_or xs i 0
got pre i xs = get_or-append-add pre xs i 0

boxes_in : (pre : List ℕ) (ps : List NavPoly) → BoxesHeld (pre ++ boxes ps) (length pre) ps
unfolding gather box_words
boxes_in pre [] = tt
boxes_in pre (p ∷ ps) =
    let three = box_words (box_of p) in
    let next : length (pre ++ three) ≡ length pre + 3 = length-append pre three in
    let zero' : get_or (pre ++ (three ++ boxes ps)) (length pre) 0 ≡ get_or (three ++ boxes ps) 0 0 = ap (λ (k : ℕ). get_or (pre ++ (three ++ boxes ps)) k 0) (sym (add-zero (length pre))) ∙ got pre 0 (three ++ boxes ps) in
    let rest : BoxesHeld ((pre ++ three) ++ boxes ps) (length (pre ++ three)) ps = boxes_in (pre ++ three) ps in
    (record { x = zero'; y = got pre 1 (three ++ boxes ps); z = got pre 2 (three ++ boxes ps) }, rw (append_assoc, next) at rest)

leaves_in : (bs : List Aabb) (pre : List ℕ) (ts : List NavPoint) → LeavesHeld bs (pre ++ leaf_words bs ts) (length pre) ts
unfolding leaf_words
leaves_in bs pre [] = tt
leaves_in bs pre (t ∷ ts) =
    let one = leaf_of bs (floats t.position) ∷ [] in
    let next : length (pre ++ one) ≡ length pre + 1 = length-append pre one in
    let zero' : get_or (pre ++ (one ++ leaf_words bs ts)) (length pre) 0 ≡ get_or (one ++ leaf_words bs ts) 0 0 = ap (λ (k : ℕ). get_or (pre ++ (one ++ leaf_words bs ts)) k 0) (sym (add-zero (length pre))) ∙ got pre 0 (one ++ leaf_words bs ts) in
    let rest : LeavesHeld bs ((pre ++ one) ++ leaf_words bs ts) (length (pre ++ one)) ts = leaves_in bs (pre ++ one) ts in
    (zero', rw (append_assoc, next) at rest)

-- the words that work w holds behind the tables
module _ (s w : List ℕ) (n : Counts) (held : WorkHeld s n w) (p : WorkPlaces) (here : p ≡ work_places (length s) n) where
  abbrev pub box_part : List ℕ
  box_part = take (p.leaves - p.boxes) (drop p.boxes w)

  abbrev pub leaf_part : List ℕ
  leaf_part = take (p.end - p.leaves) (drop p.leaves w)

  pub box_part_lem : box_part ≡ boxes (polygons_at s 14 n.polys)
  box_part_lem =
      let c = cut (length s) n here in
      let m : p.leaves - p.boxes ≡ 3 * n.polys = omega (arith, c) in
      rw (m, c.boxes) held.boxes_held

  pub leaf_part_lem : leaf_part ≡ leaf_words (leaves (depth_of (head_at s 0).content) (root_box (head_at s 0))) (points_in s n)
  leaf_part_lem =
      let c = cut (length s) n here in
      let m : p.end - p.leaves ≡ n.points = omega (arith, c) in
      rw (m, c.leaves, c.boxes) held.leaves_held

  -- a word to a point
  pub part_long : length (points_in s n) ≡ length leaf_part
  part_long = rw leaf_part_lem (sym (length_leaves (leaves (depth_of (head_at s 0).content) (root_box (head_at s 0))) (points_in s n)))

  -- the tree by the words is the cell's
  pub part_tree : (b : Aabb) → b ≡ root_box (head_at s 0)
      → tree_by box_part leaf_part (points_in s n) (depth_of (word s 1)) 0 b ≡ tree_of (head_at s 0) (polygons_at s 14 n.polys) (points_in s n)
  unfolding head_at
  part_tree b root =
      let ps = polygons_at s 14 n.polys in
      let ts = points_in s n in
      let bs = leaves (depth_of (head_at s 0).content) (root_box (head_at s 0)) in
      let boxes-are : BoxesHeld box_part 0 ps = rw box_part_lem (boxes_in [] ps) in
      let leaves-are : LeavesHeld bs leaf_part 0 ts = rw leaf_part_lem (leaves_in bs [] ts) in
      let size : length box_part ≡ 3 * length ps = rw box_part_lem (length_boxes ps) in
      ap (λ (c : Aabb). tree_by box_part leaf_part ts (depth_of (head_at s 0).content) 0 c) root ∙ tree_held (head_at s 0) ps ts box_part leaf_part size boxes-are leaves-are

  pub leaf_told : (b : Aabb) (d : ℕ) (r : Result (Unit {0}) Refusal) → b ≡ root_box (head_at s 0) → d ≡ depth_of (word s 1)
      → ((ts : List NavPoint) → length ts ≡ length leaf_part → FirstRefused r 0 (leaf_counts (tree_by box_part leaf_part ts d 0 b)))
      → FirstRefused r 0 (leaf_counts (tree_of (head_at s 0) (polygons_at s 14 n.polys) (points_in s n)))
  leaf_told b d r root deep tells rest =
      let ts = points_in s n in
      tells ts part_long rest ∙ ap (λ (t : Sector). leaves_verdict 0 (leaf_counts t) rest) (ap (λ (k : ℕ). tree_by box_part leaf_part ts k 0 b) deep ∙ part_tree b root)
