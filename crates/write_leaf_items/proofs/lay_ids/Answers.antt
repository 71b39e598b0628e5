-- `write_leaf_items::lay_ids` meets its contract: zeros up to the place, then the ids of the box's quarters, if there is one. Assumes nothing.
use mathlib.Core.Path.{◌≡◌, sym, ap, ◌∙◌}
use Prim.Native.Nat.{ℕ, ◌*◌}
use mathlib.Core.List.{List}
use lib.ListN.{length}
use native.Mathlib.Omega.{arith}
use Rattle.write_blocks.proofs.Optional.{behind_some, laid_nothing, laid_some}
use Rattle.fields.specs.Bytes.{les}
use Rattle.fields.specs.Put.{put}
use Rattle.fields.proofs.Bytes.{length_les}
use Rattle.write_blocks.specs.Layout.{behind, end_of}
use Rattle.write_blocks.specs.Optional.{size_of}
use Rattle.write_pages.specs.Sectors.{leaf_ids, quarters}
use Rattle.write_leaf_counts.specs.Work.{boxes_in}
use Rattle.quarters.specs.declared.quarter.QuarterBox.{QuarterBox}
use Rattle.write_leaf_items.proofs.lay_ids.Goals as goal
use Rattle.write_leaf_items.proofs.lay_ids.Goals.{After-quarter_box-q}

-- the ids of the quarter box that was made are the leaf's
ids_are : (c : After-quarter_box-q) → leaf_ids c.quarter_box-q.result 0 (boxes_in c.args.boxes.now) ≡ leaf_ids (quarters c.args.b) 0 (boxes_in c.args.boxes.now)
ids_are c = ap (λ (q : QuarterBox). leaf_ids q 0 (boxes_in c.args.boxes.now)) c.quarter_box-q.ensures

room : (c : After-quarter_box-q) → end_of c.args.l.at (size_of (2 * c.args.n)) ≡ behind c.args.l.at (2 * c.args.n)
room c = behind_some c.args.l.at (2 * c.args.n) (omega (arith, c.if-n-eq0.false))

pub returns-then-n-eq0 : goal.returns-then-n-eq0
returns-then-n-eq0 c =
    let a = c.args in
    let is = leaf_ids (quarters a.b) 0 (boxes_in a.boxes.now) in
    laid_nothing a.l (les 2 is) a.out.now (omega (arith, length_les 2 is, c.requires.0, c.if-n-eq0.true))

pub quarter_box-q-requires : goal.quarter_box-q-requires
quarter_box-q-requires c = tt

pub overflow_mul-n : goal.overflow_mul-n
overflow_mul-n c = omega (arith, c.requires.1)

pub pad-at-requires : goal.pad-at-requires
pad-at-requires c = omega (arith, room (goal.at.pad-at-requires c).After-quarter_box-q, c.requires.2)

pub put_ids-requires : goal.put_ids-requires
put_ids-requires c =
    omega (arith, room (goal.at.put_ids-requires c).After-quarter_box-q, ap length (ids_are (goal.at.put_ids-requires c).After-quarter_box-q), c.requires.0, c.requires.2, c.pad-at.ensures.start)

pub overflow_mul-n-2 : goal.overflow_mul-n-2
overflow_mul-n-2 c =
    omega (arith, c.requires.1)

pub alloc-requires : goal.alloc-requires
alloc-requires c =
    omega (arith, room (goal.at.alloc-requires c).After-quarter_box-q, c.requires.2)

pub returns : goal.returns
returns c =
    let a = c.args in
    let is = leaf_ids (quarters a.b) 0 (boxes_in a.boxes.now) in
    laid_some (les 2 is) (length_les 2 is ∙ ap (λ (j : ℕ). 2 * j) (sym c.requires.0)) (omega (arith, c.if-n-eq0.false)) c.pad-at.ensures.start c.pad-at.ensures.out
    (c.put_ids.ensures ∙ ap (λ (js : List ℕ). put c.pad-at.result (les 2 js) c.pad-at.new.out) (ids_are (goal.at.returns c).After-quarter_box-q)) c.alloc.ensures
