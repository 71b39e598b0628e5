-- `write_leaf_counts::meets_at` meets its contract: axis by axis, y only where x meets (`meets_yes`, `meets_no`).
use Prim.Native.Nat.{◌+◌}
use mathlib.Core.Path.{◌≡◌, sym, ◌∙◌}
use lib.ListN.{get_or}
use mir.Syntax.{w16}
use mir.ValLaws.{to_z-of_z}
use Rattle.write_leaf_counts.proofs.Picks.{axis_of, meets_yes, meets_no}
use Rattle.write_leaf_counts.proofs.meets_at.Goals as goal
use Rattle.write_leaf_counts.proofs.meets_at.Goals.{After-axis_meets, After-axis_meets-then-axis_meets}

-- the leaf's sides as the machine reads them
x_test : (c : After-axis_meets) → c.axis_meets.result ≡ axis_of c.args.q.x_min c.args.q.x_max (get_or c.args.boxes.now c.args.at 0)
x_test c =
    let told = c.struct_told-1.given in
    rw (to_z-of_z w16 _ (record { sfits = told.0.1 }), to_z-of_z w16 _ (record { sfits = told.1.0.1 })) at c.axis_meets.ensures

y_test : (c : After-axis_meets-then-axis_meets) → c.axis_meets-then-axis_meets.result ≡ axis_of c.args.q.y_min c.args.q.y_max (get_or c.args.boxes.now (c.args.at + 1) 0)
y_test c =
    let told = c.struct_told-then-axis_meets-1.given in
    rw (to_z-of_z w16 _ (record { sfits = told.1.1.0.1 }), to_z-of_z w16 _ (record { sfits = told.1.1.1.0.1 })) at c.axis_meets-then-axis_meets.ensures

pub returns-then-axis_meets : goal.returns-then-axis_meets
returns-then-axis_meets c = y_test c ∙ sym (meets_yes c.args.boxes.now c.args.at c.args.q (sym (x_test (goal.at.returns-then-axis_meets c).After-axis_meets) ∙ c.if-axis_meets.true))

pub returns-else-axis_meets : goal.returns-else-axis_meets
returns-else-axis_meets c = c.if-axis_meets.false ∙ sym (meets_no c.args.boxes.now c.args.at c.args.q (sym (x_test (goal.at.returns-else-axis_meets c).After-axis_meets) ∙ c.if-axis_meets.false))
