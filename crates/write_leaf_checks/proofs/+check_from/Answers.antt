-- The proof of the cycle of calls {check_from}. The measure is the depth. At a leaf the callee answers; where a box splits, each sub answers behind the one before it, up to the first refusal, which stays (`tells_subs`).
-- Assumes nothing.
use Prim.Native.Nat.{ℕ}
use native.Mathlib.Omega.{arith}
use mathlib.Core.Path.{refl}
use Rattle.std.proofs.lemmas.Result.{err_from_is_err_and}
use Rattle.write_pages.specs.Sectors.{leaf_ids}
use Rattle.write_quadtree.proofs.Dividing.{Below, subs_below}
use Rattle.write_leaf_counts.specs.Work.{boxes_in, picked_from}
use Rattle.write_leaf_checks.proofs.LeafVerdicts.{next_first, next_kept, tells_subs}
use Rattle.write_leaf_checks.proofs.+check_from.Goals as goal
use Rattle.write_leaf_checks.proofs.+check_from.Goals.{After-divide-subs}

subs : (t : ℕ) (c : After-divide-subs t) → let r = c.divide-subs.result in Below t r.s0 × Below t r.s1 × Below t r.s2 × Below t r.s3
subs t c = subs_below c.args.t c.if-t-eq0.false c.divide-subs.ensures (omega (arith, c.decreases)) c.requires

pub returns-then-t-eq0 : goal.returns-then-t-eq0
returns-then-t-eq0 t c ts l = rw c.if-t-eq0.true (c.check_leaf.ensures ts l)

pub divide-subs-requires : goal.divide-subs-requires
divide-subs-requires t c = (c.if-t-eq0.false, c.requires)

pub check_from-requires : goal.check_from-requires
check_from-requires t c = let b = (subs t (goal.at.check_from-requires t c).After-divide-subs).0 in (b.falls, b.numbered)

pub check_from-requires-2 : goal.check_from-requires-2
check_from-requires-2 t c = let b = (subs t (goal.at.check_from-requires-2 t c).After-divide-subs).1 in (b.falls, b.numbered)

pub check_from-requires-3 : goal.check_from-requires-3
check_from-requires-3 t c = let b = (subs t (goal.at.check_from-requires-3 t c).After-divide-subs).2 in (b.falls, b.numbered)

pub check_from-requires-4 : goal.check_from-requires-4
check_from-requires-4 t c = let b = (subs t (goal.at.check_from-requires-4 t c).After-divide-subs).3 in (b.falls, b.numbered)

pub returns-in_err-check_from : goal.returns-in_err-check_from
returns-in_err-check_from t c ts l =
    let p = err_from_is_err_and c.from_residual.result c.from_residual.ensures.1 in
    rw (p.1, p.2)
    (tells_subs (λ q. leaf_ids q 0 (boxes_in c.args.boxes.now)) (λ n. picked_from c.args.leaf_numbers.now n 0 ts) c.args.t c.if-t-eq0.false c.divide-subs.ensures
    (next_first _ _ tt refl (c.check_from.ensures ts l))
    (next_kept _ _ _ c.in_err-check_from.was)
    (next_kept _ _ _ refl)
    (next_kept _ _ _ refl)).told

pub returns-in_err-check_from-2 : goal.returns-in_err-check_from-2
returns-in_err-check_from-2 t c ts l =
    let p = err_from_is_err_and c.from_residual-in_err-check_from-2.result c.from_residual-in_err-check_from-2.ensures.1 in
    rw (p.1, p.2)
    (tells_subs (λ q. leaf_ids q 0 (boxes_in c.args.boxes.now)) (λ n. picked_from c.args.leaf_numbers.now n 0 ts) c.args.t c.if-t-eq0.false c.divide-subs.ensures
    (next_first _ _ tt refl (c.check_from.ensures ts l))
    (next_first _ _ _ c.in_ok-check_from.was (c.check_from-2.ensures ts l))
    (next_kept _ _ _ c.in_err-check_from-2.was)
    (next_kept _ _ _ refl)).told

pub returns-in_err-check_from-3 : goal.returns-in_err-check_from-3
returns-in_err-check_from-3 t c ts l =
    let p = err_from_is_err_and c.from_residual-in_err-check_from-3.result c.from_residual-in_err-check_from-3.ensures.1 in
    rw (p.1, p.2)
    (tells_subs (λ q. leaf_ids q 0 (boxes_in c.args.boxes.now)) (λ n. picked_from c.args.leaf_numbers.now n 0 ts) c.args.t c.if-t-eq0.false c.divide-subs.ensures
    (next_first _ _ tt refl (c.check_from.ensures ts l))
    (next_first _ _ _ c.in_ok-check_from.was (c.check_from-2.ensures ts l))
    (next_first _ _ _ c.in_ok-check_from-2.was (c.check_from-3.ensures ts l))
    (next_kept _ _ _ c.in_err-check_from-3.was)).told

pub returns : goal.returns
returns t c ts l =
    (tells_subs (λ q. leaf_ids q 0 (boxes_in c.args.boxes.now)) (λ n. picked_from c.args.leaf_numbers.now n 0 ts) c.args.t c.if-t-eq0.false c.divide-subs.ensures
    (next_first _ _ tt refl (c.check_from.ensures ts l))
    (next_first _ _ _ c.in_ok-check_from.was (c.check_from-2.ensures ts l))
    (next_first _ _ _ c.in_ok-check_from-2.was (c.check_from-3.ensures ts l))
    (next_first _ _ _ c.in_ok-check_from-3.was (c.check_from-4.ensures ts l))).told
