-- `ynv_write::serialize_ynv` meets its contract: a plan's fault is the answer (`refuses`), then a length that doesn't fit (`too_short`), and otherwise what `fill` stored are the pages (`writes`). That work stays behind twice the strip's words is the plan's part, and where nothing is refused also that of `fill`. Assumes nothing.
use Prim.Native.Nat.{◌≤◌}
use native.Mathlib.Omega.{arith}
use mathlib.Core.Path.{◌∙◌}
use lib.ListN.{length}
use Rattle.fields.proofs.Puts.{put_whole}
use Rattle.std.proofs.lemmas.Result.{err_from_is_err_and}
use Rattle.write_pages.specs.Pages.{pages}
use Rattle.strip.specs.Laid.{cell_at}
use Rattle.write_plan.proofs.Ready.{ready}
use Rattle.write_ends.proofs.Planned.{pages_reached}
use Rattle.ynv_write.proofs.Answer.{refuses, too_short, all_points, writes, answers}
use Rattle.ynv_write.proofs.serialize_ynv.Goals as goal

pub pages_end-ends-requires : goal.pages_end-ends-requires
pages_end-ends-requires c = ready _ _ _ _ c.plan.ensures _ c.in_ok-d.was

pub fill-stored-requires : goal.fill-stored-requires
fill-stored-requires c = (ready _ _ _ _ c.plan.ensures _ c.in_ok-d.was, c.pages_end-ends.ensures.sectors)

-- no more are stored than there are
pub overflow_sub-dropped : goal.overflow_sub-dropped
overflow_sub-dropped c = omega (arith, c.fill-stored.ensures.points, all_points c.args.strip.now c.in_ok-d.d.counts)

pub count_pushed-pushed-requires : goal.count_pushed-pushed-requires
count_pushed-pushed-requires c =
    let R = ready _ _ _ _ c.plan.ensures _ c.in_ok-d.was in
    let few = all_points c.args.strip.now c.in_ok-d.d.counts in
    (R.length_is, omega (arith, c.fill-stored.ensures.points, few), R.tabled.cell, R.tabled.pushed_count)

-- ---- the three ends
-- the pages don't fit, and none of their bytes is stored
pub returns-then-pages-length : goal.returns-then-pages-length
returns-then-pages-length c =
    let a = c.args in
    let P = c.plan.ensures in
    let long = pages_reached (cell_at a.strip.now c.in_ok-d.d.counts) c.pages_end-ends.ensures.end in
    let short = too_short a.strip.now a.work.now _ _ P (length a.pages.now) _ c.in_ok-d.was (omega (arith, c.if-pages-length.true, long)) in
    record {
      answer = rw (short, c.from.ensures);
      pages = rw short;
      work = P.long;
      beyond = P.beyond;
    }

-- they fit, and are filled
pub returns : goal.returns
returns c =
    let a = c.args in
    let P = c.plan.ensures in
    let out = length a.pages.now in
    let none = c.in_ok-d.was in
    let long = pages_reached (cell_at a.strip.now c.in_ok-d.d.counts) c.pages_end-ends.ensures.end in
    let room : length (pages (cell_at a.strip.now c.in_ok-d.d.counts)) ≤ out = omega (arith, c.if-pages-length.false, long) in
    let F = c.fill-stored.ensures.pages in
    let stored = c.fill-stored.ensures.points in
    record {
      answer = answers a.strip.now a.work.now _ _ P out _ none room long (omega (arith, stored)) (omega (arith, stored, all_points a.strip.now c.in_ok-d.d.counts)) c.count_pushed-pushed.ensures;
      pages = rw (writes a.strip.now a.work.now _ _ P out _ none room) (F.bytes ∙ put_whole _ _ room);
      work = F.long ∙ P.long;
      beyond = F.beyond ∙ P.beyond;
    }

-- the plan refuses
pub returns-in_err-d : goal.returns-in_err-d
returns-in_err-d c =
    let a = c.args in
    let plan = c.plan.ensures in
    let p = err_from_is_err_and c.from_residual.result c.from_residual.ensures.1 in
    let refusal = refuses a.strip.now a.work.now _ _ plan (length a.pages.now) _ c.in_err-d.was in
    rw (p.1, p.2)
    (record {
      answer = rw refusal;
      pages = rw refusal;
      work = plan.long;
      beyond = plan.beyond;
    })
