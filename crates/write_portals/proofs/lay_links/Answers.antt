-- `write_portals::lay_links` meets its contract: zeros up to the place, then the links, if there is one. Assumes nothing.
use mathlib.Core.Path.{◌≡◌, ap, sym, ◌∙◌}
use Prim.Native.Nat.{ℕ, ◌*◌}
use native.Mathlib.Omega.{arith}
use lib.ListN.{length}
use Rattle.fields.specs.Bytes.{les}
use Rattle.fields.proofs.Bytes.{length_les}
use Rattle.strip.specs.Rows.{polygons_at}
use Rattle.write_pages.specs.Items.{links_of}
use Rattle.write_blocks.proofs.Optional.{some_below, laid_nothing, laid_some}
use Rattle.write_portals.proofs.lay_links.Goals as goal

pub returns-then-count-eq0 : goal.returns-then-count-eq0
returns-then-count-eq0 c =
    let a = c.args in
    let bs = les 2 (links_of (polygons_at a.strip.now 14 a.n)) in
    let long : length bs ≡ 2 * a.count = length_les 2 (links_of (polygons_at a.strip.now 14 a.n)) ∙ ap (λ (k : ℕ). 2 * k) (sym c.requires.1) in
    laid_nothing _ bs _ (omega (arith, long, c.if-count-eq0.true))

pub overflow_mul-count : goal.overflow_mul-count
overflow_mul-count c = omega (arith, some_below c.args.l.at (2 * c.args.count) (omega (arith, c.if-count-eq0.false)) c.requires.2)

pub pad-start-requires : goal.pad-start-requires
pad-start-requires c = some_below _ _ (omega (arith, c.if-count-eq0.false)) c.requires.2

pub put_links-requires : goal.put_links-requires
put_links-requires c = (c.requires.0, rw (c.pad-start.ensures.start, ← c.requires.1) (some_below _ _ (omega (arith, c.if-count-eq0.false)) c.requires.2))

pub overflow_mul-count-2 : goal.overflow_mul-count-2
overflow_mul-count-2 c = omega (arith, some_below c.args.l.at (2 * c.args.count) (omega (arith, c.if-count-eq0.false)) c.requires.2)

pub alloc-requires : goal.alloc-requires
alloc-requires c = some_below _ _ (omega (arith, c.if-count-eq0.false)) c.requires.2

pub returns : goal.returns
returns c =
    let a = c.args in
    let bs = les 2 (links_of (polygons_at a.strip.now 14 a.n)) in
    let long : length bs ≡ 2 * a.count = length_les 2 (links_of (polygons_at a.strip.now 14 a.n)) ∙ ap (λ (k : ℕ). 2 * k) (sym c.requires.1) in
    laid_some bs long (omega (arith, c.if-count-eq0.false)) c.pad-start.ensures.start c.pad-start.ensures.out c.put_links.ensures c.alloc.ensures
