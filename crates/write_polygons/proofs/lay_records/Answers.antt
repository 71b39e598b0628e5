-- `write_polygons::lay_records` meets its contract: a turn lays out one part.
use Rattle.std.proofs.Common.{◌≡◌, ◌+◌, ◌-◌, ◌≤◌, lit≤, ap, sym, ◌∙◌, arith}
use borrow.Author.Rules.{rules}
use Rattle.write_blocks.specs.Laid.{sum_of}
use Rattle.write_blocks.specs.Lists.{part_counts, part_count, per_part}
use Rattle.write_blocks.proofs.Lists.{sum_turn, sum_parts}
use Rattle.write_blocks.proofs.Parts.{parting, parting_room, parting_turn, parted}
use Rattle.write_pages.proofs.Sizes.{wide_polygons}
use Rattle.strip.specs.Rows.{polygons_at}
use Rattle.write_list_blocks.specs.Parts.{counts_left}
use Rattle.write_polygons.specs.Records.{start, records_at}
use Rattle.write_polygons.specs.declared.PolyCursor.{PolyCursor}
use Rattle.write_polygons.proofs.Records.{length_records, records_take, records_drop, standing_part, standing_past}
use Rattle.write_polygons.proofs.lay_records.Goals as goal
use Rattle.write_polygons.proofs.lay_records.Goals.{In-Some}

-- the part of a turn is the first of those that are left
first : (c : In-Some) → sum_of (counts_left c.loop-m.m-iterator) ≡ c.in-Some.m + sum_of (counts_left c.next.new.self)
first c = sum_turn (counts_left c.loop-m.m-iterator) _ _ c.in-Some.ensures.steps

pub loop-m-init : goal.loop-m-init
loop-m-init c =
    let a = c.args in
    let all = sum_parts 48 a.n (lit≤ tt) (lit≤ tt) in
    rw (c.into_iter-m-iterator.ensures.into_iter_gives, c.new-m-items.ensures, all)
    (tt, tt, c.requires.0, parting _ _ _ _ _ (omega (arith, all, length_records a.own a.strip.now start a.n)) (wide_polygons a.own 0 0 0 (polygons_at a.strip.now 14 a.n)))

pub lay_part-part-requires : goal.lay_part-part-requires
lay_part-part-requires c =
    let e = first (goal.at.lay_part-part-requires c).In-Some in
    let le : c.in-Some.m ≤ sum_of (counts_left c.loop-m.m-iterator) = omega arith in
    (standing_part _ _ _ _ _ le c.loop-m.invariant.2, parting_room _ _ _ _ _ _ _ _ _ c.loop-m.invariant.3 _ _ c.in-Some.ensures.steps c.requires.1.below)

pub loop-m-preserved : goal.loop-m-preserved
loop-m-preserved c =
    let a = c.args in
    let s = a.strip.now in
    let next = c.loop-m.next in
    let m = c.in-Some.m in
    let left = sum_of (counts_left c.loop-m.m-iterator) in
    let others = sum_of (counts_left c.next.new.self) in
    let f = first (goal.at.loop-m-preserved c).In-Some in
    let le : m ≤ left = omega arith in
    let d : left - m ≡ others = omega arith in
    let e = c.lay_part-part.ensures.cursor in
    let those = records_drop a.own s next m left le ∙ ap (λ (c' : PolyCursor). records_at a.own s c' (left - m)) (sym e) ∙ ap (records_at a.own s c.lay_part-part.result.cursor) d in (
      tt,
      tt,
      rw (e, ← d) (standing_past s a.sides.now next m left le c.loop-m.invariant.2),
      parting_turn _ _ _ _ _ _ _ _ _ c.loop-m.invariant.3 _ _ c.in-Some.ensures.steps _ _ (records_take a.own s next m left le) those _ _ (search rules) c.lay_part-part.ensures.laid,
    )

pub returns : goal.returns
returns c =
    let a = c.args in
    let k = part_count 48 a.n in
    parted _ _ _ _ _ _ _ _ _ c.loop-m.invariant.3 k (per_part 48) (ap (part_counts k (per_part 48)) (sym (length_records a.own a.strip.now start a.n))) c.in-None.ensures.steps.0
