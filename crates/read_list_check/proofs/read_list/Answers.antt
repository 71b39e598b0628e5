-- `read_list_check::read_list` meets its contract. The loop's invariant: the parts before k are good, and total is how many items they have.
use Rattle.read_list_check.proofs.ReadList.{none, bad_header, bad_table, bad_part, part_refused, adds_up, not_up, more_good}
use Rattle.read_lists.proofs.Lists.{product, before_next}
use borrow.Author.Rules.{rules}
use native.Mathlib.Omega.{arith}
use mathlib.Core.Path.{refl, sym}
use Rattle.read_lists.specs.Lists.{before, good_to, count_at}
use Rattle.read_list_check.proofs.read_list.Goals as goal

pub returns-then-va-eq0 : goal.returns-then-va-eq0
returns-then-va-eq0 c =
    record {
      answer = none _ _ _ _ _ c.if-va-eq0.true;
      bound = omega arith;
    }

pub returns-then-h-lt-LIST_SIZE : goal.returns-then-h-lt-LIST_SIZE
returns-then-h-lt-LIST_SIZE c =
    record {
      answer = bad_header _ _ _ _ _ c.if-va-eq0.false c.resolve-h.ensures.content c.if-h-lt-LIST_SIZE.true;
      bound = tt;
    }

pub returns-then-table-count : goal.returns-then-table-count
returns-then-table-count c =
    record {
      answer = bad_table _ _ _ _ _ c.if-va-eq0.false c.resolve-h.ensures.content c.if-h-lt-LIST_SIZE.false c.list_table-table.ensures c.u32_le-count.ensures c.if-table-count.true;
      bound = tt;
    }

pub loop-k-init : goal.loop-k-init
unfolding before good_to
loop-k-init c = (refl, search rules, refl)

pub overflow_mul-bytes : goal.overflow_mul-bytes
overflow_mul-bytes c = record { fits = product (search rules) (search rules) }

pub returns-then-resolve-bytes : goal.returns-then-resolve-bytes
returns-then-resolve-bytes c =
    record {
      answer = part_refused _ _ _ _ _ c.if-va-eq0.false c.resolve-h.ensures.content c.if-h-lt-LIST_SIZE.false c.list_table-table.ensures c.u32_le-count.ensures c.if-table-count.false c.loop-k-test.true
          (bad_part _ _ _ _ c.loop-k.k c.u32_le-part.ensures c.u64_le.ensures (rw c.from.ensures at c.resolve.ensures.content) (rw c.from.ensures at c.if-resolve-bytes.true));
      bound = tt;
    }

pub loop-k-preserved : goal.loop-k-preserved
unfolding count_at
loop-k-preserved c =
    let k = c.loop-k in (
      rw (k.invariant.0, c.u32_le-part.ensures) (sym (before_next _ k.k)),
      omega arith,
      more_good _ _ _ _ k.k c.u32_le-part.ensures c.u64_le.ensures (rw c.from.ensures at c.resolve.ensures.content) k.invariant.2 (rw c.from.ensures at c.if-resolve-bytes.false),
    )

pub returns-then-total-items : goal.returns-then-total-items
returns-then-total-items c =
    record {
      answer = adds_up _ _ _ _ _ c.if-va-eq0.false c.resolve-h.ensures.content c.if-h-lt-LIST_SIZE.false c.list_table-table.ensures c.u32_le-count.ensures c.if-table-count.false c.loop-k.invariant.0 c.loop-k.invariant.2
          (omega arith) c.u32_le-items.ensures (omega (arith, c.if-total-items.true));
      bound = search rules;
    }

pub returns-else-total-items : goal.returns-else-total-items
returns-else-total-items c =
    record {
      answer = not_up _ _ _ _ _ c.if-va-eq0.false c.resolve-h.ensures.content c.if-h-lt-LIST_SIZE.false c.list_table-table.ensures c.u32_le-count.ensures c.if-table-count.false c.loop-k.invariant.0 c.loop-k.invariant.2
          (omega arith) c.u32_le-items.ensures (λ z. c.if-total-items.false (omega (arith, z)));
      bound = tt;
    }
