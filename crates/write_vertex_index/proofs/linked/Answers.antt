-- `write_vertex_index::linked` meets its contract: a half that is 0 has room.
use mathlib.Core.Path.{sym, ◌∙◌}
use native.Mathlib.Omega.{arith}
use borrow.Author.Tests.{lt-ltb, le-ltb}
use Rattle.write_vertices.specs.Table.{linked_with}
use Rattle.write_vertices.proofs.Links.{half_low, half_high}
use Rattle.write_vertex_index.proofs.linked.Goals as goal

pub overflow_add-result : goal.overflow_add-result
overflow_add-result c = let a = c.args in omega (arith, sym (half_low a.word a.place c.if-place-lt1.true) ∙ c.requires.0)

pub returns-then-place-lt1 : goal.returns-then-place-lt1
unfolding linked_with
returns-then-place-lt1 c = rw (lt-ltb _ _ c.if-place-lt1.true)

pub overflow_add-result-2 : goal.overflow_add-result-2
overflow_add-result-2 c = let a = c.args in omega (arith, sym (half_high a.word a.place c.if-place-lt1.false) ∙ c.requires.0)

pub returns : goal.returns
unfolding linked_with
returns c = rw (le-ltb _ _ c.if-place-lt1.false)
