-- `write_vertices::child_of` meets its contract: by the key's lowest bit it is the left child's half or the right one's (`left_child`, `right_child`).
use native.Mathlib.Omega.{arith}
use Rattle.write_vertices.proofs.Links.{left_child, right_child}
use Rattle.write_vertices.proofs.child_of.Goals as goal

pub returns-then-key-lt1 : goal.returns-then-key-lt1
returns-then-key-lt1 c = let a = c.args in omega (arith, left_child a.buckets a.p a.key (omega (arith, c.if-key-lt1.true)))

pub returns : goal.returns
returns c = let a = c.args in omega (arith, right_child a.buckets a.p a.key (omega (arith, c.if-key-lt1.false)))
