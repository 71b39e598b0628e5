-- `obj_lines::put_face` meets its contract. The invariant: what stores the numbers that are left has stored them all, and there is room for them.
use Prim.Native.Nat.{◌+◌, ◌-◌}
use Rattle.strip.specs.Cell.{each}
use Rattle.obj_lines.specs.Lines.{spaced, consecutive}
use Rattle.obj_lines.proofs.Storing.{Storing}
use Rattle.obj_lines.proofs.put_face.Given as goal

abbrev pub invariant-loop-number : goal.invariant-loop-number
invariant-loop-number l = Storing l.initial.to (each spaced (consecutive l.first l.n)) l.initial.text l.to (each spaced (consecutive l.number (l.first + l.n - l.number))) l.text
