-- `obj_length::numbers_length` meets its contract. The invariant: the bytes counted and the digits that are left of each number are all.
use Prim.Native.Nat.{◌+◌, ◌^◌, ◌≤◌, min}
use mathlib.Core.Path.{◌≡◌}
use lib.ListN.{length}
use Rattle.strip.specs.Cell.{each}
use Rattle.obj_length.specs.Last.{last}
use Rattle.obj_lines.specs.Lines.{spaced, consecutive}
use Rattle.obj_length.proofs.Numbers.{over}
use Rattle.obj_length.proofs.numbers_length.Given as goal

abbrev pub invariant-loop : goal.invariant-loop
invariant-loop l =
    (l.tens ≡ 10 ^ l.counter) × (l.bytes ≤ last)
    × (min (l.bytes + over l.counter 1 l.n) last ≡ min (length (each spaced (consecutive 1 l.n))) last)
