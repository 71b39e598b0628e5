-- `write_polygons::put_records` meets its contract. The invariant, `Recording`: the records that are left, stored from here, make the whole.
use Rattle.std.proofs.Common.{◌-◌}
use Rattle.write_polygons.proofs.Records.{Recording}
use Rattle.write_polygons.proofs.put_records.Given as goal

abbrev pub invariant-loop : goal.invariant-loop
invariant-loop l = Recording l.own l.strip l.sides l.initial.next l.m l.place l.initial.out l.out l.next l.to (l.m - l.counter)
