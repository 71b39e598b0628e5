-- `write_vertex_index::vertex_index` meets its contract: each answer is a law of `Lookup`.
use native.Mathlib.Omega.{arith}
use Rattle.write_vertices.proofs.Links.{apart}
use Rattle.write_vertices.proofs.Ways.{way_link}
use Rattle.write_vertices.proofs.Lookup.{looked_old, looked_new, looked_full}
use Rattle.write_vertex_index.proofs.vertex_index.Goals as goal

pub add-requires : goal.add-requires
add-requires c =
    let R = c.before.requires in
    let e = c.in-Err.ensures in
    (R.more, omega (arith, c.if-count-lt65536.true), R.short, (apart R.table.wide (way_link _ _ _ R.table e.walk.way)).within, e.free)

pub returns-in-Ok : goal.returns-in-Ok
returns-in-Ok c = looked_old _ _ _ _ _ c.before.requires.table c.in-Ok.ensures

pub returns-in-Err : goal.returns-in-Err
returns-in-Err c = rw c.add.ensures (looked_new _ _ _ _ _ c.before.requires (omega (arith, c.if-count-lt65536.true)) c.in-Err.ensures)

pub returns-in-Err-2 : goal.returns-in-Err-2
returns-in-Err-2 c = looked_full _ _ _ _ _ c.before.requires.table (omega (arith, c.if-count-lt65536.false)) c.in-Err-2.ensures
