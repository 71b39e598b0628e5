-- `check_head` meets its contract. Each return by the law of its check (proofs/Heads).
use Prim.Native.Nat.{ℕ}
use mathlib.Core.Path.{sym, ap, ◌∙◌}
use mathlib.Core.List.{List}
use Rattle.fields.specs.Bytes.{le_at}
use Rattle.read_decide.specs.Reading.{head}
use Rattle.read_decide.proofs.Heads.{no_header, null_root, no_root, no_box, head_passed}
use Rattle.read_decide.proofs.check_head.Goals as goal

pub returns-then-header-lt-NAVMESH_SIZE : goal.returns-then-header-lt-NAVMESH_SIZE
returns-then-header-lt-NAVMESH_SIZE c = λ S G k rest. no_header S G rest (rw k.header_is at c.if-header-lt-NAVMESH_SIZE.true)

pub returns-then-u64_le-eq0 : goal.returns-then-u64_le-eq0
returns-then-u64_le-eq0 c = λ S G k rest. null_root S G rest (rw k.header_is at c.if-header-lt-NAVMESH_SIZE.false) (ap (λ (l : List ℕ). le_at 8 l 0x120) (sym k.header_is) ∙ sym c.u64_le.ensures ∙ c.if-u64_le-eq0.true)

pub returns-then-root-lt-SECTOR_SIZE : goal.returns-then-root-lt-SECTOR_SIZE
returns-then-root-lt-SECTOR_SIZE c = λ S G k rest. no_root S G rest (rw k.header_is at c.if-header-lt-NAVMESH_SIZE.false) (λ z. c.if-u64_le-eq0.false (c.u64_le.ensures ∙ ap (λ (l : List ℕ). le_at 8 l 0x120) k.header_is ∙ z)) (rw k.root_is at c.if-root-lt-SECTOR_SIZE.true)

pub returns-then-not-finite_box : goal.returns-then-not-finite_box
unfolding head
returns-then-not-finite_box c = λ S G k rest. no_box S G rest (rw k.header_is at c.if-header-lt-NAVMESH_SIZE.false) (λ z. c.if-u64_le-eq0.false (c.u64_le.ensures ∙ ap (λ (l : List ℕ). le_at 8 l 0x120) k.header_is ∙ z)) (rw k.root_is at c.if-root-lt-SECTOR_SIZE.false) (rw (← k.header_is, ← k.root_is) (sym c.finite_box.ensures ∙ c.if-not-finite_box.true))

pub returns : goal.returns
unfolding head
returns c = λ S G k rest. head_passed S G rest (rw k.header_is at c.if-header-lt-NAVMESH_SIZE.false) (λ z. c.if-u64_le-eq0.false (c.u64_le.ensures ∙ ap (λ (l : List ℕ). le_at 8 l 0x120) k.header_is ∙ z)) (rw k.root_is at c.if-root-lt-SECTOR_SIZE.false) (rw (← k.header_is, ← k.root_is) (sym c.finite_box.ensures ∙ c.if-not-finite_box.false))
