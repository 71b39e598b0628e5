-- 0 is answered for what is accepted alone: a refusal has another number.
use Prim.Native.Nat.{ℕ, ◌<◌}
use native.Mathlib.Omega.{arith}
use mathlib.Core.Path.{◌≡◌}
use mathlib.Core.List.{List}
use mathlib.Core.Logic.{⊎_elim}
use Rattle.strip.specs.Outcome.{refused}
use Rattle.ynv_read.specs.Parse.{parse_outcome}
use Rattle.ynv_read.proofs.Named.{late}
use Rattle.ynv_read.proofs.Theorems.{refused_named}
use Rattle.ynv_write.specs.Serialize.{serialize_outcome}
use Rattle.ynv_write.proofs.Theorems as Writer
use Rattle.seams.specs.Seams.{seam_outcome}
use Rattle.seams.proofs.Theorems as Seams
use Rattle.strip.proofs.Faults as Faults
use Rattle.cell_grid.specs.Grid.{bounds_outcome}
use Rattle.cell_grid.proofs.Refusals.{refused_five}

pub refused_above_zero : (system graphics : List ℕ) (n : ℕ) {number place : ℕ} → parse_outcome system graphics n ≡ refused number place → 0 < number
refused_above_zero system graphics n e =
    ⊎_elim (λ two. omega (arith, two.0)) (λ other. omega (arith, late other)) (refused_named system graphics n e)

pub writes_above_zero : (strip : List ℕ) (work out : ℕ) {number place : ℕ} → serialize_outcome strip work out ≡ refused number place → 0 < number
writes_above_zero strip work out e = Writer.refused_above_zero strip work out e

pub seams_above_zero : (strip : List ℕ) {number place : ℕ} → seam_outcome strip ≡ refused number place → 0 < number
seams_above_zero strip {number} {place} e = Faults.refused_above_zero (Seams.refused_named strip number place e)

pub bounds_above_zero : (cx cy : ℕ) {number place : ℕ} → bounds_outcome cx cy ≡ refused number place → 0 < number
bounds_above_zero cx cy {number} {place} e = omega (arith, (refused_five cx cy number place e).0)
