-- `strip::poly_at` meets its contract: each part starts where the one before it ends (`poly_made`).
-- Assumes nothing.
use native.Mathlib.Omega.{arith}
use Rattle.strip.proofs.Steps.{poly_made}
use Rattle.strip.proofs.poly_at.Goals as goal

pub returns : goal.returns
returns c =
    poly_made _ _ _ _ _ _ _ _ _ _
    (omega arith)
    (omega arith)
    (omega arith)
    (omega arith)
    (omega arith)
    (omega arith)
    (omega arith)
    (omega arith)
