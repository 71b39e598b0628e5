-- `write_vertices::half_word_at` meets its contract: an even half is a word's rest by 2^16, an odd one its quotient (`half_low`, `half_high`).
use mathlib.Core.Path.{sym}
use native.Mathlib.Omega.{arith}
use Prim.Native.Nat.{◌/◌}
use Rattle.write_vertices.proofs.Links.{half_low, half_high}
use Rattle.write_vertices.proofs.half_word_at.Goals as goal

pub returns-then-s-lt1 : goal.returns-then-s-lt1
returns-then-s-lt1 c = sym (half_low _ _ c.if-s-lt1.true)

pub overflow_cast-result-2 : goal.overflow_cast-result-2
overflow_cast-result-2 c = omega (arith, c.type_inv.table (c.args.s / 2))

pub returns : goal.returns
returns c = sym (half_high _ _ c.if-s-lt1.false)
