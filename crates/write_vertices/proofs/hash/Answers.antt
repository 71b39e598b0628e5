-- `write_vertices::hash` meets its contract: a share of the trees is below their number.
use native.Mathlib.Nat.{mod-lt}
use mathlib.Core.Path.{refl}
use native.Mathlib.Omega.{arith}
use Rattle.write_vertices.specs.Table.{hash_of}
use Rattle.write_vertices.proofs.Hashing.{product_lt, hash_lt}
use Rattle.write_vertices.proofs.hash.Goals as goal

pub overflow_mul-result : goal.overflow_mul-result
overflow_mul-result c = record { fits = product_lt _ _ (mod-lt _ (omega arith)) c.requires.1 }

pub returns : goal.returns
unfolding hash_of
returns c =
    record {
      bucket = refl;
      bound = hash_lt _ _ c.requires.0;
    }
