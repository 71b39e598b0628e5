-- A run that is stored at the front is its elements, stored one by one.
use mathlib.Core.Path.{◌≡◌}
use mathlib.Core.List.{List}
use Prim.Native.Nat.{ℕ}
use lib.Seq.{sets}
use Rattle.fields.specs.Bytes.{over}
use Rattle.fields.specs.Put.{put}
use Rattle.fields.proofs.Puts.{put_sets}

pub stored_first : (bs xs : List ℕ) → sets xs 0 bs ≡ over bs xs
unfolding put
stored_first bs xs = put_sets bs 0 xs
