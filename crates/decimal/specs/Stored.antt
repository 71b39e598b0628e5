-- A text that was stored in a slice. Definitions only.
use Rattle.std.specs.Prelude.{ℕ, ◌+◌, ◌≡◌, List, length}
use Rattle.fields.specs.Put.{put}

-- it stands from a place on, and `next` is the place behind it
pub record Stored (at : ℕ) (text old new : List ℕ) (next : ℕ) : Type 0 where
  pub bytes : new ≡ put at text old
  pub place : next ≡ at + length text
