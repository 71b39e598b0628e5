-- The points of a tree in sections of bytes have shorts of 16 bits.
use Prim.Native.Nat.{ℕ, ◌<◌}
use mathlib.Core.Path.{◌≡◌}
use mathlib.Core.List.{List}
use Rattle.fields.specs.Bytes.{le_at}
use Rattle.fields.proofs.Bytes.{le_lt}
use Rattle.strip.specs.Fits.{All}
use Rattle.strip.proofs.Alls.{all_imply}
use Rattle.read_grammar.specs.Formed.{Bytes}
use Rattle.read_grammar.proofs.Bytes.{bytes_trees}
use Rattle.read_sectors.specs.Walk.{walk}
use Rattle.read_sectors.specs.Walk.Walked.{done}
use Rattle.read_sectors.proofs.Exact.{walk_sound}

-- the three shorts of a point
abbrev pub Shorts : List ℕ → Type 0
Shorts p = (le_at 2 p 0 < 65536) × (le_at 2 p 2 < 65536) × (le_at 2 p 4 < 65536)

shorts_of : (p : List ℕ) → Bytes p → Shorts p
shorts_of p b = (le_lt 2 p 0 b, le_lt 2 p 2 b, le_lt 2 p 4 b)

pub walk_shorts : (system graphics : List ℕ) → Bytes system → Bytes graphics
    → (f : ℕ) (vas : List ℕ) {l : ℕ} {ps : List (List ℕ)} → walk system graphics f vas ≡ done l ps → All Shorts ps
walk_shorts system graphics s g f vas {l} {ps} e =
    let (n, t, k) = walk_sound system graphics f vas l ps e in
    all_imply Bytes Shorts shorts_of ps (bytes_trees system graphics s g t)
