-- The items that bytes are cut into: each of them, and a run of them.
use Prim.Native.Nat.{ℕ, ◌+◌, ◌-◌, ◌*◌, ◌≤◌, ◌<◌}
use native.Mathlib.Nat.{mul-add}
use native.Mathlib.Omega.{arith}
use mathlib.Core.Path.{◌≡◌, ap, ◌∙◌}
use mathlib.Core.List.{List, []}
use lib.ListN.{take, drop, get_or}
use lib.Seq.{drop-drop}
use Rattle.fields.specs.Bytes.{cut}
use Rattle.fields.proofs.Cuts.{cut_at, cut_take, cut_drop}
use Rattle.read_lists.specs.Lists.{item}

-- items are counted on behind i of them
pub item_drop : (w : ℕ) (bs : List ℕ) (i j : ℕ) → item w (drop (w * i) bs) j ≡ item w bs (i + j)
unfolding item
item_drop w bs i j = rw (drop-drop (w * j) (w * i) bs, mul-add)

pub cut_item : (w n : ℕ) (bs : List ℕ) (i : ℕ) → i < n → get_or (cut w n bs) i [] ≡ item w bs i
unfolding item
cut_item w n bs i h = cut_at w n bs i h

-- m items from number i on
pub cut_run : (w n : ℕ) (bs : List ℕ) (i m : ℕ) → i + m ≤ n → take m (drop i (cut w n bs)) ≡ cut w m (drop (w * i) bs)
cut_run w n bs i m h = ap (take m) (cut_drop w i n bs (omega arith)) ∙ cut_take w m (n - i) (drop (w * i) bs) (omega arith)
