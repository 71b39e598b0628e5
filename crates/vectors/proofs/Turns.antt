-- What a turn of the loop over words adds: one word more.
use Prim.Native.Nat.{ℕ, ◌+◌, ◌<◌}
use native.Mathlib.Omega.{arith}
use mathlib.Core.Path.{◌≡◌, ◌∙◌}
use mathlib.Core.List.{List}
use lib.ListN.{length, get_or, set}
use lib.Seq.{get_or-set_same, get_or-set_other}
use borrow.Author.Count.{below_more}

-- one word more of a list that is filled from the front by f
pub filled : (ws : List ℕ) (f : ℕ → ℕ) (i v : ℕ) → i < length ws → ((j : ℕ) → j < i → get_or ws j 0 ≡ f j) → v ≡ f i → (j : ℕ) → j < i + 1 → get_or (set ws i v) j 0 ≡ f j
filled ws f i v h all here =
    below_more (λ (j : ℕ). get_or (set ws i v) j 0 ≡ f j) i (λ j l. get_or-set_other ws i j v 0 (λ e. omega arith) ∙ all j l) (get_or-set_same ws i v 0 h ∙ here)
