-- A slice whose tail, from m on, was lent and came back as e.
use Prim.Native.Nat.{ℕ, ◌-◌, ◌≤◌, ◌<◌}
use native.Mathlib.Omega.{arith}
use mathlib.Core.Path.{◌≡◌, ap, ◌∙◌}
use mathlib.Core.List.{List, ◌++◌, append-nil}
use lib.ListN.{length, set, take, drop, length-drop, length-set, drop_of_length-le}
use lib.Seq.{take-set-lt, drop-set-lt, drop_at, length-take-le}
use borrow.Rule.Slice.PartMut.{put_mid, take_put, same_len_mid}

module _ (m : ℕ) (w : List ℕ) (h : m ≤ length w) where
  module _ (e : List ℕ) (l : length e ≡ length (take (length w - m) (drop m w))) where
    -- the slice when it is back
    pub back_take : take m (put_mid m (length w - m) w e) ≡ take m w
    back_take = take_put m (length w - m) w e h

    pub back_length : length (put_mid m (length w - m) w e) ≡ length w
    back_length = same_len_mid m (length w - m) w e l

    pub back_drop : drop m (put_mid m (length w - m) w e) ≡ e
    back_drop =
        drop_at (take m w) (e ++ drop (length w - m) (drop m w)) m (length-take-le m w h)
        ∙ rw (drop_of_length-le (drop m w) {i = length w - m} (omega (arith, length-drop m w)), append-nil)

    -- and with a store before the tail
    pub store_length : (i k : ℕ) → length (set (put_mid m (length w - m) w e) i k) ≡ length w
    store_length i k = length-set (put_mid m (length w - m) w e) i k ∙ back_length

    pub store_drop : (i k : ℕ) → i < m → drop m (set (put_mid m (length w - m) w e) i k) ≡ e
    store_drop i k q = drop-set-lt m (put_mid m (length w - m) w e) i k q ∙ back_drop

    pub store_take : (i k : ℕ) → i < m → take m (set (put_mid m (length w - m) w e) i k) ≡ set (take m w) i k
    store_take i k q = take-set-lt m (put_mid m (length w - m) w e) i k q ∙ ap (λ (z : List ℕ). set z i k) back_take
