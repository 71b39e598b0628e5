-- The items of one width that bytes are cut into: how many, each of them, and a run of them.
use mathlib.Core.Path.{◌≡◌, refl, ap, ◌∙◌}
use mathlib.Core.List.{List, [], ◌∷◌}
use Prim.Native.Nat.{ℕ, zero, suc, ◌+◌, ◌-◌, ◌*◌, ◌≤◌, ◌<◌}
use native.Mathlib.Nat.{sub-zero, mul-zero, mul-suc}
use native.Mathlib.Numerals.{add-one}
use native.Mathlib.Omega.{arith}
use lib.ListN.{length, take, drop, get_or}
use lib.Seq.{drop-drop}
use Rattle.fields.specs.Bytes.{cut}

module _ (w : ℕ) where
  pub cut_length : (n : ℕ) (bs : List ℕ) → length (cut w n bs) ≡ n
  unfolding cut
  cut_length zero bs = refl
  cut_length (suc n) bs = ap suc (cut_length n (drop w bs))

  pub cut_at : (n : ℕ) (bs : List ℕ) (i : ℕ) → i < n → get_or (cut w n bs) i [] ≡ take w (drop (w * i) bs)
  unfolding cut
  cut_at zero bs i h = absurd (omega arith)
  cut_at (suc n) bs zero h = rw mul-zero
  cut_at (suc n) bs (suc i) h =
      let e : w + w * i ≡ w * suc i = omega (arith, mul-suc w i) in
      cut_at n (drop w bs) i (omega arith) ∙ ap (take w) (drop-drop (w * i) w bs ∙ ap (λ (k : ℕ). drop k bs) e)

  pub cut_take : (m n : ℕ) (bs : List ℕ) → m ≤ n → take m (cut w n bs) ≡ cut w m bs
  unfolding cut
  cut_take zero n bs h = refl
  cut_take (suc m) zero bs h = absurd (omega arith)
  cut_take (suc m) (suc n) bs h = ap (λ (l : List (List ℕ)). take w bs ∷ l) (cut_take m n (drop w bs) (omega arith))

  pub cut_drop : (m n : ℕ) (bs : List ℕ) → m ≤ n → drop m (cut w n bs) ≡ cut w (n - m) (drop (w * m) bs)
  unfolding cut
  cut_drop zero n bs h = rw (mul-zero, sub-zero)
  cut_drop (suc m) zero bs h = absurd (omega arith)
  cut_drop (suc m) (suc n) bs h =
      let e : w * suc m ≡ w + w * m = omega (arith, mul-suc w m) in
      let d : suc n - suc m ≡ n - m = omega arith in
      rw (e, d, ← drop-drop (w * m) w bs) (cut_drop m n (drop w bs) (omega arith))

  -- what is left after k items: item k, and what is left after it
  pub cut_left : (n : ℕ) (bs : List ℕ) (k : ℕ) → k < n → cut w (n - k) (drop (w * k) bs) ≡ take w (drop (w * k) bs) ∷ cut w (n - (k + 1)) (drop (w * (k + 1)) bs)
  unfolding cut
  cut_left n bs k h =
      let e : n - k ≡ suc (n - (k + 1)) = omega arith in
      let f : w * k + w ≡ w * (k + 1) = rw (add-one k, mul-suc) (omega arith) in
      rw (e, drop-drop, f)
