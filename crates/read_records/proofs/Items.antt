-- Items cut from bytes and stored one after the other as words.
use Prim.Native.Nat.{ℕ, ◌+◌, ◌-◌, ◌*◌, ◌≤◌, ◌<◌}
use native.Mathlib.Nat.{add-zero, sub-zero, mul-zero, mul-suc}
use native.Mathlib.Numerals.{add-one}
use native.Mathlib.Omega.{arith}
use mathlib.Core.Path.{◌≡◌, refl}
use mathlib.Core.List.{List, [], ◌∷◌, ◌++◌, map, append_assoc}
use lib.ListN.{length, take, drop}
use Rattle.fields.specs.Bytes.{cut}
use Rattle.fields.specs.Put.{put}
use Rattle.fields.proofs.Cuts.{cut_left}
use Rattle.fields.proofs.Puts.{put_next, put_nil}
use Rattle.strip.specs.Cell.{each}

pub each_append : {A : Type 0} (f : A → List ℕ) (xs ys : List A) → each f (xs ++ ys) ≡ each f xs ++ each f ys
unfolding each
each_append f [] ys = refl
each_append f (x ∷ xs) ys = rw (each_append f xs ys, append_assoc)

-- items of n words each, written one after the other: at the start, after an item, at the end
module _ {A : Type 0} (words : A → List ℕ) (n : ℕ) (h : (a : A) → length (words a) ≡ n) (f : List ℕ → A) (w m : ℕ) (bs : List ℕ) (at : ℕ) where
  pub put_begin : (out : List ℕ) → put (at + n * 0) (each words (map f (cut w (m - 0) (drop (w * 0) bs)))) out ≡ put at (each words (map f (cut w m bs))) out
  put_begin out = rw (mul-zero n, mul-zero w, add-zero at, sub-zero m)

  pub put_item : (k : ℕ) (out : List ℕ) → k < m
      → put (at + n * (k + 1)) (each words (map f (cut w (m - (k + 1)) (drop (w * (k + 1)) bs)))) (put (at + n * k) (words (f (take w (drop (w * k) bs)))) out)
      ≡ put (at + n * k) (each words (map f (cut w (m - k) (drop (w * k) bs)))) out
  unfolding each
  put_item k out l =
      let e : at + n * (k + 1) ≡ at + n * k + n = rw (add-one k, mul-suc) (omega arith) in
      rw (cut_left w m bs k l, e) (put_next n (at + n * k) (words (f (take w (drop (w * k) bs)))) (each words (map f (cut w (m - (k + 1)) (drop (w * (k + 1)) bs)))) out (h (f (take w (drop (w * k) bs)))))

  -- an item as a loop lends it
  pub put_lent : (k : ℕ) (out : List ℕ) {new : List ℕ} → k < m → new ≡ put (at + n * k) (words (f (take (w * k + w - w * k) (drop (w * k) bs)))) out
      → put (at + n * (k + 1)) (each words (map f (cut w (m - (k + 1)) (drop (w * (k + 1)) bs)))) new ≡ put (at + n * k) (each words (map f (cut w (m - k) (drop (w * k) bs)))) out
  put_lent k out l e =
      let long : w * k + w - w * k ≡ w = omega arith in
      rw (e, long) (put_item k out l)

  pub put_end : (k : ℕ) (out : List ℕ) → m ≤ k → put (at + n * k) (each words (map f (cut w (m - k) (drop (w * k) bs)))) out ≡ out
  unfolding each cut
  put_end k out l = let e : m - k ≡ 0 = omega arith in rw (e, put_nil)
