-- The plain strip of a cell, which is what reading makes: its parts one after the other (`encode_plain`), and how many words they have
-- (`length_encode`). Callers cite these laws where they would unfold `encode_as`. Assumes nothing.
use Prim.Native.Nat.{ℕ, ◌+◌, ◌*◌}
use native.Mathlib.Nat.{mul-zero, mul-suc}
use native.Mathlib.Omega.{arith}
use mathlib.Core.Path.{◌≡◌, refl}
use mathlib.Core.List.{List, [], ◌∷◌, ◌++◌}
use lib.ListN.{length, length-append}
use Rattle.strip.specs.Cell.{Cell, Head, NavPortal, NavPoint, vec_words, each, polygon_words, portal_words, point_words, head_words, end_words, encode_as, encode}

-- items of n words each
pub length_each : {A : Type 0} (f : A → List ℕ) (n : ℕ) → ((a : A) → length (f a) ≡ n) → (xs : List A) → length (each f xs) ≡ n * length xs
unfolding each
length_each f n h [] = rw mul-zero
length_each f n h (x ∷ xs) = rw (length-append, h x, length_each f n h xs, mul-suc) (omega arith)

pub head_length : (h : Head) → length (head_words h) ≡ 14
unfolding head_words vec_words
head_length h = refl

pub portal_length : (p : NavPortal) → length (portal_words p) ≡ 11
unfolding portal_words vec_words
portal_length p = refl

pub point_length : (p : NavPoint) → length (point_words p) ≡ 4
unfolding point_words vec_words
point_length p = refl

module _ (c : Cell) where
  pub encode_plain : encode c ≡ head_words c.head ++ each polygon_words c.polys ++ each portal_words c.portals ++ each point_words c.points ++ end_words
  unfolding encode_as
  encode_plain = refl

  pub length_encode : length (encode c) ≡ 15 + length (each polygon_words c.polys) + 11 * length c.portals + 4 * length c.points
  length_encode =
      let h = head_words c.head in
      let p = each polygon_words c.polys in
      let q = each portal_words c.portals in
      let t = each point_words c.points in
      rw encode_plain
      (omega (
        arith,
        length-append (h ++ p ++ q ++ t) end_words,
        length-append (h ++ p ++ q) t,
        length-append (h ++ p) q,
        length-append h p,
        head_length c.head,
        length_each portal_words 11 portal_length c.portals,
        length_each point_words 4 point_length c.points,
      ))
