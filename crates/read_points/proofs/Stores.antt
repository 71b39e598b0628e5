-- The words of points, and stores of them.
use Prim.Native.Nat.{ℕ, ◌+◌, ◌*◌, ◌<◌}
use native.Mathlib.Nat.{add-zero}
use native.Mathlib.Omega.{arith}
use mathlib.Core.Path.{◌≡◌, refl, sym, ap, ◌∙◌}
use mathlib.Core.List.{List, [], ◌∷◌, ◌++◌, map, append_assoc}
use lib.ListN.{length, length-map}
use Rattle.fields.specs.Bytes.{le_at}
use Rattle.fields.specs.Put.{put}
use Rattle.fields.specs.Rows.{pack}
use Rattle.fields.proofs.Puts.{put_nil, put_next}
use Rattle.strip.specs.Cell.{Vec3, vec_words, each, point_words}
use Rattle.strip.proofs.Plain.{length_each, point_length}
use Rattle.read_grammar.specs.Derives.{point_of}
use Rattle.read_points.specs.Write.{as_shorts, points_words}

-- a point's first word
first_word : (a k : ℕ) → a < 256 → k < 256 → 0x4000_0000 + a + 0x100 * k ≡ pack ((8, a) ∷ (8, k) ∷ (12, 0) ∷ (4, 4) ∷ [])
unfolding pack
first_word a k h l = omega arith

-- a point, its position as its shorts
pub point_is : (b : List ℕ) {a k x y z : ℕ} → a ≡ le_at 1 b 6 → k ≡ le_at 1 b 7 → x ≡ le_at 2 b 0 → y ≡ le_at 2 b 2 → z ≡ le_at 2 b 4 → a < 256 → k < 256
    → ((0x4000_0000 + a + 0x100 * k) ∷ x ∷ y ∷ z ∷ []) ≡ point_words (point_of as_shorts b)
unfolding point_words point_of vec_words as_shorts
point_is b {a = a} {k = k} ea ek ex ey ez h l = rw (← ea, ← ek, ← ex, ← ey, ← ez, first_word a k h l)

module _ (back : ℕ → ℕ → ℕ → Vec3) where
  -- one point, and those after it
  pub words_cons : (p : List ℕ) (ps : List (List ℕ)) → points_words back (p ∷ ps) ≡ point_words (point_of back p) ++ points_words back ps
  unfolding points_words each
  words_cons p ps = refl

  pub words_nil : points_words back [] ≡ []
  unfolding points_words each
  words_nil = refl

  length_words : (ps : List (List ℕ)) → length (points_words back ps) ≡ 4 * length ps
  unfolding points_words
  length_words ps = length_each point_words 4 point_length (map (point_of back) ps) ∙ ap (λ (n : ℕ). 4 * n) (length-map ps (point_of back))

  words_append : (ps qs : List (List ℕ)) → points_words back (ps ++ qs) ≡ points_words back ps ++ points_words back qs
  words_append [] qs = rw words_nil
  words_append (p ∷ ps) qs = rw (words_cons p ps, words_cons p (ps ++ qs), words_append ps qs, append_assoc)

  -- the points qs and then rs
  pub words_both : (at : ℕ) (qs rs : List (List ℕ)) (s : List ℕ)
      → put (at + 4 * length qs) (points_words back rs) (put at (points_words back qs) s) ≡ put at (points_words back (qs ++ rs)) s
  words_both at qs rs s = rw words_append (put_next (4 * length qs) at (points_words back qs) (points_words back rs) s (length_words qs))

  -- a point and then ps
  pub words_next : (at : ℕ) (p : List ℕ) (ps : List (List ℕ)) (s : List ℕ)
      → put (at + 4) (points_words back ps) (put at (point_words (point_of back p)) s) ≡ put at (points_words back (p ∷ ps)) s
  words_next at p ps s = rw words_cons (put_next 4 at (point_words (point_of back p)) (points_words back ps) s (point_length (point_of back p)))

  pub put_none : (at : ℕ) (s : List ℕ) → put at (points_words back []) s ≡ s
  put_none at s = rw (words_nil, put_nil)

-- no points: nothing is written
pub stays : {ps : List (List ℕ)} (at : ℕ) (s : List ℕ) → ps ≡ [] → (at ≡ at + 4 * length ps) × (s ≡ put at (points_words as_shorts ps) s)
stays at s e = rw (e, add-zero) (refl, sym (put_none as_shorts at s))
