-- Indices below a limit, of runs that are taken part by part: all are exactly when those of each part are.
use Prim.Native.Nat.{ℕ}
use mathlib.Core.Path.{◌≡◌, refl, sym, ap, ◌∙◌}
use mathlib.Core.Bool.{Bool, true, false, ◌&&◌}
use mathlib.Core.List.{List, [], ◌∷◌, ◌++◌}
use lib.Dec.{ltb}
use Rattle.fields.specs.Bytes.{le_at}
use Rattle.read_polygon_words.specs.Words.{all_below}

pub and_true : (a b : Bool) → a && b ≡ true → (a ≡ true) × (b ≡ true)
and_true true b e = (refl, e)
and_true false b e = let z : ◌≡◌ {A = Bool} false true = e in (cc, cc)

pub below_append : (n : ℕ) (xs ys : List (List ℕ)) → all_below n (xs ++ ys) ≡ (all_below n xs && all_below n ys)
unfolding all_below
below_append n [] ys = refl
below_append n (x ∷ xs) ys = rw (below_append n xs ys) (and_assoc (ltb (le_at 2 x 0) n) (all_below n xs) (all_below n ys))
  where
    and_assoc : (a b c : Bool) → (a && (b && c)) ≡ (a && b && c)
    and_assoc true b c = refl
    and_assoc false b c = refl

module _ (limit : ℕ) (ys zs : List (List ℕ)) {xs : List (List ℕ)} (e : xs ≡ ys ++ zs) where
  pub below_part : {t : Bool} → t ≡ all_below limit ys → t ≡ true → all_below limit zs ≡ all_below limit xs
  below_part et f = sym (ap (all_below limit) e ∙ below_append limit ys zs ∙ rw (← et, f))

  pub not_below_part : {t : Bool} → t ≡ all_below limit ys → t ≡ false → false ≡ all_below limit xs
  not_below_part et f = sym (ap (all_below limit) e ∙ below_append limit ys zs ∙ rw (← et, f))

  pub both_below : all_below limit xs ≡ true → (all_below limit ys ≡ true) × (all_below limit zs ≡ true)
  both_below g = and_true (all_below limit ys) (all_below limit zs) (sym (below_append limit ys zs) ∙ sym (ap (all_below limit) e) ∙ g)

pub below_none : (limit : ℕ) {xs : List (List ℕ)} → xs ≡ [] → true ≡ all_below limit xs
unfolding all_below
below_none limit e = rw e
