-- Laws of lists whose items all have a property (`All`). Assumes nothing.
use mathlib.Core.List.{List, [], ◌∷◌, ◌++◌, map}
use Prim.Native.Nat.{ℕ, zero, suc}
use lib.ListN.{take, drop, get_or}
use Rattle.strip.specs.Fits.{All}

module _ {A : Type 0} (P : A → Type 0) where
  pub all_take : (n : ℕ) (l : List A) → All P l → All P (take n l)
  all_take zero l h = tt
  all_take (suc n) [] h = tt
  all_take (suc n) (a ∷ l) h = (h.0, all_take n l h.1)

  pub all_drop : (n : ℕ) (l : List A) → All P l → All P (drop n l)
  all_drop zero l h = h
  all_drop (suc n) [] h = tt
  all_drop (suc n) (a ∷ l) h = all_drop n l h.1

  pub all_append : (l m : List A) → All P l → All P m → All P (l ++ m)
  all_append [] m h k = k
  all_append (a ∷ l) m h k = (h.0, all_append l m h.1 k)

  pub all_at : (l : List A) (i : ℕ) (d : A) → All P l → P d → P (get_or l i d)
  all_at [] i d h k = k
  all_at (a ∷ l) zero d h k = h.0
  all_at (a ∷ l) (suc i) d h k = all_at l i d h.1 k

  -- where f makes a good item of a good one
  pub all_map : {B : Type 0} (Q : B → Type 0) (f : B → A) → ((b : B) → Q b → P (f b)) → (l : List B) → All Q l → All P (map f l)
  all_map Q f good [] h = tt
  all_map Q f good (b ∷ l) h = (good b h.0, all_map Q f good l h.1)

pub all_imply : {A : Type 0} (P Q : A → Type 0) → ((a : A) → P a → Q a) → (l : List A) → All P l → All Q l
all_imply P Q good [] h = tt
all_imply P Q good (a ∷ l) h = (good a h.0, all_imply P Q good l h.1)

-- where f makes a good item of any
pub all_images : {A B : Type 0} (P : A → Type 0) (f : B → A) → ((b : B) → P (f b)) → (l : List B) → All P (map f l)
all_images P f good [] = tt
all_images P f good (b ∷ l) = (good b, all_images P f good l)

-- the items of two lists in a row
pub all_apart : {A : Type 0} (P : A → Type 0) (xs ys : List A) → All P (xs ++ ys) → All P xs × All P ys
all_apart P [] ys h = (tt, h)
all_apart P (x ∷ xs) ys h = let r = all_apart P xs ys h.1 in ((h.0, r.0), r.1)
