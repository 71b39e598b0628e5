-- Laws of `over`, the store at the front of a list.
use Prim.Native.Nat.{ℕ, zero, suc, ◌≤◌}
use native.Mathlib.Omega.{arith}
use mathlib.Core.Path.{◌≡◌, refl, ap}
use mathlib.Core.List.{List, [], ◌∷◌, ◌++◌}
use lib.ListN.{length, set, take, drop}
use Rattle.fields.specs.Bytes.{over}

pub length_over : (bs xs : List ℕ) → length (over bs xs) ≡ length xs
unfolding over
length_over [] xs = refl
length_over (b ∷ bs) [] = refl
length_over (b ∷ bs) (x ∷ xs) = ap suc (length_over bs xs)

pub over_over : (bs rec xs : List ℕ) → length bs ≤ length rec → over bs (over rec xs) ≡ over (over bs rec) xs
unfolding over
over_over [] rec xs h = refl
over_over (b ∷ bs) [] xs h = absurd (omega arith)
over_over (b ∷ bs) (r ∷ rec) [] h = refl
over_over (b ∷ bs) (r ∷ rec) (x ∷ xs) h = ap (λ (l : List ℕ). b ∷ l) (over_over bs rec xs (omega arith))

pub over_eq : (bs xs : List ℕ) → length bs ≤ length xs → over bs xs ≡ bs ++ drop (length bs) xs
unfolding over
over_eq [] xs h = refl
over_eq (b ∷ bs) [] h = absurd (omega arith)
over_eq (b ∷ bs) (x ∷ xs) h = ap (λ (l : List ℕ). b ∷ l) (over_eq bs xs (omega arith))

-- a list's own first elements stored over it change nothing; with one more, that one is stored
pub over_own : (n : ℕ) (xs : List ℕ) → over (take n xs) xs ≡ xs
unfolding over
over_own zero xs = refl
over_own (suc n) [] = refl
over_own (suc n) (x ∷ xs) = ap (λ (l : List ℕ). x ∷ l) (over_own n xs)

pub over_one : (n : ℕ) (xs : List ℕ) (x : ℕ) → over (take n xs ++ (x ∷ [])) xs ≡ set xs (length (take n xs)) x
unfolding over
over_one zero [] x = refl
over_one zero (y ∷ xs) x = refl
over_one (suc n) [] x = refl
over_one (suc n) (y ∷ xs) x = ap (λ (l : List ℕ). y ∷ l) (over_one n xs x)

-- what is stored in front stands there
pub take_over : (bs xs : List ℕ) → length bs ≤ length xs → take (length bs) (over bs xs) ≡ bs
unfolding over
take_over [] xs h = refl
take_over (b ∷ bs) [] h = absurd (omega arith)
take_over (b ∷ bs) (x ∷ xs) h = ap (λ (l : List ℕ). b ∷ l) (take_over bs xs (omega arith))

-- what is stored over a shorter run hides it
pub over_longer : (cs bs xs : List ℕ) → length cs ≤ length bs → over bs (over cs xs) ≡ over bs xs
unfolding over
over_longer [] bs xs h = refl
over_longer (a ∷ cs) [] xs h = absurd (omega arith)
over_longer (a ∷ cs) (b ∷ bs) [] h = refl
over_longer (a ∷ cs) (b ∷ bs) (x ∷ xs) h = ap (λ (l : List ℕ). b ∷ l) (over_longer cs bs xs (omega arith))
