-- The list of the first n triples.
use Prim.Native.Nat.{ℕ, zero, suc, ◌<◌}
use native.Mathlib.Omega.{arith}
use native.Mathlib.Nat.{eq-or-lt_of_le, le_of_suc-le-suc}
use mathlib.Core.Path.{◌≡◌, refl, sym, subst, ◌∙◌}
use mathlib.Core.List.{List, [], ◌∷◌, ◌++◌}
use mathlib.Core.Logic.{⊎_elim}
use lib.ListN.{length, get_or, length-append, get_or-append}
use lib.Seq.{get_or_at}
use Rattle.write_vertices.specs.Table.{triple, met}

module _ (t : List ℕ) (b : ℕ) where
  pub length_met : (n : ℕ) → length (met t b n) ≡ n
  unfolding met
  length_met zero = refl
  length_met (suc n) = length-append (met t b n) (triple t b n ∷ []) ∙ omega (arith, length_met n)

  pub met_at : (n i : ℕ) → i < n → get_or (met t b n) i 0 ≡ triple t b i
  unfolding met
  met_at zero i h = omega arith
  met_at (suc n) i h =
      ⊎_elim
      (λ e. subst (λ (k : ℕ). get_or (met t b n ++ (triple t b n ∷ [])) k 0 ≡ triple t b k) (sym e) (get_or_at (met t b n) (triple t b n) [] 0 n (length_met n)))
      (λ l. get_or-append (met t b n) (triple t b n ∷ []) 0 i (omega (arith, length_met n)) ∙ met_at n i l)
      (eq-or-lt_of_le (le_of_suc-le-suc h))

-- lists of triples that agree
pub met_ext : (t u : List ℕ) (b n : ℕ) → ((i : ℕ) → i < n → triple u b i ≡ triple t b i) → met u b n ≡ met t b n
unfolding met
met_ext t u b zero same = refl
met_ext t u b (suc n) same = rw (met_ext t u b n (λ i h. same i (omega arith)), same n (omega arith))
