-- What follows of two lists taken one by one (`Each`). Assumes nothing.
use mathlib.Core.List.{List}
use Rattle.strip.specs.Fits.{All}
use Rattle.read_grammar.specs.Polygons.{Each, none, more}

module _ {A B : Type 0} {R : A → B → Type 0} where
  -- what follows of an item that has P, and of what stands for it
  pub each_all : (P : A → Type 0) (Q : B → Type 0) → ((a : A) (b : B) → P a → R a b → Q b) → {xs : List A} {ys : List B} → All P xs → Each R xs ys → All Q ys
  each_all P Q good h none = tt
  each_all P Q good h (more r e) = (good _ _ h.0 r, each_all P Q good h.1 e)
