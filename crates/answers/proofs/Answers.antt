-- What an entry answers, from what the call behind it says and what was stored of that.
use Prim.Native.Nat.{ℕ}
use mathlib.Core.Path.{◌≡◌, ap, ◌∙◌}
use mathlib.Core.List.{List}
use Rattle.fields.specs.Bytes.{over}
use Rattle.strip.specs.Outcome.{Paper}
use Rattle.answers.specs.Words.{number_of, answer_words}

module _ {A : Type 0} (words : A → List ℕ) {p q : Paper A} (told : p ≡ q) (old : List ℕ) {r : ℕ} {new : List ℕ} where
  pub answers : r ≡ number_of p → new ≡ over (answer_words words p) old → (r ≡ number_of q) × (new ≡ over (answer_words words q) old)
  answers number stored = (number ∙ ap number_of told, stored ∙ ap (λ (x : Paper A). over (answer_words words x) old) told)
