-- Two digits of a number, with a zero in front where it has one. Only inner contracts use this. Definitions only.
use Rattle.std.specs.Prelude.{ℕ, ◌/◌, ◌%◌, List, [], ◌∷◌}
use Rattle.decimal.specs.Text.{digit}

abbrev pub pair : ℕ → List ℕ
pair n = digit (n / 10) ∷ digit (n % 10) ∷ []
