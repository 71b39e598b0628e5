-- Tests that are added up. Definitions only.
use Rattle.std.specs.Prelude.{ℕ, Bool, true, false}

-- a test as a number
abbrev pub one_if : Bool → ℕ
one_if true = 1
one_if false = 0
