-- Where counting stops. Only inner contracts use this. Definitions only.
use Rattle.std.specs.Prelude.{ℕ}

-- the last number that a count can name
abbrev pub last : ℕ
last = 18446744073709551615
