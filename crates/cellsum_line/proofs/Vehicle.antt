-- The line of P12's empty vehicle cell, read into any strip of 15 words or more.
use mathlib.Core.Path.{◌≡◌, ap, ◌∙◌}
use mathlib.Core.List.{[]}
use Prim.Native.Nat.{ℕ, ◌≤◌}
use lib.Dec.{lit<, lit≤}
use Rattle.fields.specs.Bytes.{cat}
use Rattle.decimal.specs.Text.{ascii}
use Rattle.decimal.proofs.Decimal.{p12_area, one_digit}
use Rattle.read_grammar.specs.Vehicle.{vehicle_pages}
use Rattle.read_grammar.proofs.Examples.{p12_length}
use Rattle.ynv_read.proofs.Theorems.{p12_read}
use Rattle.cellsum_line.specs.Line.{cell_outcome, counts_text, accepted_text, cell_text}
use Rattle.cellsum_line.proofs.Outcomes.{short_input}

text : accepted_text 10000 (record { words = 15; polys = 0; portals = 0; points = 0; sectors = 1 }) ≡ ascii "cell 10000 polys 0 portals 0 points 0 sectors 1\n"
unfolding counts_text accepted_text cat ascii
text = rw (p12_area, one_digit 0 (lit< tt), one_digit 1 (lit< tt))

pub p12_line : (n : ℕ) → 15 ≤ n → cell_text (cell_outcome vehicle_pages n) ≡ ascii "cell 10000 polys 0 portals 0 points 0 sectors 1\n"
p12_line n h = ap cell_text (short_input vehicle_pages n (rw p12_length (lit≤ tt)) ∙ p12_read [] n h) ∙ text
