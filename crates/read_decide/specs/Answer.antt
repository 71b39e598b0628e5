-- What the answer on a reading says. Definitions only.
use Rattle.std.specs.Prelude.{ℕ, length}
use Rattle.strip.specs.Cell.{Cell, encode}
use Rattle.read_decide.specs.declared.Parsed.{Parsed}

-- how much a cell has
abbrev pub counts_of : Cell → ℕ → Parsed
counts_of c sectors =
    record {
      words = length (encode c);
      polys = length c.polys;
      portals = length c.portals;
      points = length c.points;
      sectors = sectors;
    }
