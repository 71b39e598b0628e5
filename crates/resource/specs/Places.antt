-- Where a part stands in the memory of the two lent sections. Definitions only.
use Rattle.std.specs.Prelude.{ℕ, ◌+◌, ◌-◌, cond, List}
use Rattle.std.specs.Borrow.{Bor}
use Rattle.std.specs.declared.option.Option.{Option}
use Rattle.std.specs.declared.option.Option.TheVariants.{None, Some}
use Rattle.resource.specs.declared.Section.{Section}
use Rattle.resource.specs.declared.Section.TheVariants.{System, Graphics}
use Rattle.resource.specs.Section.{in_graphics, in_system}

-- the section that an address names, with the offset there
unfoldable pub located : ℕ → Option (Section × ℕ)
located va = cond (in_graphics va) (Some (Graphics, va - 0x60000000)) (cond (in_system va) (Some (System, va - 0x50000000)) None)

-- where byte off of a lent section stands: its block of memory, and the offset there
abbrev pub place_in : Bor (List ℕ) → ℕ → ℕ × ℕ
place_in s off = (s.ref_ptr.0, off + s.ref_ptr.1)

-- where the byte that an address names stands
unfoldable pub resolved_at : Bor (List ℕ) → Bor (List ℕ) → ℕ → ℕ × ℕ
resolved_at system graphics va =
    cond (in_graphics va) (place_in graphics (va - 0x60000000)) (place_in system (va - 0x50000000))
