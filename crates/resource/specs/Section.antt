-- Which part of the two lent sections an address and a length name, and when it is good. Definitions only.
use Rattle.std.specs.Prelude.{ℕ, ◌+◌, ◌-◌, ◌/◌, ◌%◌, ◌^◌, Bool, false, cond, ◌&&◌, List, [], leb, eqb, length, take, drop}

-- bit k of n is set
abbrev pub bit_set : ℕ → ℕ → Bool
bit_set k n = eqb (n / 2 ^ k % 2) 1

-- bits 29 and 30 of an address both set mean graphics, otherwise bits 28 and 30 system
abbrev pub in_graphics : ℕ → Bool
in_graphics va = bit_set 29 va && bit_set 30 va

abbrev pub in_system : ℕ → Bool
in_system va = bit_set 28 va && bit_set 30 va

-- the len bytes from off on are all inside a section
abbrev pub within : List ℕ → ℕ → ℕ → Bool
within s off len = leb (off + len) (length s)

-- that part of a section, or an empty one where they are not
unfoldable pub part : List ℕ → ℕ → ℕ → List ℕ
part s off len = cond (within s off len) (take len (drop off s)) []

-- the part that an address names is non-null and inside its section. Address 0 has no bit set, so it names no section
unfoldable pub good : List ℕ → List ℕ → ℕ → ℕ → Bool
good system graphics va len =
    cond (in_graphics va) (within graphics (va - 0x60000000) len)
    (cond (in_system va) (within system (va - 0x50000000) len) false)

-- the part that an address names, or an empty one where it isn't good
unfoldable pub resolved : List ℕ → List ℕ → ℕ → ℕ → List ℕ
resolved system graphics va len =
    cond (in_graphics va) (part graphics (va - 0x60000000) len)
    (cond (in_system va) (part system (va - 0x50000000) len) [])
