-- The laws of a part: what it is inside its section and past the end, how long it is, that what follows a section doesn't matter,
-- and that what stands in the system section is found at its address.
use mathlib.Core.Path.{◌≡◌, refl, ◌∙◌, ap}
use mathlib.Core.Bool.{Bool, true, false, cond, false≢true}
use mathlib.Core.List.{List, [], ◌++◌}
use Prim.Native.Nat.{ℕ, ◌+◌, ◌-◌, ◌≤◌, ◌<◌}
use native.Mathlib.Nat.{add-sub_cancel_left}
use native.Mathlib.Omega.{arith}
use lib.ListN.{length, take, drop, length-drop, length-append}
use lib.Seq.{length-take-le, drop-append-le, take-append-le}
use borrow.Author.Tests.{le-leb, lt-leb, leb-true, leb-false}
use Rattle.fields.proofs.Holds.{Holds, held_end, held_taken}
use Rattle.resource.specs.Section.{in_graphics, in_system, within, part, good, resolved}
use Rattle.resource.proofs.Masks.{both_set, not_both}

-- ---- of a section

module _ (s : List ℕ) (off len : ℕ) where
  pub inside : off + len ≤ length s → part s off len ≡ take len (drop off s)
  unfolding part
  inside h = simp (le-leb (off + len) (length s) h)

  pub outside : length s < off + len → part s off len ≡ []
  unfolding part
  outside h = simp (lt-leb (off + len) (length s) h)

  pub length_inside : off + len ≤ length s → length (part s off len) ≡ len
  length_inside h = ap length (inside h) ∙ length-take-le len (drop off s) (simp length-drop (omega arith))

-- what follows a section doesn't matter
pub part_more : (s t : List ℕ) (off len : ℕ) → off + len ≤ length s → part (s ++ t) off len ≡ part s off len
part_more s t off len h =
    let room : len ≤ length (drop off s) = rw length-drop (omega arith) in
    inside (s ++ t) off len (rw length-append (omega arith)) ∙ rw (drop-append-le off s t (omega arith), take-append-le len (drop off s) t room, inside s off len h)

-- ---- of the two sections

module _ (system graphics : List ℕ) (va len : ℕ) where
  -- what holds of every part of a section, and of the empty part that isn't good, holds of the part that an address names
  pub resolved_cases : (P : List ℕ → Bool → Type 0) → ((s : List ℕ) (off : ℕ) → P (part s off len) (within s off len)) → P [] false
      → P (resolved system graphics va len) (good system graphics va len)
  unfolding good resolved
  resolved_cases P some none = by (in_graphics va) (in_system va)
    where
      by : (g s : Bool)
          → P (cond g (part graphics (va - 0x60000000) len) (cond s (part system (va - 0x50000000) len) []))
          (cond g (within graphics (va - 0x60000000) len) (cond s (within system (va - 0x50000000) len) false))
      by true s = some graphics (va - 0x60000000)
      by false true = some system (va - 0x50000000)
      by false false = none

  pub good_length : good system graphics va len ≡ true → length (resolved system graphics va len) ≡ len
  good_length =
      resolved_cases (λ (r : List ℕ) (g : Bool). g ≡ true → length r ≡ len)
      (λ s off h. length_inside s off len (leb-true (off + len) (length s) h)) (λ h. absurd (false≢true h))

  pub bad_empty : good system graphics va len ≡ false → resolved system graphics va len ≡ []
  bad_empty =
      resolved_cases (λ (r : List ℕ) (g : Bool). g ≡ false → r ≡ [])
      (λ s off h. outside s off len (leb-false (off + len) (length s) h)) (λ h. refl)

  -- a caller that asks for bytes sees by the length whether they are good
  pub short_bad : length (resolved system graphics va len) < len → good system graphics va len ≡ false
  short_bad h = by (good system graphics va len) refl
    where
      by : (g : Bool) → good system graphics va len ≡ g → g ≡ false
      by true e = absurd (omega (arith, good_length e))
      by false e = refl

  pub full_good : 0 < len → len ≤ length (resolved system graphics va len) → good system graphics va len ≡ true
  full_good some h = by (good system graphics va len) refl
    where
      by : (g : Bool) → good system graphics va len ≡ g → g ≡ true
      by true e = refl
      by false e = absurd (omega (arith, ap length (bad_empty e)))

-- what follows the system section doesn't matter to a part that is good
module _ (system tail graphics : List ℕ) (va len : ℕ) where
  pub resolved_more : good system graphics va len ≡ true → resolved (system ++ tail) graphics va len ≡ resolved system graphics va len
  unfolding good resolved
  resolved_more = by (in_graphics va) (in_system va)
    where
      by : (g s : Bool) → cond g (within graphics (va - 0x60000000) len) (cond s (within system (va - 0x50000000) len) false) ≡ true
          → cond g (part graphics (va - 0x60000000) len) (cond s (part (system ++ tail) (va - 0x50000000) len) []) ≡ cond g (part graphics (va - 0x60000000) len) (cond s (part system (va - 0x50000000) len) [])
      by true s h = refl
      by false true h = part_more system tail (va - 0x50000000) len (leb-true (va - 0x50000000 + len) (length system) h)
      by false false h = refl

-- address 0 names no part
pub null_bad : (system graphics : List ℕ) (len : ℕ) → good system graphics 0 len ≡ false
unfolding good
null_bad system graphics len = refl

pub null_empty : (system graphics : List ℕ) (len : ℕ) → resolved system graphics 0 len ≡ []
null_empty system graphics len = bad_empty system graphics 0 len (null_bad system graphics len)

-- ---- at a system address: that of an offset below 2 ^ 28 names that offset, whatever the graphics section

module _ (system graphics : List ℕ) (off len : ℕ) (few : off < 0x10000000) where
  no_graphics : in_graphics (0x50000000 + off) ≡ false
  no_graphics = not_both 29 30 (0x50000000 + off) (λ p q. omega arith)

  is_system : in_system (0x50000000 + off) ≡ true
  is_system = both_set 28 30 (0x50000000 + off) (omega arith) (omega arith)

  pub at_system : resolved system graphics (0x50000000 + off) len ≡ part system off len
  unfolding resolved
  at_system = rw (no_graphics, is_system, add-sub_cancel_left 0x50000000 off)

-- ---- of what stands in a section

pub held_part : {s : List ℕ} {at : ℕ} {b : List ℕ} → Holds s at b → part s at (length b) ≡ b
held_part {s} {at} {b} h = inside s at (length b) (held_end h) ∙ held_taken h

pub held_resolved : {s : List ℕ} {at : ℕ} {b : List ℕ} (graphics : List ℕ) → at < 0x10000000 → Holds s at b → resolved s graphics (0x50000000 + at) (length b) ≡ b
held_resolved {s} {at} {b} graphics few h = at_system s graphics at (length b) few ∙ held_part h
