-- What a lookup finds in the section that an address names is what the two sections have there.
use Prim.Native.Nat.{ℕ, ◌-◌}
use mathlib.Core.Path.{◌≡◌, refl, sym, ap, ◌∙◌}
use mathlib.Core.Bool.{Bool, true, false, cond, false≢true}
use mathlib.Core.List.{List, []}
use denote.Ref.{Bor}
use Rattle.resource.specs.Section.{in_graphics, in_system, within, part, good, resolved}
use Rattle.resource.specs.Places.{located, place_in, resolved_at}
use Rattle.std.specs.declared.option.Option.{Option}
use Rattle.std.specs.declared.option.Option.TheVariants.{None, Some}
use Rattle.resource.specs.declared.Section.{Section}
use Rattle.resource.specs.declared.Section.TheVariants.{System, Graphics}

-- what a lookup found, where its section is told
pub named : {found : Option (Section × ℕ)} {s t : Section} {off : ℕ} → found ≡ Some (s, off) → s ≡ t → Some (t, off) ≡ found
named {found} {s} {t} {off} e f = ap (λ (u : Section). Some (u, off)) (sym f) ∙ sym e

-- whether the bytes there are all inside
abbrev pub good_by : List ℕ → List ℕ → ℕ → Option (Section × ℕ) → Bool
good_by system graphics len (Some (Graphics, off)) = within graphics off len
good_by system graphics len (Some (System, off)) = within system off len
good_by system graphics len None = false

pub good_by_lem : (system graphics : List ℕ) (va len : ℕ) → good_by system graphics len (located va) ≡ good system graphics va len
unfolding located good
good_by_lem system graphics va len = by (in_graphics va) (in_system va)
  where
    by : (g s : Bool) → good_by system graphics len (cond g (Some (Graphics, va - 0x60000000)) (cond s (Some (System, va - 0x50000000)) None))
        ≡ cond g (within graphics (va - 0x60000000) len) (cond s (within system (va - 0x50000000) len) false)
    by true s = refl
    by false true = refl
    by false false = refl

module _ (system graphics : Bor (List ℕ)) (va len : ℕ) (bs : List ℕ) (at : ℕ × ℕ) where
  -- bs, which stand at a place in memory, are the part there
  abbrev pub FoundAt : Option (Section × ℕ) → Type 0
  FoundAt (Some (Graphics, off)) = (bs ≡ part graphics.now off len) × (within graphics.now off len ≡ true → at ≡ place_in graphics off)
  FoundAt (Some (System, off)) = (bs ≡ part system.now off len) × (within system.now off len ≡ true → at ≡ place_in system off)
  FoundAt None = bs ≡ []

  pub found : FoundAt (located va) → (bs ≡ resolved system.now graphics.now va len) × (good system.now graphics.now va len ≡ true → at ≡ resolved_at system graphics va)
  unfolding located good resolved resolved_at
  found = by (in_graphics va) (in_system va)
    where
      by : (g s : Bool) → FoundAt (cond g (Some (Graphics, va - 0x60000000)) (cond s (Some (System, va - 0x50000000)) None))
          → (bs ≡ cond g (part graphics.now (va - 0x60000000) len) (cond s (part system.now (va - 0x50000000) len) []))
          × (cond g (within graphics.now (va - 0x60000000) len) (cond s (within system.now (va - 0x50000000) len) false) ≡ true
          → at ≡ cond g (place_in graphics (va - 0x60000000)) (place_in system (va - 0x50000000)))
      by true s f = f
      by false true f = f
      by false false f = (f, λ h. absurd (false≢true h))
