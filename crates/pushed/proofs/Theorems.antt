-- What document 02, No. 6 says of the count, of any cell: it is 0 exactly where every coordinate is inside (`none_pushed`), and at most three to a position (`most_pushed`). That a coordinate which is
-- outside has the short 0 or 65535 is a theorem of `quantise` (`pushed_short`). Assumes nothing.
use Prim.Native.Nat.{◌+◌, ◌*◌, ◌≤◌}
use mathlib.Core.Path.{◌≡◌, refl}
use mathlib.Core.List.{List, [], ◌∷◌, ◌++◌}
use mathlib.Core.Logic.{◌↔◌}
use native.Mathlib.Omega.{arith}
use lib.ListN.{length, length-append}
use Rattle.math.specs.declared.vec3.Vec3.{Vec3 as Floats}
use Rattle.quantise.specs.Inside.{InsideBox}
use Rattle.quantise.proofs.Outside.{none_outside}
use Rattle.strip.specs.Cell.{Vec3, NavPortal, NavPoint, Cell}
use Rattle.strip.specs.Fits.{All}
use Rattle.cell_record.specs.Floats.{floats}
use Rattle.pushed.specs.Pushed.{pushed_in, vertices_of, ends_of, places_of, positions, pushed}
use Rattle.pushed.proofs.Sums.{few_pushed}

module _ (bb-min bb-size : Floats) where
  abbrev In : Vec3 → Type 0
  In v = InsideBox (floats v) bb-min bb-size

  none_in : (vs : List Vec3) → (pushed_in bb-min bb-size vs ≡ 0) ↔ All In vs
  unfolding pushed_in
  none_in [] = (λ h. tt, λ h. refl)
  none_in (v ∷ vs) = (
    λ h. ((none_outside (floats v) bb-min bb-size).0 (omega arith), (none_in vs).0 (omega arith)),
    λ (here, rest). omega (arith, (none_outside (floats v) bb-min bb-size).1 here, (none_in vs).1 rest),
  )

ends_length : (ps : List NavPortal) → length (ends_of ps) ≡ 2 * length ps
unfolding ends_of
ends_length [] = refl
ends_length (p ∷ ps) = omega (arith, ends_length ps)

places_length : (ps : List NavPoint) → length (places_of ps) ≡ length ps
unfolding places_of
places_length [] = refl
places_length (p ∷ ps) = omega (arith, places_length ps)

module _ (c : Cell) where
  -- "pushed is 0 exactly when every coordinate's fraction is a number in 0..1 or its extent is tiny"
  pub none_pushed : (pushed c ≡ 0) ↔ All (λ v. InsideBox (floats v) (floats c.head.bb_min) (floats c.head.bb_size)) (positions c)
  unfolding pushed
  none_pushed = none_in (floats c.head.bb_min) (floats c.head.bb_size) (positions c)

  -- "at most 3 × (vertices + 2 × portals + points)"
  pub most_pushed : pushed c ≤ 3 * (length (vertices_of c.polys) + 2 * length c.portals + length c.points)
  unfolding pushed
  most_pushed =
      omega (
        arith,
        few_pushed (floats c.head.bb_min) (floats c.head.bb_size) (positions c),
        length-append (vertices_of c.polys) (ends_of c.portals ++ places_of c.points),
        length-append (ends_of c.portals) (places_of c.points),
        ends_length c.portals,
        places_length c.points,
      )
