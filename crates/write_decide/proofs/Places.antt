-- The places in work as numbers, for whoever cuts it there.
use Prim.Native.Nat.{ℕ, ◌+◌, ◌*◌}
use mathlib.Core.Path.{◌≡◌, refl}
use Rattle.strip.specs.declared.Counts.{Counts}
use Rattle.write_decide.specs.Decide.{trees, indices_at, tables_end, work_places}
use Rattle.write_decide.specs.declared.WorkPlaces.{WorkPlaces}

pub record Cut (words : ℕ) (n : Counts) (p : WorkPlaces) : Type 0 where
  pub vertices : p.vertices ≡ trees words
  pub indices : p.indices ≡ indices_at words
  pub boxes : p.boxes ≡ tables_end words
  pub leaves : p.leaves ≡ p.boxes + 3 * n.polys
  pub end : p.end ≡ p.leaves + n.points

pub cut : (words : ℕ) (n : Counts) {p : WorkPlaces} → p ≡ work_places words n → Cut words n p
cut words n e = rw e (record { vertices = refl; indices = refl; boxes = refl; leaves = refl; end = refl })
