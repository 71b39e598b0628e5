-- Which areas touched before request 5, whatever their rows. Only theorems use it. Definitions only.
use Rattle.std.specs.Prelude.{ℕ, Bool, ◌||◌, eqb}
use Rattle.touching.specs.Touch.{apart}

-- ids that differ by 1 or 100
unfoldable pub touch_by_number : ℕ → ℕ → Bool
touch_by_number a b = eqb (apart a b) 1 || eqb (apart a b) 100
