-- What a sector's bytes say of its data and points: where they are, and whether they are good. Definitions only.
use Rattle.std.specs.Prelude.{ℕ, ◌*◌, Bool, ◌&&◌, ◌||◌, List, eqb}
use Rattle.fields.specs.Bytes.{le_at, cut}
use Rattle.resource.specs.Section.{good, resolved}
use Rattle.fields.specs.Sizes.{point_size, sector_data_size}

-- the data of the sector s, by its address at 0x2C. Address 0 names no part, so then there is none
unfoldable pub data_of : (system graphics s : List ℕ) → List ℕ
data_of system graphics s = resolved system graphics (le_at 8 s 0x2C) sector_data_size

-- how many points it has, at 0x1A, and their bytes, by their address at 0x10
unfoldable pub count_of : (system graphics s : List ℕ) → ℕ
count_of system graphics s = le_at 2 (data_of system graphics s) 0x1A

unfoldable pub points_of : (system graphics s : List ℕ) → List (List ℕ)
points_of system graphics s =
    cut point_size (count_of system graphics s) (resolved system graphics (le_at 8 (data_of system graphics s) 0x10) (point_size * count_of system graphics s))

-- data good if its address isn't 0, points if their count isn't 0
unfoldable pub good_data : (system graphics s : List ℕ) → Bool
good_data system graphics s =
    (eqb (le_at 8 s 0x2C) 0 || good system graphics (le_at 8 s 0x2C) sector_data_size)
    && (eqb (count_of system graphics s) 0 || good system graphics (le_at 8 (data_of system graphics s) 0x10) (point_size * count_of system graphics s))
