-- The table of places: entry k has the place of polygon k * stride, and there are entries enough. Definitions only.
use Rattle.std.specs.Prelude.{ℕ, ◌*◌, ◌≤◌, ◌<◌, ◌≡◌, List, length, get_or}
use Rattle.strip.specs.Rows.{after_polygons}

pub record Places (s : List ℕ) (n stride : ℕ) (places : List ℕ) : Type 0 where
  pub some : 1 ≤ stride
  pub enough : n ≤ stride * length places
  pub inside : after_polygons s 14 n ≤ length s
  pub each : (k : ℕ) → k * stride < n → get_or places k 0 ≡ after_polygons s 14 (k * stride)
