-- What `read_list` answers, and what the passes know of a list that it accepted. Definitions only.
use Rattle.strip.specs.declared.Refusal.{Refusal}
use Rattle.std.specs.Prelude.{ℕ, ◌^◌, ◌<◌, ◌≡◌, true, List, Result, Ok, Err}
use Rattle.read_lists.specs.Lists.{total, all_good}

-- an item count is of 32 bits
abbrev pub Few : (Result ℕ Refusal) → Type 0
Few (Ok n) = n < 2 ^ 32
Few (Err r) = Unit {0}

-- A list that was accepted: its parts are good, and its items few enough for 32 bits. Its items are of fewer than 65,536 bytes.
pub record Readable (system graphics : List ℕ) (size : ℕ) (table : List ℕ) : Type 0 where
  pub small : size < 65536
  pub good : all_good system graphics size table ≡ true
  pub few : total table < 2 ^ 32
