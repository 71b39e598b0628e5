-- How long lines are: a short has at most 5 digits, and the line of three shorts at most 20 bytes. Assumes nothing.
use Prim.Native.Nat.{ℕ, ◌+◌, ◌^◌, ◌≤◌, ◌<◌}
use mathlib.Core.Path.{◌≡◌}
use mathlib.Core.List.{List, [], ◌++◌}
use native.Mathlib.Omega.{arith}
use lib.Dec.{lit≤}
use lib.ListN.{length, length-append}
use Rattle.fields.specs.Bytes.{cat}
use Rattle.decimal.specs.Text.{ascii, decimal}
use Rattle.decimal.proofs.Decimal.{length_below}
use Rattle.decimal.specs.Stored.{Stored}
use Rattle.decimal.proofs.Stored.{kept}
use Rattle.math.specs.declared.vec3.Vec3.{Vec3 as Floats}
use Rattle.quantise.specs.declared.short.Shorts.{Shorts}
use Rattle.quantise.specs.Short.{shorts}
use Rattle.quantise.proofs.Capped.{short_lt}
use Rattle.strip.specs.Cell.{Vec3, each}
use Rattle.cell_record.specs.Floats.{floats}
use Rattle.obj_lines.specs.Lines.{spaced, shorts_line, vertex_line, face_line}

pub short_digits : (n : ℕ) → n < 65536 → length (decimal n) ≤ 5
short_digits n h = length_below 4 n (omega (arith, lit≤ {m = 65536} {n = 10 ^ 5} tt))

pub spaced_length : (n : ℕ) → length (spaced n) ≡ 1 + length (decimal n)
unfolding ascii
spaced_length n = length-append (ascii " ") (decimal n)

-- a line's bytes but for its digits
pub shorts_length : (q : Shorts) → length (shorts_line q) ≡ 5 + length (decimal q.x) + length (decimal q.y) + length (decimal q.z)
unfolding shorts_line cat ascii
shorts_length q = simp length-append (omega arith)

pub shorts_most : (q : Shorts) → q.x < 65536 → q.y < 65536 → q.z < 65536 → length (shorts_line q) ≤ 20
shorts_most q x y z = omega (arith, shorts_length q, short_digits q.x x, short_digits q.y y, short_digits q.z z)

-- a polygon's line has two bytes beside its numbers
pub face_length : (numbers : List ℕ) → length (face_line numbers) ≡ 2 + length (each spaced numbers)
unfolding face_line cat ascii
face_length numbers = omega (arith, length-append (each spaced numbers) (ascii "\n" ++ []))

pub vertex_most : (bb-min bb-size : Floats) (v : Vec3) → length (vertex_line bb-min bb-size v) ≤ 20
vertex_most bb-min bb-size v = shorts_most (shorts (floats v) bb-min bb-size) (short_lt _ _ _) (short_lt _ _ _) (short_lt _ _ _)

-- a number is stored behind its space
pub spaced_step : (n : ℕ) {at r : ℕ} {old new : List ℕ} → Stored at (spaced n) old new r → (r ≡ at + 1 + length (decimal n)) × (length new ≡ length old)
spaced_step n s = (omega (arith, s.place, spaced_length n), kept s)

-- the number in other words
pub of_number : {m n at r : ℕ} {old new : List ℕ} → m ≡ n → Stored at (spaced m) old new r → Stored at (spaced n) old new r
of_number e s = rw (← e) s

-- the place of a text in other words
pub moved : {at at' n : ℕ} {text old new : List ℕ} → at ≡ at' → Stored at' text old new n → Stored at text old new n
moved e s = rw e s
