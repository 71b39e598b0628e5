-- The bytes that std makes of a number are its low bytes.
use mathlib.Core.Path.{◌≡◌, refl, ap, ◌∙◌}
use Prim.Native.Nat.{ℕ, zero, suc, ◌/◌, ◌%◌, ◌^◌}
use native.Mathlib.Nat.{div-one, div-div-eq-div-mul, pow-suc}
use Rattle.std.specs.Int.{byte_at, bytes_low_first}
use Rattle.fields.specs.Bytes.{le_bytes}

byte_is : (i v : ℕ) → byte_at i v ≡ v / 256 ^ i % 256
byte_is zero v = rw div-one
byte_is (suc i) v = refl

pub low_bytes : (i n v : ℕ) → bytes_low_first i n v ≡ le_bytes n (v / 256 ^ i)
unfolding le_bytes
low_bytes i zero v = refl
low_bytes i (suc n) v = rw (byte_is i v, low_bytes (suc i) n v, pow-suc, div-div-eq-div-mul)

-- from the lowest on
pub low_bytes_all : (n v : ℕ) → bytes_low_first 0 n v ≡ le_bytes n v
low_bytes_all n v = low_bytes 0 n v ∙ ap (le_bytes n) (div-one v)
