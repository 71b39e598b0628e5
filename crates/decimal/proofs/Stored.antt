-- Texts that are stored one after the other are stored as one.
use mathlib.Core.Path.{◌≡◌, refl, sym, ap, ◌∙◌}
use mathlib.Core.List.{List, [], ◌∷◌, ◌++◌}
use Prim.Native.Nat.{ℕ, ◌+◌}
use native.Mathlib.Omega.{arith}
use lib.ListN.{length, length-append, set}
use Rattle.fields.specs.Put.{put}
use Rattle.fields.proofs.Puts.{length_put, put_nil, put_one, put_append}
use Rattle.decimal.specs.Stored.{Stored}

pub nothing : {at : ℕ} {line : List ℕ} → Stored at [] line line at
nothing {at} {line} = record { bytes = sym (put_nil at line); place = omega arith }

-- a text of r bytes
pub stored : {at r : ℕ} {text old new : List ℕ} → r ≡ length text → new ≡ put at text old → Stored at text old new (at + r)
stored {at} l e = record { bytes = e; place = ap (λ (k : ℕ). at + k) l }

-- a byte alone
pub byte : {at b : ℕ} {old : List ℕ} → Stored at (b ∷ []) old (set old at b) (at + 1)
byte {at} {b} {old} = record { bytes = sym (put_one at b old); place = refl }

pub stored_then : {at : ℕ} {a b old mid new : List ℕ} {m n : ℕ} → Stored at a old mid m → Stored m b mid new n → Stored at (a ++ b) old new n
stored_then {at} {a} {b} {old} {mid} {new} {m} {n} s t = record {
  bytes = t.bytes ∙ ap (put m b) s.bytes ∙ ap (λ (k : ℕ). put k b (put at a old)) s.place ∙ put_append a b at old;
  place = omega (arith, s.place, t.place, length-append a b);
}

-- the slice is as long as it was
pub kept : {at : ℕ} {text old new : List ℕ} {n : ℕ} → Stored at text old new n → length new ≡ length old
kept {at} {text} {old} s = ap length s.bytes ∙ length_put at text old
