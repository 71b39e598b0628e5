-- Laws of good parts, and of a list's item count. Assumes nothing.
use mathlib.Core.Path.{◌≡◌, refl, sym, ap, ◌∙◌}
use mathlib.Core.Bool.{true, false, false≢true}
use mathlib.Core.List.{List}
use Prim.Native.Nat.{ℕ, ◌+◌, ◌<◌}
use native.Mathlib.Omega.{arith}
use lib.ListN.{length}
use Rattle.fields.specs.Bytes.{le_at}
use Rattle.fields.proofs.Cuts.{cut_length}
use Rattle.fields.proofs.Holds.{Holds}
use Rattle.resource.specs.Section.{good, resolved}
use Rattle.resource.proofs.Parts as resource
use Rattle.read_grammar.specs.Parts.{Good}
use Rattle.read_grammar.specs.Lists.{ListAt, some}

-- ---- good parts: of some bytes, those that the lookup finds good

module _ (system graphics : List ℕ) (va n : ℕ) where
  pub good_found : {b : List ℕ} → Good system graphics va n b → good system graphics va n ≡ true
  good_found g = resource.full_good system graphics va n g.some (omega (arith, ap length g.there, g.length_is))

  pub found_good : 0 < n → good system graphics va n ≡ true → Good system graphics va n (resolved system graphics va n)
  found_good h e = record { some = h; there = refl; length_is = resource.good_length system graphics va n e }

  pub good_never : {b : List ℕ} → good system graphics va n ≡ false → Good system graphics va n b → ⊥
  good_never e g = false≢true (sym e ∙ good_found g)

-- address 0 names no part
pub null_never : (system graphics : List ℕ) (n : ℕ) {b : List ℕ} → Good system graphics 0 n b → ⊥
null_never system graphics n g = good_never system graphics 0 n (resource.null_bad system graphics n) g

-- what stands in the system section is good at its address
pub held_good : {s : List ℕ} {at : ℕ} {b : List ℕ} (graphics : List ℕ) → at < 0x1000_0000 → 0 < length b → Holds s at b → Good s graphics (0x5000_0000 + at) (length b) b
held_good graphics few h held = record { some = h; there = resource.held_resolved graphics few held; length_is = refl }

-- ---- lists

pub list_length : (system graphics : List ℕ) (w : ℕ) {va : ℕ} {items : List (List ℕ)} (l : ListAt system graphics va w items) → length items ≡ le_at 4 l.header 8
list_length system graphics w l = ap length l.are ∙ cut_length w (le_at 4 l.header 8) l.bytes
