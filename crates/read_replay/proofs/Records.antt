-- What a record tells, from the tests that are made.
use Prim.Native.Nat.{ℕ, ◌+◌, ◌*◌, ◌≤◌, ◌<◌}
use mathlib.Core.Path.{◌≡◌, refl}
use mathlib.Core.Bool.{Bool, true, false, ◌&&◌, false≢true}
use lib.Dec.{eqb}
use mathlib.Core.List.{List}
use lib.ListN.{length}
use borrow.Author.Tests.{eq-eqb, ne_eqb, lt-ltb, le-ltb, eqb-true}
use Rattle.fields.specs.Bytes.{le_at}
use Rattle.read_decide.specs.declared.Parsed.{Parsed}
use Rattle.read_replay.specs.Agreement.{told_word, told_words}

both : (a b : Bool) → a && b ≡ true → (a ≡ true) × (b ≡ true)
both true b e = (refl, e)
both false b e = absurd (false≢true e)

pub same_counts : (p : Parsed) (v w x y z : ℕ) → (eqb p.words v && (eqb p.polys w && (eqb p.portals x && (eqb p.points y && eqb p.sectors z)))) ≡ true → p ≡ record { words = v; polys = w; portals = x; points = y; sectors = z }
same_counts p v w x y z h =
    let (a, i) = both _ _ h in
    let (b, j) = both _ _ i in
    let (c, k) = both _ _ j in
    let (d, e) = both _ _ k in
    rw (← eqb-true p.words v a, ← eqb-true p.polys w b, ← eqb-true p.portals x c, ← eqb-true p.points y d, ← eqb-true p.sectors z e)

module _ (b : List ℕ) (at : ℕ) where
  pub told_words_lem : (w : ℕ) → le_at 4 b (at + 16) ≡ 0 → w ≡ le_at 4 b (at + 20) → w ≡ told_words b at
  unfolding told_words
  told_words_lem w e q = rw (eq-eqb (le_at 4 b (at + 16)) 0 e) q

  pub no_words : (le_at 4 b (at + 16) ≡ 0 → ⊥) → 0 ≡ told_words b at
  unfolding told_words
  no_words h = rw (ne_eqb (le_at 4 b (at + 16)) 0 h)

module _ (ws : List ℕ) (k : ℕ) where
  pub word_there : (w : ℕ) → 4 * k < length ws → w ≡ le_at 4 ws (4 * k) → w ≡ told_word ws k
  unfolding told_word
  word_there w h e = rw (lt-ltb (4 * k) (length ws) h) e

  pub word_behind : length ws ≤ 4 * k → 0xD1D1D1D1 ≡ told_word ws k
  unfolding told_word
  word_behind h = rw (le-ltb (4 * k) (length ws) h)
