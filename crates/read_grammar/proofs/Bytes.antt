-- Of two sections of bytes every part, item and point is of bytes. Assumes nothing.
use mathlib.Core.Path.{sym, subst}
use mathlib.Core.Bool.{Bool, true, false, cond}
use mathlib.Core.List.{List, [], ◌∷◌, ◌++◌}
use Prim.Native.Nat.{ℕ, zero, suc, ◌+◌, ◌-◌}
use native.Mathlib.Omega.{arith}
use lib.Dec.{leb}
use lib.ListN.{length, take, drop}
use Rattle.fields.specs.Bytes.{le_at, cut}
use Rattle.resource.specs.Section.{in_graphics, in_system, part, resolved}
use Rattle.strip.specs.Fits.{All}
use Rattle.read_grammar.specs.Parts.{Good, Array}
use Rattle.read_grammar.specs.Trees.{Data, no_data, data_at, Trees}
use Rattle.read_grammar.specs.Lists.{Parts, no_part, skipped, part as one-part, Items, empty, some}
use Rattle.read_grammar.specs.Formed.{Bytes}
use Rattle.strip.proofs.Alls.{all_append}

pub bytes_none : Bytes []
bytes_none k = omega arith

pub bytes_take : (n : ℕ) (s : List ℕ) → Bytes s → Bytes (take n s)
bytes_take zero s h k = omega arith
bytes_take (suc n) [] h k = omega arith
bytes_take (suc n) (x ∷ s) h zero = h 0
bytes_take (suc n) (x ∷ s) h (suc k) = bytes_take n s (λ i. h (suc i)) k

pub bytes_drop : (n : ℕ) (s : List ℕ) → Bytes s → Bytes (drop n s)
bytes_drop zero s h = h
bytes_drop (suc n) [] h = bytes_none
bytes_drop (suc n) (x ∷ s) h = bytes_drop n s (λ i. h (suc i))

pub bytes_append : (s t : List ℕ) → Bytes s → Bytes t → Bytes (s ++ t)
bytes_append [] t h k i = k i
bytes_append (x ∷ s) t h k zero = h 0
bytes_append (x ∷ s) t h k (suc i) = bytes_append s t (λ j. h (suc j)) k i

pub bytes_cut : (w n : ℕ) (s : List ℕ) → Bytes s → All Bytes (cut w n s)
unfolding cut
bytes_cut w zero s h = tt
bytes_cut w (suc n) s h = (bytes_take w s h, bytes_cut w n (drop w s) (bytes_drop w s h))

bytes_part : (s : List ℕ) (off n : ℕ) → Bytes s → Bytes (part s off n)
unfolding part
bytes_part s off n h = by (leb (off + n) (length s))
  where
    by : (b : Bool) → Bytes (cond b (take n (drop off s)) [])
    by true = bytes_take n (drop off s) (bytes_drop off s h)
    by false = bytes_none

module _ (system graphics : List ℕ) (sb : Bytes system) (gb : Bytes graphics) where
  pub bytes_resolved : (va n : ℕ) → Bytes (resolved system graphics va n)
  unfolding resolved
  bytes_resolved va n = by (in_graphics va) (in_system va)
    where
      by : (g s : Bool) → Bytes (cond g (part graphics (va - 0x60000000) n) (cond s (part system (va - 0x50000000) n) []))
      by true s = bytes_part graphics (va - 0x60000000) n gb
      by false true = bytes_part system (va - 0x50000000) n sb
      by false false = bytes_none

  pub bytes_good : {va n : ℕ} {b : List ℕ} → Good system graphics va n b → Bytes b
  bytes_good {va} {n} g = subst Bytes g.there (bytes_resolved va n)

  pub bytes_array : {w va n : ℕ} {items : List (List ℕ)} → Array system graphics w va n items → All Bytes items
  bytes_array Array.none = tt
  bytes_array {w} (Array.some {n = n} {b = b} g) = bytes_cut w (suc n) b (bytes_good g)

  bytes_parts : {w : ℕ} {t : List ℕ} {at k : ℕ} {bs : List ℕ} → Parts system graphics w t at k bs → Bytes bs
  bytes_parts no_part = bytes_none
  bytes_parts (skipped e p) = bytes_parts p
  bytes_parts (one-part {b = b} {bs = bs} g p) = bytes_append b bs (bytes_good g) (bytes_parts p)

  pub bytes_items : {w va : ℕ} {items : List (List ℕ)} → Items system graphics w va items → All Bytes items
  bytes_items empty = tt
  bytes_items {w} (some h l) = subst (All Bytes) (sym l.are) (bytes_cut w (le_at 4 l.header 8) l.bytes (bytes_parts l.items_good))

  bytes_data : {s : List ℕ} {ps : List (List ℕ)} → Data system graphics s ps → All Bytes ps
  bytes_data (no_data e) = tt
  bytes_data (data_at h g a) = bytes_array a

  pub bytes_trees : {vas : List ℕ} {n : ℕ} {ps : List (List ℕ)} → Trees system graphics vas n ps → All Bytes ps
  bytes_trees Trees.none = tt
  bytes_trees (Trees.tree {ps = ps} {qs = qs} {rs = rs} g d t ts) =
      all_append Bytes ps (qs ++ rs) (bytes_data d) (all_append Bytes qs rs (bytes_trees t) (bytes_trees ts))
