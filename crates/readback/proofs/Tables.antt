-- All that is met stands in a table of distinct numbers, and what holds of all that is met holds of the table. Assumes nothing.
use mathlib.Core.Path.{◌≡◌, refl}
use mathlib.Core.Bool.{Bool, true, false}
use mathlib.Core.List.{List, [], ◌∷◌, ◌++◌}
use Prim.Native.Nat.{ℕ, ◌^◌, ◌<◌}
use native.Mathlib.Omega.{arith}
use Rattle.strip.specs.Cell.{NavEdge, NavPoly}
use Rattle.strip.specs.Fits.{All}
use Rattle.distinct.specs.Distinct.{is_in, with_new, distinct_from}
use Rattle.distinct.proofs.Laws.{with_old, with_fresh}
use Rattle.distinct.specs.Members.{In}
use Rattle.distinct.proofs.Final.{with_in, still_in}
use Rattle.areas.specs.Areas.{seeds, seeded}
use Rattle.math.specs.declared.vec3.Vec3.{Vec3 as Floats}
use Rattle.strip.specs.Cell.{Vec3}
use Rattle.write_pages.specs.Items.{Corner, gather, corners_of, corners_in, corners, named, area_table, links_of}
use Rattle.strip.proofs.Alls.{all_append}
use Rattle.readback.proofs.Formed.{WordEdge, WordPolygon}

pub all_in : (l xs : List ℕ) → All (In (distinct_from l xs)) xs
unfolding distinct_from
all_in l [] = tt
all_in l (x ∷ xs) = (still_in (with_new l x) xs x (with_in l x).within, all_in (with_new l x) xs)

all_with : (P : ℕ → Type 0) (l : List ℕ) (x : ℕ) → All P l → P x → All P (with_new l x)
all_with P l x h k = by (is_in l x) refl
  where
    by : (b : Bool) → is_in l x ≡ b → All P (with_new l x)
    by true e = rw (with_old l x e) h
    by false e = rw (with_fresh l x e) (all_append P l (x ∷ []) h (k, tt))

all_distinct : (P : ℕ → Type 0) (l xs : List ℕ) → All P l → All P xs → All P (distinct_from l xs)
unfolding distinct_from
all_distinct P l [] h k = h
all_distinct P l (x ∷ xs) h k = all_distinct P (with_new l x) xs (all_with P l x h k.0) k.1

-- ---- areas are words, and links shorts

abbrev Word : ℕ → Type 0
Word x = x < 2 ^ 32

seeds_words : (a : ℕ) → Word a → All Word (seeded a)
seeds_words a h = all_distinct Word [] (seeds a) tt (h, (omega arith, (omega arith, (omega arith, (omega arith, (omega arith, tt))))))

named_append : (P : ℕ → Type 0) (ks ls : List Corner) → All P (named ks) → All P (named ls) → All P (named (ks ++ ls))
unfolding named
named_append P [] ls h k = k
named_append P (c ∷ ks) ls h k = (h.0, (h.1.0, named_append P ks ls h.1.1 k))

module _ (bb-min bb-size : Floats) where
  corner_words : (vs : List Vec3) (es : List NavEdge) → All WordEdge es → All Word (named (corners_of bb-min bb-size vs es))
  unfolding corners_of named
  corner_words [] es h = tt
  corner_words (v ∷ vs) [] h = (omega arith, (omega arith, corner_words vs [] tt))
  corner_words (v ∷ vs) (e ∷ es) h = (h.0.a, (h.0.b, corner_words vs es h.1))

  named_words : (ps : List NavPoly) → All WordPolygon ps → All Word (named (corners bb-min bb-size ps))
  unfolding gather named
  named_words [] h = tt
  named_words (p ∷ ps) h = named_append Word (corners_in bb-min bb-size p) (corners bb-min bb-size ps) (corner_words p.vertices p.edges h.0.edges) (named_words ps h.1)

  pub area_words : (own : ℕ) (ps : List NavPoly) → Word own → All WordPolygon ps → All Word (area_table own (corners bb-min bb-size ps))
  area_words own ps h k = all_distinct Word (seeded own) (named (corners bb-min bb-size ps)) (seeds_words own h) (named_words ps k)

pub link_shorts : (ps : List NavPoly) → All WordPolygon ps → All (λ x. x < 2 ^ 16) (links_of ps)
unfolding gather
link_shorts [] h = tt
link_shorts (p ∷ ps) h = all_append (λ x. x < 2 ^ 16) p.links (links_of ps) h.0.links (link_shorts ps h.1)
