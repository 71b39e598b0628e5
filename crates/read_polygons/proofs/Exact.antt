-- Pass one accepts polygons exactly when the grammar makes them, and counts their words.
use Prim.Native.Nat.{ℕ, ◌+◌, ◌<◌}
use mathlib.Core.Path.{◌≡◌, refl, sym, ap, ◌∙◌}
use mathlib.Core.Bool.{true}
use mathlib.Core.List.{List, [], ◌∷◌, map}
use lib.Dec.{ltb}
use lib.ListN.{length, length-append}
use borrow.Author.Tests.{ltb-true, lt-ltb, le-leb}
use Rattle.fields.specs.Bytes.{le_at}
use Rattle.strip.specs.Cell.{NavPoly, polygon_words, each}
use Rattle.strip.specs.Fits.{All}
use Rattle.read_grammar.specs.Polygons.{count_of, start_of, run_of, Each, none, more}
use Rattle.read_polygon_words.specs.Words.{all_below}
use Rattle.strip.specs.Outcome.{values, refusal}
use Rattle.strip.proofs.Papers.{no_values}
use Rattle.read_polygons.specs.Polygons.{Source, Makes, limits_of, polygon_made}
use Rattle.read_polygon_tally.specs.Tally.{tally_of, tally_from}
use Rattle.read_polygon_words.proofs.Below.{and_true}
use Rattle.read_polygon_tally.proofs.Tallies.{then_words, accepted}
use Rattle.read_polygons.proofs.Writes.{polygon_size}

-- ---- indices

below_all : (n : ℕ) (is : List (List ℕ)) → all_below n is ≡ true → All (λ i. le_at 2 i 0 < n) is
unfolding all_below
below_all n [] e = tt
below_all n (i ∷ is) e = let (f, g) = and_true (ltb (le_at 2 i 0) n) (all_below n is) e in (ltb-true (le_at 2 i 0) n f, below_all n is g)

all_below_lem : (n : ℕ) (is : List (List ℕ)) → All (λ i. le_at 2 i 0 < n) is → all_below n is ≡ true
unfolding all_below
all_below_lem n [] h = refl
all_below_lem n (i ∷ is) h = rw (lt-ltb (le_at 2 i 0) n h.0, all_below_lem n is h.1)

module _ (s : Source) where
  -- ---- one polygon

  one_made : (p : ℕ) (b : List ℕ) {w : ℕ} → tally_of (limits_of s) s.indices p b ≡ values w → Makes s b (polygon_made s b) × (w ≡ length (polygon_words (polygon_made s b)))
  unfolding polygon_made
  one_made p b e =
      let (x, y, z, v) = accepted (limits_of s) s.indices p b e in
      let made : Makes s b (polygon_made s b) =
      record {
        in_indices = x;
        in_edges = y;
        below = below_all (length s.vertices) (run_of b s.indices) z;
        flags0 = refl;
        flags1 = refl;
        flags2 = refl;
        links_are = refl;
        vertices_are = refl;
        edges_are = refl;
      } in
      (made, v ∙ sym (polygon_size s b x y))

  made_one : {b : List ℕ} {q : NavPoly} → Makes s b q → q ≡ polygon_made s b
  unfolding polygon_made
  made_one {b} {q} m =
      let fields : NavPoly = record { flags0 = q.flags0; flags1 = q.flags1; flags2 = q.flags2; links = q.links; vertices = q.vertices; edges = q.edges } in
      let same : fields ≡ polygon_made s b = rw (m.flags0, m.flags1, m.flags2, m.links_are, m.vertices_are, m.edges_are) in
      same

  one_tally : (p : ℕ) {b : List ℕ} {q : NavPoly} → Makes s b q → tally_of (limits_of s) s.indices p b ≡ values (length (polygon_words (polygon_made s b)))
  unfolding tally_of
  one_tally p {b} {q} m =
      rw (
        le-leb (start_of b + count_of b) (length s.indices) m.in_indices,
        le-leb (start_of b + count_of b) (length s.edges) m.in_edges,
        all_below_lem (length s.vertices) (run_of b s.indices) m.below,
      )
      (ap values (sym (polygon_size s b m.in_indices m.in_edges)))

  -- ---- polygons in order

  -- polygons that pass one accepts are made by the grammar, and have so many words
  pub tally_made : (p : ℕ) (bs : List (List ℕ)) {w : ℕ} → tally_from (limits_of s) s.indices p bs ≡ values w
      → Each (Makes s) bs (map (polygon_made s) bs) × (w ≡ length (each polygon_words (map (polygon_made s) bs)))
  unfolding tally_from each
  tally_made p [] e = (none, cc)
  tally_made p (b ∷ bs) e =
      let (a, c, f, g, sum) = then_words (tally_of (limits_of s) s.indices p b) (tally_from (limits_of s) s.indices (p + 1) bs) e in
      let (m, v) = one_made p b f in
      let (ms, u) = tally_made (p + 1) bs g in
      (more m ms, rw (length-append, ← v, ← u) sum)

  -- polygons that the grammar makes are accepted, and are those that pass two writes
  pub made_tally : (p : ℕ) {bs : List (List ℕ)} {ps : List NavPoly} → Each (Makes s) bs ps
      → (tally_from (limits_of s) s.indices p bs ≡ values (length (each polygon_words ps))) × (ps ≡ map (polygon_made s) bs)
  unfolding tally_from each
  made_tally p none = (refl, refl)
  made_tally p (more {a = b} {b = q} {xs = bs} {ys = qs} m ms) =
      let (t, e) = made_tally (p + 1) ms in
      let one : q ≡ polygon_made s b = made_one m in
      (rw (one_tally p m, t, one, length-append), rw (one, ← e))

  -- polygons that pass one refuses are made by nobody
  pub refused_none : (p : ℕ) {bs : List (List ℕ)} {ps : List NavPoly} {number place : ℕ} → tally_from (limits_of s) s.indices p bs ≡ refusal number place → Each (Makes s) bs ps → ⊥
  refused_none p e m = no_values (sym e ∙ (made_tally p m).0)
