-- Pass two over polygons in order: what is left of them, after one or after a run.
use Prim.Native.Nat.{ℕ, ◌+◌, ◌≤◌}
use native.Mathlib.Omega.{arith}
use mathlib.Core.Path.{◌≡◌, refl, sym, ap, ◌∙◌}
use mathlib.Core.Bool.{true}
use mathlib.Core.List.{List, [], ◌∷◌, ◌++◌, map, append-nil}
use lib.ListN.{length, length-append}
use Rattle.fields.specs.Put.{put}
use Rattle.fields.proofs.Puts.{length_put, put_next, put_nil}
use Rattle.math.specs.declared.vec3.Vec3.{Vec3 as Floats}
use Rattle.strip.specs.Cell.{polygon_words, each}
use Rattle.read_grammar.specs.Polygons.{count_of, start_of, run_of}
use Rattle.read_records.proofs.Items.{each_append}
use Rattle.read_polygon_words.specs.Words.{all_below}
use Rattle.read_polygon_words.specs.Front.{links_of}
use Rattle.read_polygon_sides.specs.declared.Cursors.{Cursors}
use Rattle.read_polygons.specs.declared.PolygonCursor.{PolygonCursor}
use Rattle.strip.specs.Outcome.{values}
use Rattle.read_polygons.specs.Polygons.{Source, limits_of, polygon_made}
use Rattle.read_polygon_tally.specs.Tally.{size_of, tally_of, tally_from}
use Rattle.read_list_set.specs.Items.{items_in}
use Rattle.read_polygons.specs.Passes.{source_of, Put, Passed}
use Rattle.read_polygon_sides.specs.Sides.{ListsOpen, Inside}
use Rattle.std.proofs.lemmas.List.{map-append}
use Rattle.read_polygon_tally.proofs.Tallies.{tally_append, then_words, accepted}
use Rattle.read_polygons.proofs.Writes.{inside}
use Rattle.read_polygons.proofs.Exact.{tally_made, made_tally}

-- ---- what passed, in front and behind

module _ (s : Source) where
  -- the words of polygons that passed don't depend on the number of the first
  renumbered : (p q : ℕ) (bs : List (List ℕ)) {w : ℕ} → tally_from (limits_of s) s.indices p bs ≡ values w → tally_from (limits_of s) s.indices q bs ≡ values w
  renumbered p q bs e = let (made, v) = tally_made s p bs e in (made_tally s q made).0 ∙ ap values (sym v)

  module _ (ys zs : List (List ℕ)) {xs : List (List ℕ)} (e : xs ≡ ys ++ zs) (at end : ℕ) (h : Passed (limits_of s) s.indices 0 xs at end) where
    both : (a b : ℕ) × (tally_from (limits_of s) s.indices 0 ys ≡ values a) × (tally_from (limits_of s) s.indices (0 + length ys) zs ≡ values b) × (h.words ≡ a + b)
    both = then_words (tally_from (limits_of s) s.indices 0 ys) (tally_from (limits_of s) s.indices (0 + length ys) zs) (sym (tally_append (limits_of s) s.indices 0 ys zs) ∙ sym (ap (tally_from (limits_of s) s.indices 0) e) ∙ h.is)

    passed_front : Passed (limits_of s) s.indices 0 ys at end
    passed_front = let (a, b, f, g, sum) = both in record { words = a; is = f; room = omega (arith, sum, h.room) }

    passed_behind : Passed (limits_of s) s.indices 0 zs (at + length (each polygon_words (map (polygon_made s) ys))) end
    passed_behind =
        let (a, b, f, g, sum) = both in
        record { words = b; is = renumbered (0 + length ys) 0 zs g; room = omega (arith, (tally_made s 0 ys f).1, sum, h.room) }

  -- the first of them
  module _ (b : List ℕ) (bs : List (List ℕ)) {xs : List (List ℕ)} (e : xs ≡ b ∷ bs) (at end : ℕ) (h : Passed (limits_of s) s.indices 0 xs at end) where
    first_well : (start_of b + count_of b ≤ length s.indices) × (start_of b + count_of b ≤ length s.edges) × (all_below (length s.vertices) (run_of b s.indices) ≡ true) × (at + size_of (length s.links) b ≤ end)
    unfolding tally_from
    first_well =
        let (v, u, f, g, sum) = then_words (tally_of (limits_of s) s.indices 0 b) (tally_from (limits_of s) s.indices (0 + 1) bs) (sym (ap (tally_from (limits_of s) s.indices 0) e) ∙ h.is) in
        let (x, y, z, w) = accepted (limits_of s) s.indices 0 b f in
        (x, y, z, omega (arith, w, sum, h.room))

-- ---- what is left

module _ (system graphics vertices indices edges links header : List ℕ) (bb-min bb-size : Floats) (items : List (List ℕ)) (old : List ℕ) (at : ℕ) where
  abbrev source : Source
  source = source_of system graphics vertices indices edges links header bb-min bb-size

  -- what is left passed, and written from word e on it makes what is promised
  pub record Going (out : List ℕ) (c : Cursors) (e : ℕ) (rest : List (List ℕ)) : Type 0 where
    pub ready : ListsOpen system graphics vertices indices edges c
    pub same_length : length out ≡ length old
    pub passed : Passed (limits_of source) (items_in system graphics 2 indices) 0 rest e (length old)
    pub next : e + length (each polygon_words (map (polygon_made source) rest)) ≡ at + length (each polygon_words (map (polygon_made source) items))
    pub strip : put e (each polygon_words (map (polygon_made source) rest)) out ≡ put at (each polygon_words (map (polygon_made source) items)) old

  pub begins : {c : Cursors} → ListsOpen system graphics vertices indices edges c → Passed (limits_of source) (items_in system graphics 2 indices) 0 items at (length old)
      → {rest : List (List ℕ)} → rest ≡ items → Going old c at rest
  begins r h e = rw e (record { ready = r; same_length = refl; passed = h; next = refl; strip = refl })

  module _ {out : List ℕ} {c : Cursors} {e : ℕ} {rest : List (List ℕ)} (g : Going out c e rest) where
    -- a run of polygons
    module _ (ys zs : List (List ℕ)) (er : rest ≡ ys ++ zs) where
      pub run_asks : Passed (limits_of source) (items_in system graphics 2 indices) 0 ys e (length out)
      run_asks = rw g.same_length (passed_front source ys zs er e (length old) g.passed)

      pub goes_on : {r : PolygonCursor} {new : List ℕ} → Put system graphics vertices indices edges (each polygon_words (map (polygon_made source) ys)) out e r new → Going new r.cursors r.at zs
      goes_on {r} {new} w =
          let front : List ℕ = each polygon_words (map (polygon_made source) ys) in
          let behind : List ℕ = each polygon_words (map (polygon_made source) zs) in
          let all : each polygon_words (map (polygon_made source) rest) ≡ front ++ behind = rw (er, map-append (polygon_made source) ys zs, each_append polygon_words (map (polygon_made source) ys) (map (polygon_made source) zs)) in
          record {
            ready = w.ready;
            same_length = ap length w.strip ∙ length_put e front out ∙ g.same_length;
            passed = rw w.next (passed_behind source ys zs er e (length old) g.passed);
            next = omega (arith, w.next, ap length all, length-append front behind, g.next);
            strip = rw (w.strip, w.next) (put_next (length front) e front behind out refl ∙ sym (ap (λ (ws : List ℕ). put e ws out) all) ∙ g.strip);
          }

    -- one polygon
    module _ (b : List ℕ) (zs : List (List ℕ)) (er : rest ≡ b ∷ zs) where
      pub polygon_asks : ListsOpen system graphics vertices indices edges c × Inside system graphics vertices indices edges (start_of b) (count_of b) × (e + size_of (length (links_of links)) b ≤ length out)
      polygon_asks =
          let (x, y, z, room) = first_well source b zs er e (length old) g.passed in
          (g.ready, inside system graphics vertices indices edges (start_of b) (count_of b) x y z, omega (arith, room, g.same_length))

      pub one_on : {r : PolygonCursor} {new : List ℕ} → Put system graphics vertices indices edges (polygon_words (polygon_made source b)) out e r new → Going new r.cursors r.at zs
      unfolding each
      one_on w = goes_on (b ∷ []) zs er (rw (append-nil (polygon_words (polygon_made source b))) w)

    pub ends : rest ≡ [] → (e ≡ at + length (each polygon_words (map (polygon_made source) items))) × (out ≡ put at (each polygon_words (map (polygon_made source) items)) old)
    unfolding each
    ends none =
        let words : List ℕ = each polygon_words (map (polygon_made source) rest) in
        let no : words ≡ [] = rw none in
        (omega (arith, ap length no, g.next), sym (put_nil e out) ∙ sym (ap (λ (ws : List ℕ). put e ws out) no) ∙ g.strip)
