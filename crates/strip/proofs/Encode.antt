-- A well-formed strip is the strip of the cell that `scan` finds: `scan s ≡ ok c` gives `encode c ≡ s`. Assumes nothing.
use Prim.Native.Nat.{ℕ, zero, suc, ◌+◌, ◌-◌, ◌*◌, ◌≤◌, ◌<◌}
use mathlib.Core.Path.{◌≡◌, ap, sym, ◌∙◌}
use mathlib.Core.List.{List, [], ◌∷◌, ◌++◌, append_assoc}
use native.Mathlib.Omega.{arith}
use native.Mathlib.Nat.{add-zero, add_assoc, mul-zero, mod-add-div}
use native.Mathlib.Numerals.{add-one}
use lib.ListN.{length, drop, drop_of_length-le}
use lib.Seq.{drop-cons}
use Rattle.fields.specs.Rows.{pack, field}
use Rattle.strip.specs.Cell.{Cell, NavPoly, NavPortal, NavPoint, vec_words, half_words, edge_words, each, polygon_head_as, polygon_words_as, polygon_words, portal_words, point_words, head_words, end_words, plain, encode_as, encode}
use Rattle.strip.specs.Reading.{word, items_at, words_at, vec_at, vecs_at, nav_edge_at, edges_at, poly_at, polygon_of, polygon_at, nav_portal_at, point_at, head_at}
use Rattle.strip.specs.Scan.{Rest, Scanned, kind_of, polygon_rank, cell_rank, portal_rank, point_rank, on_record, with_polygon, with_portal, with_point, with_head, rest_from, rest_at, scan}
use Rattle.std.specs.Prelude.{Result}
use Rattle.strip.specs.declared.Record.{Record}
use Rattle.strip.proofs.Steps.{items_length}
use Rattle.strip.proofs.Bits.{counts_word, bytes_word, bare_word}
use Rattle.strip.proofs.Judged.{Judged, cell, polygon, portal, point, end, bad, judged, rest_step}
use Rattle.strip.proofs.Laid.{LaidRest, laid_from}

-- the words of a polygon and what follows it
join : (a b c d : ℕ) (k l m n : List ℕ) → a ∷ b ∷ c ∷ d ∷ (k ++ (l ++ (m ++ n))) ≡ (a ∷ b ∷ c ∷ d ∷ k ++ l ++ m) ++ n
join a b c d k l m n = simp append_assoc

module _ (s : List ℕ) where
  -- n words at the front
  word_cut : (at : ℕ) → at < length s → drop at s ≡ word s at ∷ drop (at + 1) s
  word_cut at h = rw (add-one, drop-cons s at 0)

  words_cut : (n at : ℕ) → at + n ≤ length s → drop at s ≡ words_at s at n ++ drop (at + n) s
  unfolding items_at
  words_cut zero at h = rw add-zero
  words_cut (suc n) at h =
      let g : at + 1 + n ≡ at + suc n = omega arith in
      word_cut at (omega arith) ∙ ap (λ (l : List ℕ). word s at ∷ l) (words_cut n (at + 1) (omega arith))
      ∙ ap (λ (k : ℕ). word s at ∷ words_at s (at + 1) n ++ drop k s) g

  -- n items of k words each
  items_cut : {A : Type 0} (f : A → List ℕ) (item : ℕ → A) (k : ℕ) → ((at : ℕ) → f (item at) ≡ words_at s at k)
      → (n at : ℕ) → at + k * n ≤ length s → drop at s ≡ each f (items_at item (λ x. x + k) at n) ++ drop (at + k * n) s
  unfolding items_at each
  items_cut f item k e zero at h = rw (mul-zero, add-zero)
  items_cut f item k e (suc n) at h =
      let j : at + k + k * n ≡ at + k * suc n = omega arith in
      words_cut k at (omega arith)
      ∙ rw (← e at, append_assoc (f (item at)))
      (ap (λ (l : List ℕ). f (item at) ++ l)
      (items_cut f item k e n (at + k) (omega arith) ∙ ap (λ (m : ℕ). each f (items_at item (λ x. x + k) (at + k) n) ++ drop m s) j))

  -- the words of each part are those that stand there
  pub vec_words_lem : (at : ℕ) → vec_words (vec_at s at) ≡ words_at s at 3
  unfolding items_at vec_words
  vec_words_lem at = simp add_assoc

  pub edge_words_lem : (at : ℕ) → edge_words (nav_edge_at s at) ≡ words_at s at 6
  unfolding items_at edge_words half_words
  edge_words_lem at = simp (add_assoc, mod-add-div)

  point_words_lem : (at : ℕ) → kind_of (word s at) ≡ 4 → field 0 28 (word s at) < 65536 → point_words (point_at s at) ≡ words_at s at 4
  unfolding items_at point_words vec_words point_at
  point_words_lem at k l =
      let e : pack ((8, field 0 8 (word s at)) ∷ (8, field 8 8 (word s at)) ∷ (12, 0) ∷ (4, 4) ∷ []) ≡ word s at = bytes_word 4 _ (omega arith) k l in
      simp (add_assoc, e)

  portal_words_lem : (at : ℕ) → kind_of (word s at) ≡ 3 → field 0 28 (word s at) < 65536 → portal_words (nav_portal_at s at) ≡ words_at s at 11
  unfolding items_at portal_words vec_words nav_portal_at
  portal_words_lem at k l =
      let e : pack ((8, field 0 8 (word s at)) ∷ (8, field 8 8 (word s at)) ∷ (12, 0) ∷ (4, 3) ∷ []) ≡ word s at = bytes_word 3 _ (omega arith) k l in
      simp (add_assoc, mod-add-div, e)

  head_words_lem : kind_of (word s 0) ≡ 1 → field 0 28 (word s 0) < 1 → head_words (head_at s 0) ≡ words_at s 0 14
  unfolding items_at head_words vec_words head_at
  head_words_lem k l =
      let e : pack ((28, 0) ∷ (4, 1) ∷ []) ≡ word s 0 = bare_word 1 _ (omega arith) k l in
      ap (λ (w : ℕ). w ∷ words_at s 1 13) e

  polygon_head : (at : ℕ) → kind_of (word s at) ≡ 2 → polygon_head_as plain (polygon_at s at) ≡ word s at
  unfolding polygon_head_as polygon_of poly_at
  polygon_head at k =
      let e : pack ((12, field 0 12 (word s at)) ∷ (12, field 12 12 (word s at)) ∷ (4, field 24 4 (word s at)) ∷ (4, 2) ∷ []) ≡ word s at = counts_word 2 _ (omega arith) k in
      simp (items_length, e)

  three : (at : ℕ) → words_at s at 3 ≡ word s at ∷ word s (at + 1) ∷ word s (at + 2) ∷ []
  unfolding items_at
  three at = simp add_assoc

  polygon_cut : (at : ℕ) → kind_of (word s at) ≡ 2 → (poly_at s at).next ≤ length s → drop at s ≡ polygon_words (polygon_at s at) ++ drop (poly_at s at).next s
  unfolding polygon_words_as polygon_of poly_at
  polygon_cut at k r =
      let p = poly_at s at in
      let f = p.flags_at in
      let l = words_at s p.link_at p.links in
      let v = each vec_words (vecs_at s p.vertex_at p.vertices) in
      let e = each edge_words (edges_at s p.edge_at p.edges) in
      let d = drop p.next s in
      word_cut at (omega arith)
      ∙ ap (λ (x : List ℕ). word s at ∷ x) (words_cut 3 f (omega arith) ∙ ap (λ (x : List ℕ). x ++ drop p.link_at s) (three f))
      ∙ ap (λ (x : List ℕ). word s at ∷ word s f ∷ word s (f + 1) ∷ word s (f + 2) ∷ x)
      (words_cut p.links p.link_at (omega arith)
      ∙ ap (λ (x : List ℕ). l ++ x)
      (items_cut vec_words (vec_at s) 3 vec_words_lem p.vertices p.vertex_at (omega arith)
      ∙ ap (λ (x : List ℕ). v ++ x) (items_cut edge_words (nav_edge_at s) 6 edge_words_lem p.edges p.edge_at (omega arith))))
      ∙ join (word s at) (word s f) (word s (f + 1)) (word s (f + 2)) l v e d
      ∙ ap (λ (h : ℕ). (h ∷ word s f ∷ word s (f + 1) ∷ word s (f + 2) ∷ l ++ v ++ e) ++ d) (sym (polygon_head at k))

-- the words after the cell's record
unfoldable pub rest_words : List NavPoly → List NavPortal → List NavPoint → List ℕ
rest_words ps qs ts = each polygon_words ps ++ (each portal_words qs ++ (each point_words ts ++ end_words))

-- a part in front of the others
front : (x l r : List ℕ) {rest d : List ℕ} → l ++ r ≡ rest → d ≡ x ++ rest → (x ++ l) ++ r ≡ d
front x l r h e = append_assoc x l r ∙ ap (λ (y : List ℕ). x ++ y) h ∙ sym e

abbrev Encoded : List ℕ → ℕ → Rest → Type 0
Encoded s at (Rest.good ps qs ts) = rest_words ps qs ts ≡ drop at s
Encoded s at (Rest.bad place) = Unit

module _ (s : List ℕ) (at : ℕ) where
  words_polygon : drop at s ≡ polygon_words (polygon_at s at) ++ drop (poly_at s at).next s → (r : Rest) → Encoded s (poly_at s at).next r → Encoded s at (with_polygon (polygon_at s at) r)
  unfolding rest_words each
  words_polygon e (Rest.good ps qs ts) h = front (polygon_words (polygon_at s at)) _ _ h e
  words_polygon e (Rest.bad place) h = tt

  words_portal : drop at s ≡ portal_words (nav_portal_at s at) ++ drop (at + 11) s → (r : Rest) → LaidRest s (at + 11) portal_rank r → Encoded s (at + 11) r → Encoded s at (with_portal (nav_portal_at s at) r)
  unfolding rest_words each
  words_portal e (Rest.good [] qs ts) l h = front (portal_words (nav_portal_at s at)) _ _ h e
  words_portal e (Rest.good (p ∷ ps) qs ts) l h = absurd (omega (arith, l.no_polys (omega arith)))
  words_portal e (Rest.bad place) l h = tt

  words_point : drop at s ≡ point_words (point_at s at) ++ drop (at + 4) s → (r : Rest) → LaidRest s (at + 4) point_rank r → Encoded s (at + 4) r → Encoded s at (with_point (point_at s at) r)
  unfolding rest_words each
  words_point e (Rest.good [] [] ts) l h = front (point_words (point_at s at)) _ _ h e
  words_point e (Rest.good [] (q ∷ qs) ts) l h = absurd (omega (arith, l.no_portals (omega arith)))
  words_point e (Rest.good (p ∷ ps) qs ts) l h = absurd (omega (arith, l.no_polys (omega arith)))
  words_point e (Rest.bad place) l h = tt

  words_end : kind_of (word s at) ≡ 5 → field 0 28 (word s at) < 1 → at < length s → length s ≤ at + 1 → Encoded s at (Rest.good [] [] [])
  unfolding rest_words each
  words_end k l h g =
      let w : pack ((28, 0) ∷ (4, 5) ∷ []) ≡ word s at = bare_word 5 _ (omega arith) k l in
      ap (λ (x : ℕ). x ∷ []) w ∙ ap (λ (x : List ℕ). word s at ∷ x) (sym (drop_of_length-le s g)) ∙ sym (word_cut s at h)

  words_on : (rank : ℕ) (go : ℕ → ℕ → Rest) → ((n l : ℕ) → 1 ≤ l → LaidRest s n l (go n l)) → ((n l : ℕ) → 1 ≤ l → Encoded s n (go n l)) → 1 ≤ rank
      → {r : Result Record ℕ} → Judged s at rank r → Encoded s at (on_record r go s at)
  words_on rank go h w o (cell k l r) = absurd (omega arith)
  words_on rank go h w o (polygon k l r t) = words_polygon (polygon_cut s at k r) (go (poly_at s at).next polygon_rank) (w _ _ (omega arith))
  words_on rank go h w o (portal k l r t) =
      words_portal (words_cut s 11 at r ∙ ap (λ (x : List ℕ). x ++ drop (at + 11) s) (sym (portal_words_lem s at k l.bits))) (go (at + 11) portal_rank) (h _ _ (omega arith)) (w _ _ (omega arith))
  words_on rank go h w o (point k l r) =
      words_point (words_cut s 4 at r ∙ ap (λ (x : List ℕ). x ++ drop (at + 4) s) (sym (point_words_lem s at k l.bits))) (go (at + 4) point_rank) (h _ _ (omega arith)) (w _ _ (omega arith))
  words_on rank go h w o (end k l r t) = words_end k l.bits r t
  words_on rank go h w o (bad place) = tt

words_from : (t : ℕ) (s : List ℕ) (at rank : ℕ) → 1 ≤ rank → Encoded s at (rest_from t s at rank)
unfolding rest_from
words_from zero s at rank h = tt
words_from (suc t) s at rank h = words_on s at rank (rest_from t s) (λ n l. laid_from t s n l) (λ n l. words_from t s n l) h (judged s at rank)

abbrev EncodedCell : List ℕ → Scanned → Type 0
EncodedCell s (Scanned.ok c) = encode c ≡ s
EncodedCell s (Scanned.fault number place) = Unit

words_head : (s : List ℕ) (r : Rest) → s ≡ head_words (head_at s 0) ++ drop 14 s → Encoded s 14 r → EncodedCell s (with_head (head_at s 0) r)
unfolding encode_as rest_words
words_head s (Rest.good ps qs ts) e h = simp append_assoc (ap (λ (x : List ℕ). head_words (head_at s 0) ++ x) h ∙ sym e)
words_head s (Rest.bad place) e h = tt

words_first : (s : List ℕ) {r : Result Record ℕ} → Judged s 0 0 r → EncodedCell s (with_head (head_at s 0) (on_record r (rest_at s) s 0))
unfolding rest_at
words_first s (cell k l r) =
    words_head s (rest_at s 14 cell_rank) (words_cut s 14 0 r ∙ ap (λ (x : List ℕ). x ++ drop 14 s) (sym (head_words_lem s k l.bits)))
    (words_from (suc (length s - 14)) s 14 cell_rank (omega arith))
words_first s (polygon k l r t) = absurd (omega arith)
words_first s (portal k l r t) = absurd (omega arith)
words_first s (point k l r) = absurd (omega arith)
words_first s (end k l r t) = absurd (omega arith)
words_first s (bad place) = tt

words_all : (s : List ℕ) → EncodedCell s (scan s)
unfolding scan
words_all s = rw (rest_step s 0 0) (words_first s (judged s 0 0))

-- a well-formed strip is the strip of its cell
pub encode_scan : (s : List ℕ) (c : Cell) → scan s ≡ Scanned.ok c → encode c ≡ s
encode_scan s c e = rw e at (words_all s)
