-- The strip of a cell that fits is scanned as that cell: `scan (encode c) ≡ ok c`. Assumes nothing.
use Prim.Native.Nat.{ℕ, suc, ◌+◌, ◌-◌, ◌*◌, ◌/◌, ◌%◌, ◌^◌, ◌≤◌, ◌<◌}
use mathlib.Core.Path.{◌≡◌, refl, ap, sym, ◌∙◌}
use mathlib.Core.Bool.{true}
use mathlib.Core.List.{List, [], ◌∷◌, ◌++◌, append_assoc}
use native.Mathlib.Omega.{arith}
use native.Mathlib.Nat.{add-zero, add_assoc, mul-zero}
use lib.ListN.{length, drop, get_or, length-drop, length-append}
use lib.Seq.{get_or-drop, drop-drop}
use borrow.Author.Tests.{lt-ltb, le-leb}
use Rattle.fields.specs.Rows.{pack, field}
use Rattle.fields.proofs.Rows.{bits_back}
use Rattle.strip.specs.Cell.{Cell, Vec3, NavEdge, NavPoly, NavPortal, NavPoint, vec_words, half_words, edge_words, joined, each, polygon_head_as, polygon_words_as, polygon_words, portal_words, point_words, head_words, end_words, PolygonKind, plain, encode_as, encode}
use Rattle.strip.specs.Fits.{All, EdgeFits, PolygonFits, PortalFits, PointFits, Fits}
use Rattle.strip.specs.Reading.{word, items_at, words_at, vec_at, vecs_at, nav_edge_at, edges_at, layout, poly_at, polygon_of, nav_portal_at, point_at, head_at}
use Rattle.strip.specs.Scan.{Rest, Scanned, all_below, edges_fit, poly_fits, portal_fits, kind_of, polygon_rank, cell_rank, portal_rank, point_rank, first_good, on_record, with_polygon, with_portal, with_point, cell_record, polygon_record, portal_record, point_record, end_record, record_of, record_at, rest_at, scan}
use Rattle.strip.specs.declared.Poly.{Poly}
use Rattle.std.specs.Prelude.{Result, Ok}
use Rattle.strip.specs.declared.Record.{Record}
use Rattle.strip.specs.declared.Record.TheVariants.{Cell as IsCell, Polygon as IsPolygon}
use Rattle.strip.proofs.Bits.{kind_back, held_field, unnamed_back}
use Rattle.strip.proofs.Judged.{rest_step}
use Rattle.strip.proofs.Encode.{rest_words}

module _ (s : List ℕ) (at : ℕ) (l : List ℕ) (e : drop at s ≡ l) where
  -- what stands after a position, as words, as a later position, and as a length
  here : word s at ≡ get_or l 0 0
  here = let g = get_or-drop at s 0 0 in (rw add-zero at (sym g)) ∙ ap (λ (x : List ℕ). get_or x 0 0) e

  there : (i : ℕ) → word s (at + i) ≡ get_or l i 0
  there i = sym (get_or-drop at s i 0) ∙ ap (λ (x : List ℕ). get_or x i 0) e

  later : (k : ℕ) → drop (at + k) s ≡ drop k l
  later k = sym (drop-drop k at s) ∙ ap (drop k) e

  left : length s - at ≡ length l
  left = sym (length-drop at s) ∙ ap length e

module _ (s : List ℕ) where
  vec_back : (at : ℕ) (v : Vec3) (post : List ℕ) → drop at s ≡ vec_words v ++ post → (vec_at s at ≡ v) × (drop (at + 3) s ≡ post)
  unfolding vec_words
  vec_back at v post e = (rw (here s at _ e, there s at _ e 1, there s at _ e 2), later s at _ e 3)

  edge_back : (at : ℕ) (x : NavEdge) (post : List ℕ) → EdgeFits x → drop at s ≡ edge_words x ++ post → (nav_edge_at s at ≡ x) × (drop (at + 6) s ≡ post)
  unfolding edge_words half_words
  edge_back at x post f e =
      let t = there s at _ e in
      let q : word s (at + 3 + 1) ≡ x.b.poly = rw add_assoc (t 4) in
      let u : word s (at + 3 + 2) ≡ joined x.b.unk3 x.b.unk2 = rw add_assoc (t 5) in
      let a3 : word s (at + 2) % 65536 ≡ x.a.unk3 = omega (arith, t 2) in
      let a2 : word s (at + 2) / 65536 ≡ x.a.unk2 = omega (arith, t 2) in
      let b3 : word s (at + 3 + 2) % 65536 ≡ x.b.unk3 = omega arith in
      let b2 : word s (at + 3 + 2) / 65536 ≡ x.b.unk2 = omega arith in
      (rw (a3, a2, b3, b2, here s at _ e, t 1, t 3, q), later s at _ e 6)

  words_back : (l : List ℕ) (at : ℕ) (post : List ℕ) → drop at s ≡ l ++ post → (words_at s at (length l) ≡ l) × (drop (at + length l) s ≡ post)
  unfolding items_at
  words_back [] at post e = (refl, rw add-zero e)
  words_back (w ∷ l) at post e =
      let r = words_back l (at + 1) post (later s at _ e 1) in
      let j : at + 1 + length l ≡ at + suc (length l) = omega arith in
      (rw (here s at _ e, r.0), rw j at r.1)

  -- n items of k words each
  items_back : {A : Type 0} (f : A → List ℕ) (P : A → Type 0) (item : ℕ → A) (k : ℕ)
      → ((at : ℕ) (a : A) (post : List ℕ) → P a → drop at s ≡ f a ++ post → (item at ≡ a) × (drop (at + k) s ≡ post))
      → (as' : List A) (at : ℕ) (post : List ℕ) → All P as' → drop at s ≡ each f as' ++ post
      → (items_at item (λ x. x + k) at (length as') ≡ as') × (drop (at + k * length as') s ≡ post)
  unfolding items_at each
  items_back f P item k h [] at post p e = (refl, rw (mul-zero, add-zero) e)
  items_back f P item k h (a ∷ as') at post p e =
      let o = h at a (each f as' ++ post) p.0 (e ∙ append_assoc (f a) (each f as') post) in
      let r = items_back f P item k h as' (at + k) post p.1 o.1 in
      let j : at + k + k * length as' ≡ at + k * suc (length as') = omega arith in
      (rw (o.0, r.0), rw j at r.1)

  below_back : (l : List ℕ) (at : ℕ) (post : List ℕ) → All (λ w. w < 65536) l → drop at s ≡ l ++ post → all_below s at (length l) 65536 ≡ true
  unfolding all_below
  below_back [] at post p e = refl
  below_back (w ∷ l) at post p e =
      rw (here s at _ e, lt-ltb w 65536 p.0) (below_back l (at + 1) post p.1 (later s at _ e 1))

  edges_fit_back : (l : List NavEdge) (at : ℕ) (post : List ℕ) → All EdgeFits l → drop at s ≡ each edge_words l ++ post → edges_fit s at (length l) ≡ true
  unfolding edges_fit each edge_words half_words
  edges_fit_back [] at post p e = refl
  edges_fit_back (x ∷ l) at post p e =
      let t = there s at _ e in
      rw (lt-ltb (word s (at + 2)) 16777216 (omega (arith, t 2, p.0.a)), lt-ltb (word s (at + 5)) 16777216 (omega (arith, t 5, p.0.b)))
      (edges_fit_back l (at + 6) post p.1 (later s at _ e 6))

  -- a record's first word is at a position of the strip
  in_strip : (at : ℕ) (l : List ℕ) → 1 ≤ length l → drop at s ≡ l → at < length s
  in_strip at l h e = omega (arith, left s at l e)

-- a good first word
first_back : (low high limit rank w : ℕ) → low ≤ rank → rank ≤ high → field 0 28 w < limit → first_good low high limit rank w ≡ true
unfolding first_good
first_back low high limit rank w o q b = rw (le-leb low rank o, le-leb rank high q, lt-ltb (field 0 28 w) limit b)

-- a polygon's words, and more after them
spread : (p : NavPoly) (post : List ℕ)
    → polygon_words p ++ post ≡ polygon_head_as plain p ∷ p.flags0 ∷ p.flags1 ∷ p.flags2 ∷ (p.links ++ (each vec_words p.vertices ++ (each edge_words p.edges ++ post)))
unfolding polygon_words_as
spread p post = simp append_assoc

any : (l : List Vec3) → All (λ v. Unit) l
any [] = tt
any (v ∷ l) = (tt, any l)

module _ (s : List ℕ) (at : ℕ) (p : NavPoly) (post : List ℕ) (f : PolygonFits p) (e : drop at s ≡ polygon_words p ++ post) where
  -- the polygon's cursor, by its counts
  abbrev cursor : Poly
  cursor = layout at (at + 1) (length p.links) (length p.vertices) (length p.edges)

  first_word : word s at ≡ polygon_head_as plain p
  first_word = here s at _ (e ∙ spread p post)

  abbrev row : List (ℕ × ℕ)
  row = (12, length p.vertices) ∷ (12, length p.edges) ∷ (4, length p.links) ∷ (4, 2) ∷ []

  cursor_back : poly_at s at ≡ cursor
  unfolding poly_at polygon_head_as
  cursor_back =
      rw (
        first_word,
        held_field row 24 4 _ refl f.link_count,
        held_field row 0 12 _ refl f.vertex_count,
        held_field row 12 12 _ refl f.edge_count,
      )

  polygon_kind : kind_of (word s at) ≡ 2
  unfolding polygon_head_as
  polygon_kind = rw first_word (kind_back row 2 (omega arith) refl refl)

  -- what stands behind the first word
  flags_back : drop cursor.flags_at s ≡ p.flags0 ∷ p.flags1 ∷ p.flags2 ∷ (p.links ++ (each vec_words p.vertices ++ (each edge_words p.edges ++ post)))
  unfolding layout
  flags_back = later s at _ (e ∙ spread p post) 1

  links_back : (words_at s cursor.link_at (length p.links) ≡ p.links) × (drop cursor.vertex_at s ≡ each vec_words p.vertices ++ (each edge_words p.edges ++ post))
  unfolding layout
  links_back = words_back s p.links cursor.link_at _ (later s cursor.flags_at _ flags_back 3)

  vertices_back : (vecs_at s cursor.vertex_at (length p.vertices) ≡ p.vertices) × (drop cursor.edge_at s ≡ each edge_words p.edges ++ post)
  unfolding layout
  vertices_back = items_back s vec_words (λ v. Unit) (vec_at s) 3 (λ n v q u. vec_back s n v q) p.vertices cursor.vertex_at _ (any p.vertices) links_back.1

  edges_back : (edges_at s cursor.edge_at (length p.edges) ≡ p.edges) × (drop cursor.next s ≡ post)
  unfolding layout
  edges_back = items_back s edge_words EdgeFits (nav_edge_at s) 6 (edge_back s) p.edges cursor.edge_at post f.edges vertices_back.1

  polygon_back : polygon_of s cursor ≡ p
  unfolding polygon_of layout
  polygon_back =
      let t = there s cursor.flags_at _ flags_back in
      rw (here s cursor.flags_at _ flags_back, t 1, t 2, links_back.0, vertices_back.0, edges_back.0)

  poly_fits_back : poly_fits s cursor ≡ true
  unfolding poly_fits layout
  poly_fits_back =
      rw (
        here s cursor.flags_at _ flags_back,
        lt-ltb p.flags0 65536 f.flags0,
        below_back s p.links cursor.link_at _ f.links (later s cursor.flags_at _ flags_back 3),
        edges_fit_back s p.edges cursor.edge_at post f.edges vertices_back.1,
      )

  inside : 1 ≤ length post → (at < length s) × (cursor.next ≤ length s)
  unfolding layout
  inside h = let n = in_strip s cursor.next post h edges_back.1 in omega arith

  polygon_record_back : 1 ≤ length post → (rank : ℕ) → polygon_rank ≤ rank → rank ≤ cell_rank → record_at s at rank ≡ Ok (IsPolygon cursor)
  unfolding record_at record_of polygon_record
  polygon_record_back h rank o q =
      rw (
        lt-ltb at (length s) (inside h).0,
        polygon_kind,
        first_back polygon_rank cell_rank (2 ^ 28) rank (word s at) o q (omega arith),
        cursor_back,
        le-leb cursor.next (length s) (inside h).1,
        poly_fits_back,
      )

  polygon_rest : 1 ≤ length post → (rank : ℕ) → polygon_rank ≤ rank → rank ≤ cell_rank → rest_at s at rank ≡ with_polygon p (rest_at s cursor.next polygon_rank)
  polygon_rest h rank o q =
      rest_step s at rank ∙ rw (polygon_record_back h rank o q, cursor_back, polygon_back)

module _ (s : List ℕ) (at : ℕ) (q : NavPortal) (post : List ℕ) (f : PortalFits q) (e : drop at s ≡ portal_words q ++ post) where
  abbrev portal_row : List (ℕ × ℕ)
  portal_row = (8, q.kind) ∷ (8, q.angle) ∷ (12, 0) ∷ (4, 3) ∷ []

  portal_back : nav_portal_at s at ≡ q
  unfolding nav_portal_at portal_words vec_words
  portal_back =
      let t = there s at _ e in
      let k : field 0 8 (word s at) ≡ q.kind = rw (here s at _ e) (held_field portal_row 0 8 _ refl f.kind) in
      let a : field 8 8 (word s at) ≡ q.angle = rw (here s at _ e) (held_field portal_row 8 8 _ refl f.angle) in
      let c : word s (at + 8) % 65536 ≡ q.poly_from = omega (arith, t 8) in
      let d : word s (at + 8) / 65536 ≡ q.poly_to = omega (arith, t 8) in
      let g : word s (at + 9) % 65536 ≡ q.area_from = omega (arith, t 9) in
      let h : word s (at + 9) / 65536 ≡ q.area_to = omega (arith, t 9) in
      simp (add_assoc, k, a, c, d, g, h, t 1, t 2, t 3, t 4, t 5, t 6, t 7, t 10)

  portal_next : drop (at + 11) s ≡ post
  unfolding portal_words vec_words
  portal_next = later s at _ e 11

  portal_rest : 1 ≤ length post → (rank : ℕ) → polygon_rank ≤ rank → rank ≤ portal_rank → rest_at s at rank ≡ with_portal q (rest_at s (at + 11) portal_rank)
  unfolding record_at record_of portal_record portal_fits portal_words vec_words
  portal_rest h rank o r =
      let t = there s at _ e in
      let w : word s at ≡ pack portal_row = here s at _ e in
      let n : at + 11 < length s = in_strip s (at + 11) post h portal_next in
      let k : kind_of (word s at) ≡ 3 = rw w (kind_back portal_row 3 (omega arith) refl refl) in
      let b : field 0 28 (word s at) < 2 ^ 16 = rw w (unnamed_back q.kind q.angle 3) in
      rest_step s at rank
      ∙ rw (
        lt-ltb at (length s) (omega arith),
        k,
        first_back polygon_rank portal_rank (2 ^ 16) rank (word s at) o r b,
        le-leb (at + 11) (length s) (omega arith),
        lt-ltb (word s (at + 1)) 65536 (omega (arith, t 1)),
        lt-ltb (word s (at + 10)) 256 (omega (arith, t 10)),
        portal_back,
      )

module _ (s : List ℕ) (at : ℕ) (q : NavPoint) (post : List ℕ) (f : PointFits q) (e : drop at s ≡ point_words q ++ post) where
  abbrev point_row : List (ℕ × ℕ)
  point_row = (8, q.angle) ∷ (8, q.kind) ∷ (12, 0) ∷ (4, 4) ∷ []

  point_back : point_at s at ≡ q
  unfolding point_at point_words vec_words
  point_back =
      let t = there s at _ e in
      let k : field 0 8 (word s at) ≡ q.angle = rw (here s at _ e) (held_field point_row 0 8 _ refl f.angle) in
      let a : field 8 8 (word s at) ≡ q.kind = rw (here s at _ e) (held_field point_row 8 8 _ refl f.kind) in
      simp (add_assoc, k, a, t 1, t 2, t 3)

  point_next : drop (at + 4) s ≡ post
  unfolding point_words vec_words
  point_next = later s at _ e 4

  point_rest : 1 ≤ length post → (rank : ℕ) → polygon_rank ≤ rank → rank ≤ point_rank → rest_at s at rank ≡ with_point q (rest_at s (at + 4) point_rank)
  unfolding record_at record_of point_record point_words vec_words
  point_rest h rank o r =
      let w : word s at ≡ pack point_row = here s at _ e in
      let n : at + 4 < length s = in_strip s (at + 4) post h point_next in
      let k : kind_of (word s at) ≡ 4 = rw w (kind_back point_row 4 (omega arith) refl refl) in
      let b : field 0 28 (word s at) < 2 ^ 16 = rw w (unnamed_back q.angle q.kind 4) in
      rest_step s at rank
      ∙ rw (
        lt-ltb at (length s) (omega arith),
        k,
        first_back polygon_rank point_rank (2 ^ 16) rank (word s at) o r b,
        le-leb (at + 4) (length s) (omega arith),
        point_back,
      )

end_rest : (s : List ℕ) (at rank : ℕ) → polygon_rank ≤ rank → rank ≤ point_rank → drop at s ≡ end_words → rest_at s at rank ≡ Rest.good [] [] []
unfolding record_at record_of end_record
end_rest s at rank o r e =
    let w : word s at ≡ pack ((28, 0) ∷ (4, 5) ∷ []) = here s at _ e in
    let n : length s - at ≡ 1 = left s at _ e in
    let k : kind_of (word s at) ≡ 5 = rw w (kind_back ((28, 0) ∷ (4, 5) ∷ []) 5 (omega arith) refl refl) in
    let b : field 0 28 (word s at) ≡ 0 = rw w (bits_back ((28, 0) ∷ (4, 5) ∷ []) 0 28 0 refl) in
    rest_step s at rank
    ∙ rw (
      lt-ltb at (length s) (omega arith),
      k,
      first_back polygon_rank point_rank 1 rank (word s at) o r (omega arith),
      le-leb (length s) (at + 1) (omega arith),
    )

-- the lists one after the other, and the end
some : (ps : List NavPoly) (qs : List NavPortal) (ts : List NavPoint) → 1 ≤ length (rest_words ps qs ts)
unfolding rest_words
some ps qs ts = simp length-append (omega arith)

module _ (s : List ℕ) where
  points_back : (ts : List NavPoint) (at rank : ℕ) → polygon_rank ≤ rank → rank ≤ point_rank → All PointFits ts → drop at s ≡ rest_words [] [] ts → rest_at s at rank ≡ Rest.good [] [] ts
  unfolding rest_words each
  points_back [] at rank o r f e = end_rest s at rank o r e
  points_back (t ∷ ts) at rank o r f e =
      let d = e ∙ append_assoc (point_words t) _ _ in
      let n = rest_words [] [] ts in
      point_rest s at t n f.0 d (some [] [] ts) rank o r
      ∙ ap (with_point t) (points_back ts (at + 4) point_rank (omega arith) (omega arith) f.1 (point_next s at t n f.0 d))

  portals_back : (qs : List NavPortal) (ts : List NavPoint) (at rank : ℕ) → polygon_rank ≤ rank → rank ≤ portal_rank → All PortalFits qs → All PointFits ts
      → drop at s ≡ rest_words [] qs ts → rest_at s at rank ≡ Rest.good [] qs ts
  unfolding rest_words each
  portals_back [] ts at rank o r f g e = points_back ts at rank o (omega arith) g e
  portals_back (q ∷ qs) ts at rank o r f g e =
      let d = e ∙ append_assoc (portal_words q) _ _ in
      let n = rest_words [] qs ts in
      portal_rest s at q n f.0 d (some [] qs ts) rank o r
      ∙ ap (with_portal q) (portals_back qs ts (at + 11) portal_rank (omega arith) (omega arith) f.1 g (portal_next s at q n f.0 d))

  polygons_back : (ps : List NavPoly) (qs : List NavPortal) (ts : List NavPoint) (at rank : ℕ) → polygon_rank ≤ rank → rank ≤ cell_rank
      → All PolygonFits ps → All PortalFits qs → All PointFits ts → drop at s ≡ rest_words ps qs ts → rest_at s at rank ≡ Rest.good ps qs ts
  unfolding rest_words each
  polygons_back [] qs ts at rank o r f g h e = portals_back qs ts at rank o (omega arith) g h e
  polygons_back (p ∷ ps) qs ts at rank o r f g h e =
      let d = e ∙ append_assoc (polygon_words p) _ _ in
      let n = rest_words ps qs ts in
      polygon_rest s at p n f.0 d (some ps qs ts) rank o r
      ∙ ap (with_polygon p) (polygons_back ps qs ts (cursor s at p n f.0 d).next polygon_rank (omega arith) (omega arith) f.1 g h (edges_back s at p n f.0 d).1)

  module _ (c : Cell) (f : Fits c) (e : s ≡ head_words c.head ++ rest_words c.polys c.portals c.points) where
    head_back : head_at s 0 ≡ c.head
    unfolding head_at head_words vec_words
    head_back = ap (λ (x : List ℕ). head_at x 0) e

    cell_record_back : record_at s 0 0 ≡ Ok IsCell
    unfolding record_at record_of cell_record head_words vec_words
    cell_record_back =
        let n : 15 ≤ length s = omega (arith, ap length e, some c.polys c.portals c.points) in
        let w : word s 0 ≡ pack ((28, 0) ∷ (4, 1) ∷ []) = ap (λ (x : List ℕ). get_or x 0 0) e in
        let k : kind_of (word s 0) ≡ 1 = rw w (kind_back ((28, 0) ∷ (4, 1) ∷ []) 1 (omega arith) refl refl) in
        let b : field 0 28 (word s 0) ≡ 0 = rw w (bits_back ((28, 0) ∷ (4, 1) ∷ []) 0 28 0 refl) in
        rw (lt-ltb 0 (length s) (omega arith), k, first_back 0 0 1 0 (word s 0) (omega arith) (omega arith) (omega arith), le-leb 14 (length s) (omega arith))

    rest_back : rest_at s 0 0 ≡ Rest.good c.polys c.portals c.points
    unfolding head_words vec_words
    rest_back =
        rest_step s 0 0
        ∙ ap (λ (r : Result Record ℕ). on_record r (rest_at s) s 0) cell_record_back
        ∙ polygons_back c.polys c.portals c.points 14 cell_rank (omega arith) (omega arith) f.polys f.portals f.points (ap (drop 14) e)

    cell_back : scan s ≡ Scanned.ok c
    unfolding scan
    cell_back = rw (head_back, rest_back)

-- the strip of a cell that fits is well formed, and is that cell
pub scan_encode : (kind : PolygonKind) (c : Cell) → Fits c → scan (encode_as kind c) ≡ Scanned.ok c
unfolding encode_as rest_words
scan_encode plain c f = cell_back (encode c) c f (simp append_assoc)
