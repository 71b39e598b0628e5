-- Pass two: what may be filled after pass one, and that the parts make the strip. Assumes nothing.
use Prim.Native.Nat.{ℕ, ◌+◌, ◌*◌, ◌≤◌, ◌<◌}
use native.Mathlib.Nat.{zero-add}
use native.Mathlib.Omega.{arith}
use mathlib.Core.Path.{◌≡◌, refl, sym, ap, subst, ◌∙◌}
use mathlib.Core.Bool.{true}
use mathlib.Core.List.{List, [], ◌∷◌, ◌++◌, map}
use lib.ListN.{length, length-append, set}
use borrow.Author.Tests.{le-leb, lt-leb}
use Rattle.strip.specs.Reasons.{reason_number}
use Rattle.std.specs.Prelude.{Result, Ok, Err}
use Rattle.fields.specs.Bytes.{le_at}
use Rattle.fields.specs.Put.{put}
use Rattle.fields.specs.Rows.{pack}
use Rattle.fields.proofs.Puts.{put_next, put_one, put_whole}
use Rattle.strip.specs.Cell.{Vec3, Cell, head_words, polygon_words, end_words, encode, each}
use Rattle.strip.specs.Box.{finite_box}
use Rattle.strip.specs.Outcome.{shown, left, values, refusal_of, paper}
use Rattle.strip.specs.Outcome as Outcome
use Rattle.strip.specs.declared.Refusal.{Refusal}
use Rattle.strip.specs.declared.Reason.TheVariants.{TooShort}
use Rattle.read_grammar.specs.Derives.{area_of, back_of}
use Rattle.read_lists.specs.Lists.{total, table_of}
use Rattle.read_lists.specs.Listed.{Readable}
use Rattle.read_lists.proofs.Lists.{length_whole}
use Rattle.read_sectors.specs.Walk.{walk}
use Rattle.read_points.specs.Write.{points_in, points_words, HasRoom}
use Rattle.read_polygon_words.specs.Front.{links_of}
use Rattle.read_polygon_words.proofs.Words.{links_are}
use Rattle.read_polygons.specs.Polygons.{Source, limits_of, polygon_made}
use Rattle.read_list_set.specs.Items.{items_in}
use Rattle.read_polygons.specs.Passes.{source_of, Passed}
use Rattle.read_polygons.proofs.Exact.{tally_made}
use Rattle.read_decide.specs.declared.ListAddresses.{ListAddresses}
use Rattle.quantise.specs.declared.short.Frame.{Frame}
use Rattle.cell_record.specs.declared.CellRecord.{CellRecord}
use Rattle.cell_record.specs.Record.{frame_in}
use Rattle.read_records.specs.Back.{back_by}
use Rattle.read_decide.specs.declared.Parsed.{Parsed}
use Rattle.read_decide.specs.Reading.{Reading, made, refused, header, root_at, head, source, polygons, portal_count, portals, cell_of, read_cell}
use Rattle.read_decide.specs.Answer.{counts_of}
use Rattle.ynv_read.specs.Parse.{parse_outcome}
use Rattle.read_decide.specs.Deciding.{answer_of, addresses, link_bytes, polys_words, portals_words, ListsReady, ReadyFor}
use Rattle.ynv_read.specs.Filling.{Given, PolysFit, Fillable}
use Rattle.ynv_read.proofs.Accepted.{accepted}
use Rattle.read_list_set.proofs.Runs.{length_items}
use Rattle.ynv_read.proofs.Records.{back_is}
use Rattle.strip.proofs.Plain.{head_length}
use Rattle.read_decide.proofs.Lengths.{polys_count, portals_length, points_length, encode_is, encode_length}

-- ---- polygons

module _ (S G : List ℕ) {hd : List ℕ} {c : CellRecord} (known : Given S G hd c) {f : Frame} (ef : f ≡ frame_in c) {a : ListAddresses} (ed : a ≡ addresses hd)
    {vt it et pt lk : List ℕ} (ev : vt ≡ table_of S G a.vertices) (ei : it ≡ table_of S G a.indices) (ee : et ≡ table_of S G a.edges) (ep : pt ≡ table_of S G a.polygons)
    (el : lk ≡ link_bytes S G) where
  abbrev given : Source
  given = source_of S G vt it et lk hd f.bb_min f.bb_size

  ea : a ≡ addresses (header S G)
  ea = ed ∙ ap addresses known.header_is

  source_is : given ≡ source S G
  unfolding source addresses link_bytes
  source_is =
      let s = source S G in
      let make : List (List ℕ) → List (List ℕ) → List (List ℕ) → List ℕ → (ℕ → ℕ) → (ℕ → ℕ → ℕ → Vec3) → Source =
      λ v i e l area back. record { vertices = v; indices = i; edges = e; links = l; area = area; back = back } in
      let v : items_in S G 6 vt ≡ s.vertices = ap (items_in S G 6) (rw ea at ev) in
      let i : items_in S G 2 it ≡ s.indices = ap (items_in S G 2) (rw ea at ei) in
      let e : items_in S G 8 et ≡ s.edges = ap (items_in S G 8) (rw ea at ee) in
      let l : links_of lk ≡ s.links = ap links_of el ∙ sym (links_are S G (le_at 8 (header S G) 0x130) (le_at 4 (header S G) 0x150)) in
      let area : area_of hd ≡ area_of (header S G) = ap area_of known.header_is in
      let back : given.back ≡ s.back = ap (λ (x : Frame). back_by x.bb_min x.bb_size) ef ∙ back_is S G known.cell_is in
      let readable_at : make (items_in S G 6 vt) (items_in S G 2 it) (items_in S G 8 et) (links_of lk) (area_of hd) given.back ≡ make s.vertices s.indices s.edges s.links s.area s.back =
      rw (v, i, e, l, area, back) in
      readable_at

  polys_are : items_in S G 48 pt ≡ polygons S G
  unfolding addresses
  polys_are = ap (items_in S G 48) (rw ea at ep)

  pub may_put : {n len : ℕ} → ListsReady S G × (n ≡ length (polygons S G)) × PolysFit S G len
      → (Readable S G 6 vt × Readable S G 2 it × Readable S G 8 et × Readable S G 48 pt × (n ≡ total pt))
      × Passed (limits_of given) (items_in S G 2 it) 0 (items_in S G 48 pt) 14 len
  unfolding addresses
  may_put {n} {len} (ready, count, fit) =
      let fits : Passed (limits_of given) given.indices 0 (items_in S G 48 pt) 14 len =
      subst (λ (s : Source). Passed (limits_of s) s.indices 0 (items_in S G 48 pt) 14 len) (sym source_is)
      (subst (λ (l : List (List ℕ)). Passed (limits_of (source S G)) (source S G).indices 0 l 14 len) (sym polys_are) fit) in (
        (
          rw (rw ea at ev) ready.vertices,
          rw (rw ea at ei) ready.indices,
          rw (rw ea at ee) ready.edges,
          rw (rw ea at ep) ready.polygons,
          count ∙ ap length (sym polys_are) ∙ length_items S G 48 pt,
        ),
        fits,
      )

  pub polys_put : {r : ℕ} (old : List ℕ) {new : List ℕ} → (r ≡ 14 + length (each polygon_words (map (polygon_made given) (items_in S G 48 pt)))) × (new ≡ put 14 (each polygon_words (map (polygon_made given) (items_in S G 48 pt))) old)
      → (r ≡ 14 + length (polys_words S G)) × (new ≡ put 14 (polys_words S G) old)
  unfolding polys_words
  polys_put old (e, g) =
      let same : each polygon_words (map (polygon_made given) (items_in S G 48 pt)) ≡ polys_words S G = rw (source_is, polys_are) in
      (e ∙ ap (λ (l : List ℕ). 14 + length l) same, g ∙ ap (λ (l : List ℕ). put 14 l old) same)

-- ---- a cell that was accepted

-- room for each part, in a strip of n words that is long enough
pub record Room (S G : List ℕ) (polys n : ℕ) : Type 0 where
  pub points : List (List ℕ)
  pub box : finite_box (head S G) ≡ true
  pub ready : ListsReady S G
  pub polys_are : polys ≡ length (polygons S G)
  pub polys_fit : (end : ℕ) → 14 + length (polys_words S G) ≤ end → PolysFit S G end
  pub portals_there : 28 * portal_count S G ≤ length (portals S G)
  pub points_are : points_in (walk S G 4096 (root_at S G ∷ [])) ≡ points
  pub points_fit : (at end : ℕ) → at + 4 * length points ≤ end → HasRoom (walk S G 4096 (root_at S G ∷ [])) at end
  pub all : 14 + length (polys_words S G) + 11 * portal_count S G + 4 * length points + 1 ≤ n

pub room : (S G : List ℕ) {polys n : ℕ} → Fillable S G polys n → Room S G polys n
unfolding cell_of portals polys_words
room S G {polys} {n} f =
    let e = accepted S G f.is in
    let long : length (encode (cell_of S G e.points)) ≤ n = rw e.is at f.room in
    let all : 14 + length (polys_words S G) + 11 * portal_count S G + 4 * length e.points + 1 ≤ n = omega (arith, encode_length S G e.points) in
    let words : e.words ≡ length (polys_words S G) = (tally_made (source S G) 0 (polygons S G) e.tally).1 in
    record {
      points = e.points;
      box = e.box;
      ready = f.ready;
      polys_are = f.polys_are ∙ ap (λ (c : Cell). length c.polys) e.is ∙ polys_count S G;
      polys_fit = λ end h. record { words = e.words; is = e.tally; room = omega arith };
      portals_there = omega (arith, length_whole S G (le_at 8 (header S G) 0x128) (28 * portal_count S G) e.portals_whole);
      points_are = ap points_in e.walked;
      points_fit = λ at end h. record { left = e.left; points = e.points; is = e.walked; room = h };
      all = all;
    }

-- ---- the parts make the strip

put_behind : {n : ℕ} (bs cs xs : List ℕ) → n ≡ length bs → put n cs (put 0 bs xs) ≡ put 0 (bs ++ cs) xs
put_behind {n} bs cs xs e = ap (λ (m : ℕ). put m cs (put 0 bs xs)) (sym (zero-add n)) ∙ put_next n 0 bs cs xs (sym e)

pub filled : (S G : List ℕ) {c : Cell} {k : ℕ} → read_cell S G ≡ made c k → (x₀ : List ℕ) {x₁ x₂ x₃ x₄ : List ℕ} {r₁ r₂ r₃ : ℕ}
    → x₁ ≡ put 0 (head_words (head S G)) x₀
    → (r₁ ≡ 14 + length (polys_words S G)) × (x₂ ≡ put 14 (polys_words S G) x₁)
    → (r₂ ≡ r₁ + 11 * portal_count S G) × (x₃ ≡ put r₁ (portals_words S G) x₂)
    → (r₃ ≡ r₂ + 4 * length (points_in (walk S G 4096 (root_at S G ∷ [])))) × (x₄ ≡ put r₂ (points_words (back_of (head S G)) (points_in (walk S G 4096 (root_at S G ∷ [])))) x₃)
    → set x₄ r₃ 0x5000_0000 ≡ put 0 (encode c) x₀
unfolding pack
filled S G e x₀ {x₁} {x₂} {x₃} {x₄} {r₁} {r₂} {r₃} e₁ (n₂, e₂) (n₃, e₃) (n₄, e₄) =
    let f = accepted S G e in
    let h = head_words (head S G) in
    let p = polys_words S G in
    let q = portals_words S G in
    let t = points_words (back_of (head S G)) f.points in
    let ps : points_in (walk S G 4096 (root_at S G ∷ [])) ≡ f.points = ap points_in f.walked in
    let s₂ : x₂ ≡ put 0 (h ++ p) x₀ = e₂ ∙ ap (put 14 p) e₁ ∙ put_behind h p x₀ (sym (head_length (head S G))) in
    let l₁ : r₁ ≡ length (h ++ p) = omega (arith, length-append h p, head_length (head S G)) in
    let s₃ : x₃ ≡ put 0 (h ++ p ++ q) x₀ = e₃ ∙ ap (put r₁ q) s₂ ∙ put_behind (h ++ p) q x₀ l₁ in
    let l₂ : r₂ ≡ length (h ++ p ++ q) = omega (arith, length-append (h ++ p) q, portals_length S G) in
    let s₄ : x₄ ≡ put 0 (h ++ p ++ q ++ t) x₀ = e₄ ∙ ap (λ (l : List (List ℕ)). put r₂ (points_words (back_of (head S G)) l) x₃) ps ∙ ap (put r₂ t) s₃ ∙ put_behind (h ++ p ++ q) t x₀ l₂ in
    let l₃ : r₃ ≡ length (h ++ p ++ q ++ t) = omega (arith, length-append (h ++ p ++ q) t, points_length S G f.points, ap length ps) in
    let whole-strip : encode _ ≡ h ++ p ++ q ++ t ++ end_words = ap encode f.is ∙ encode_is S G f.points in
    sym (put_one r₃ 0x5000_0000 x₄) ∙ ap (put r₃ end_words) s₄ ∙ put_behind (h ++ p ++ q ++ t) end_words x₀ l₃ ∙ ap (λ (l : List ℕ). put 0 l x₀) (sym whole-strip)

-- ---- the answer

module _ (S G : List ℕ) {r : (Result Parsed Refusal)} (er : (paper r ≡ answer_of (read_cell S G)) × ReadyFor S G r) where
  pub parse_stopped : {q : Refusal} → r ≡ Err q → (old : List ℕ)
      → (paper (Err q) ≡ shown (parse_outcome S G (length old))) × (old ≡ left (parse_outcome S G (length old)) old)
  unfolding parse_outcome
  parse_stopped {q} e old =
      let is : read_cell S G ≡ refused (reason_number q.reason) q.place = by (read_cell S G) (sym er.0 ∙ ap paper e) in
      rw is (refl, refl)
    where
      by : (x : Reading) → answer_of x ≡ refusal_of q → x ≡ refused (reason_number q.reason) q.place
      by (refused number place) f = cc
      by (made c k) f = let z : ◌≡◌ {A = ℕ} 0 1 = cc in absurd (omega arith)

  module _ {p : Parsed} (e : r ≡ Ok p) where
    made_of : (c : Cell) × (k : ℕ) × (read_cell S G ≡ made c k) × (counts_of c k ≡ p)
    made_of = by (read_cell S G) refl (sym er.0 ∙ ap paper e)
      where
        by : (x : Reading) → read_cell S G ≡ x → answer_of x ≡ values p → (c : Cell) × (k : ℕ) × (read_cell S G ≡ made c k) × (counts_of c k ≡ p)
        by (made c k) f g = (c, k, f, cc)
        by (refused number place) f g = let z : ◌≡◌ {A = ℕ} 0 1 = cc in absurd (omega arith)

    pub parse_short : (old : List ℕ) → length old < p.words
        → (paper (Err (record { reason = TooShort; place = 0 })) ≡ shown (parse_outcome S G (length old))) × (old ≡ left (parse_outcome S G (length old)) old)
    unfolding parse_outcome
    parse_short old h =
        let (c, k, is, counts) = made_of in
        let short : length old < length (encode c) = rw (← counts) at h in
        rw (is, lt-leb (length (encode c)) (length old) short) (refl, refl)

    pub may_fill : {n : ℕ} → p.words ≤ n → Fillable S G p.polys n
    may_fill {n} h =
        let (c, k, is, counts) = made_of in
        let long : length (encode c) ≤ n = rw (← counts) at h in
        let polys : p.polys ≡ length c.polys = ap (λ (x : Parsed). x.polys) (sym counts) in
        let ready : ReadyFor S G (Ok p) = rw e at er.1 in
        record { cell = c; sectors = k; is = is; polys_are = polys; room = long; ready = ready }

    pub parse_done : (old : List ℕ) {new : List ℕ} → p.words ≤ length old → ((c : Cell) (k : ℕ) → read_cell S G ≡ made c k → new ≡ put 0 (encode c) old)
        → (paper (Ok p) ≡ shown (parse_outcome S G (length old))) × (new ≡ left (parse_outcome S G (length old)) old)
    unfolding parse_outcome
    parse_done old {new} h fill =
        let (c, k, is, counts) = made_of in
        let long : length (encode c) ≤ length old = rw (← counts) at h in
        rw (is, le-leb (length (encode c)) (length old) long) (ap Outcome.values (sym counts), fill c k is ∙ put_whole (encode c) old long)
