-- What the answers say: 3, 10, 41 at the first polygon with fewer than 3 vertices, 2 where the text is longer than what was lent, and no other refusal;
-- otherwise the whole text. And how much to lend, so that 2 never comes. Assumes nothing.
use Prim.Native.Nat.{ℕ, ◌+◌, ◌*◌, ◌^◌, ◌≤◌, ◌<◌}
use mathlib.Core.Path.{◌≡◌, refl, sym, ap, ◌∙◌}
use mathlib.Core.Bool.{Bool, true, false, cond}
use mathlib.Core.List.{List, [], ◌∷◌, ◌++◌}
use mathlib.Core.Logic.{◌⊎◌, inl, inr, ⊎_elim}
use native.Mathlib.Omega.{arith}
use borrow.Author.Tests.{leb-true, leb-false}
use lib.Dec.{leb, lit≤}
use lib.ListN.{length, length-append}
use Rattle.strip.specs.Reasons.{reason_number}
use Rattle.std.specs.Prelude.{Result, Err, Option, Some, None}
use Rattle.strip.specs.Cell.{NavPoly, Cell, vec_words, edge_words, each, polygon_head_as, polygon_words_as, polygon_words, plain, encode}
use Rattle.strip.specs.Fits.{All}
use Rattle.strip.specs.Box.{finite_box}
use Rattle.strip.specs.Scan.{Scanned, ok, fault, scan}
use Rattle.strip.specs.Outcome.{Outcome, refused, done, shown, refusal_of, paper}
use Rattle.strip.specs.Check.{on_cell}
use Rattle.strip.specs.declared.Refusal.{Refusal}
use Rattle.strip.proofs.Faults as Faults
use Rattle.strip.proofs.Faults.{scan_fault}
use Rattle.strip.proofs.Exact.{scan_fits}
use Rattle.strip.proofs.Plain.{length_each, length_encode}
use Rattle.strip_parts.specs.Boxed.{on_box}
use Rattle.picking.specs.Picking.{first_from}
use Rattle.picking.specs.Answers.{OnCell, ThreeOrTen, Lowest}
use Rattle.picking.proofs.Theorems.{first_lowest, first_none}
use Rattle.obj_text.specs.Text.{obj_text}
use Rattle.obj_text.specs.Counts.{vertex_count}
use Rattle.obj_room.specs.Thin.{is_thin}
use Rattle.obj.specs.Room.{obj_room}
use Rattle.obj_room.proofs.Lengths.{text_most}
use Rattle.obj.specs.Obj.{unless_thin, with_room, drawn, obj_outcome}

-- ---- which refusals there are, and where

module _ (strip : List ℕ) (room : ℕ) where
  -- the polygon at the place is the first with fewer than 3 vertices
  abbrev pub FirstThin : ℕ → Type 0
  FirstThin place = OnCell strip true (λ c. Lowest is_thin place c.polys)

  -- there is none, and the text is longer than the room
  abbrev pub TooLong : Type 0
  TooLong = OnCell strip true (λ c. All (λ p. is_thin p ≡ false) c.polys × (room < length (obj_text c)))

  abbrev pub Refusals : ℕ → ℕ → Type 0
  Refusals number place = ThreeOrTen strip number place ⊎ (((number ≡ 41) × FirstThin place) ⊎ ((number ≡ 2) × (place ≡ 0) × TooLong))

  -- it is the cell's text, and there is room for it
  abbrev pub Fitting : ℕ → List ℕ → Type 0
  Fitting n text = OnCell strip true (λ c. All (λ p. is_thin p ≡ false) c.polys × (length (obj_text c) ≤ room) × (n ≡ length (obj_text c)) × (text ≡ obj_text c))

  abbrev Decided : Outcome ℕ → Type 0
  Decided (refused number place) = Refusals number place
  Decided (done n text) = Fitting n text

  on_room : (c : Cell) → scan strip ≡ ok c → finite_box c.head ≡ true → All (λ p. is_thin p ≡ false) c.polys → (b : Bool) → leb (length (obj_text c)) room ≡ b
      → Decided (cond b (done (length (obj_text c)) (obj_text c)) (refused 2 0))
  on_room c e f a true l = (c, e, f, (a, leb-true _ _ l, refl, refl))
  on_room c e f a false l = inr (inr (refl, refl, (c, e, f, (a, leb-false _ _ l))))

  on_thin : (c : Cell) → scan strip ≡ ok c → finite_box c.head ≡ true → (t : Option ℕ) → first_from is_thin 0 c.polys ≡ t → Decided (unless_thin t (with_room room (obj_text c)))
  on_thin c e f (Some k) g = inr (inl (refl, (c, e, f, (first_lowest is_thin k c.polys).0 g)))
  on_thin c e f None g = on_room c e f ((first_none is_thin c.polys).0 g) (leb (length (obj_text c)) room) refl

  on_cell_lem : (d : Scanned) → scan strip ≡ d → Decided (on_cell (on_box (λ c. drawn room c.head c.polys)) d)
  unfolding drawn
  on_cell_lem (fault number place) e = inl (inl ((scan_fault strip number place).0 e))
  on_cell_lem (ok c) e = by (finite_box c.head) refl
    where
      by : (b : Bool) → finite_box c.head ≡ b → Decided (cond b (drawn room c.head c.polys) (refused 10 0))
      by true f = on_thin c e f (first_from is_thin 0 c.polys) refl
      by false f = inl (inr (refl, refl, (c, e, f, tt)))

  pub decided : Decided (obj_outcome strip room)
  decided = on_cell_lem (scan strip) refl

  pub refused_named : (number place : ℕ) → obj_outcome strip room ≡ refused number place → Refusals number place
  refused_named number place e = rw e at decided

  pub done_named : (n : ℕ) (text : List ℕ) → obj_outcome strip room ≡ done n text → Fitting n text
  done_named n text e = rw e at decided

  pub refused_above_zero : {number place : ℕ} → obj_outcome strip room ≡ refused number place → 0 < number
  refused_above_zero {number} {place} e =
      ⊎_elim
      (⊎_elim Faults.refused_above_zero (λ ten. omega (arith, ten.0)))
      (⊎_elim (λ thin. omega (arith, thin.0)) (λ long. omega (arith, long.0)))
      (refused_named number place e)

  -- of the call, by its promise
  is_refused : (o : Outcome ℕ) (f : Refusal) → refusal_of f ≡ shown o → o ≡ refused (reason_number f.reason) f.place
  is_refused (refused number place) f e = cc
  is_refused (done n text) f e = let z : ◌≡◌ {A = ℕ} 0 1 = cc in absurd (omega arith)

  pub refuses : (r : Result ℕ Refusal) → paper r ≡ shown (obj_outcome strip room) → (f : Refusal) → r ≡ Err f → Refusals (reason_number f.reason) f.place
  refuses r promise f e = refused_named (reason_number f.reason) f.place (is_refused (obj_outcome strip room) f (sym (ap paper e) ∙ promise))

-- ---- room to lend: 14 bytes for each word of the strip

vec_words_lem : (ps : List NavPoly) → 4 * length ps + 3 * vertex_count ps ≤ length (each polygon_words ps)
unfolding each vertex_count polygon_words_as vec_words
vec_words_lem [] = omega arith
vec_words_lem (p ∷ ps) =
    let front = polygon_head_as plain p ∷ p.flags0 ∷ p.flags1 ∷ p.flags2 ∷ p.links in
    let vs = each vec_words p.vertices in
    omega (
      arith,
      length-append (polygon_words p) (each polygon_words ps),
      length-append (front ++ vs) (each edge_words p.edges),
      length-append front vs,
      length_each vec_words 3 (λ v. refl) p.vertices,
      vec_words_lem ps,
    )

pub room_enough : (strip : List ℕ) → length strip < 2 ^ 64 → (c : Cell) → scan strip ≡ ok c → length (obj_text c) ≤ obj_room (length strip)
room_enough strip few c e =
    let same : length (encode c) ≡ length strip = ap length ((scan_fits strip c).0 e).1 in
    let words = vec_words_lem c.polys in
    omega (arith, length_encode c, text_most 19 c.head c.polys (omega (arith, length_encode c, lit≤ {m = 2 ^ 64} {n = 10 ^ 20} tt)))

-- lent that much, 2 never comes
pub never_too_short : (strip : List ℕ) (room : ℕ) → length strip < 2 ^ 64 → obj_room (length strip) ≤ room → (place : ℕ) → obj_outcome strip room ≡ refused 2 place → ⊥
never_too_short strip room few lent place e =
    ⊎_elim
    (⊎_elim (λ three. omega (arith, Faults.refused_three three)) (λ ten. omega (arith, ten.0)))
    (⊎_elim (λ thin. omega (arith, thin.0)) (λ (two, nought, (c, f, b, (all, long))). omega (arith, room_enough strip few c f)))
    (refused_named strip room 2 place e)
