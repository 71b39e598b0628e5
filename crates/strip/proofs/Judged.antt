-- What is known of a record that is judged good, and the law by which the records from a position on are one record and the rest.
-- Assumes nothing.
use Prim.Native.Nat.{ℕ, zero, suc, ◌+◌, ◌-◌, ◌^◌, ◌≤◌, ◌<◌}
use mathlib.Core.Path.{◌≡◌, refl, ap, ◌∙◌}
use mathlib.Core.Bool.{Bool, true, false, ◌&&◌}
use mathlib.Core.List.{List}
use native.Mathlib.Omega.{arith}
use native.Mathlib.Nat.{zero-add, add-zero}
use lib.ListN.{length}
use lib.Dec.{ltb, leb}
use borrow.Author.Tests.{ltb-true, leb-true, leb-false}
use Rattle.fields.specs.Rows.{field}
use Rattle.std.specs.Prelude.{Result, Ok, Err}
use Rattle.strip.specs.Cell.{Head, NavPoly, NavPortal, NavPoint}
use Rattle.strip.specs.Reading.{word, poly_at, polygon_at, nav_portal_at, point_at, head_at}
use Rattle.strip.specs.Scan.{Rest, check, kind_of, polygon_rank, cell_rank, portal_rank, point_rank, first_good, poly_fits, portal_fits, cell_record, polygon_record, portal_record, point_record, end_record, record_of, record_at, on_record, with_polygon, with_portal, with_point, rest_from, rest_at, with_head, scan}
use Rattle.strip.specs.Faults.{Place, here, short, more, next_of}
use Rattle.strip.specs.Outcome.{Paper, refusal, values, shown}
use Rattle.strip.specs.Check.{on_cell}
use Rattle.strip.specs.Checked.{counts_of, strip_outcome}
use Rattle.strip.specs.declared.Counts.{Counts}
use Rattle.strip.specs.declared.Poly.{Poly}
use Rattle.strip.specs.declared.Record.{Record}
use Rattle.strip.specs.declared.Record.TheVariants.{Cell as IsCell, Polygon as IsPolygon, Portal as IsPortal, Point as IsPoint, End as IsEnd}

-- both tests of a pair
pub both : (a b : Bool) → (a && b) ≡ true → (a ≡ true) × (b ≡ true)
both true b e = (refl, e)
both false b e = (cc, cc)

-- a good first word
pub record First (low high limit rank w : ℕ) : Type 0 where
  pub from : low ≤ rank
  pub to : rank ≤ high
  pub bits : field 0 28 w < limit

first : (low high limit rank w : ℕ) → first_good low high limit rank w ≡ true → First low high limit rank w
unfolding first_good
first low high limit rank w e =
    let a = both (leb low rank) (leb rank high && ltb (field 0 28 w) limit) e in
    let b = both (leb rank high) (ltb (field 0 28 w) limit) a.1 in
    record { from = leb-true low rank a.0; to = leb-true rank high b.0; bits = ltb-true (field 0 28 w) limit b.1 }

-- all that is known of a record
pub data Judged (s : List ℕ) (at rank : ℕ) : Result Record ℕ → Type 0 where
  cell : kind_of (word s at) ≡ 1 → First 0 0 1 rank (word s at) → at + 14 ≤ length s → Judged s at rank (Ok IsCell)
  polygon : kind_of (word s at) ≡ 2 → First polygon_rank cell_rank (2 ^ 28) rank (word s at) → (poly_at s at).next ≤ length s → poly_fits s (poly_at s at) ≡ true
      → Judged s at rank (Ok (IsPolygon (poly_at s at)))
  portal : kind_of (word s at) ≡ 3 → First polygon_rank portal_rank (2 ^ 16) rank (word s at) → at + 11 ≤ length s → portal_fits s at ≡ true → Judged s at rank (Ok IsPortal)
  point : kind_of (word s at) ≡ 4 → First polygon_rank point_rank (2 ^ 16) rank (word s at) → at + 4 ≤ length s → Judged s at rank (Ok IsPoint)
  end : kind_of (word s at) ≡ 5 → First polygon_rank point_rank 1 rank (word s at) → at < length s → length s ≤ at + 1 → Judged s at rank (Ok IsEnd)
  bad : {place : ℕ} → Place s at place → Judged s at rank (Err place)

module _ (s : List ℕ) (at rank : ℕ) where
  -- a record that passes three tests
  judged_by : at < length s → (a b c : Bool) {r : Record} → (a ≡ true → b ≡ true → c ≡ true → Judged s at rank (Ok r))
      → Judged s at rank (check a at (check b (length s) (check c at (Ok r))))
  judged_by h true true true k = k refl refl refl
  judged_by h true true false k = bad (here h)
  judged_by h true false c k = bad short
  judged_by h false b c k = bad (here h)

  judged_end : at < length s → kind_of (word s at) ≡ 5 → (a b : Bool) → first_good polygon_rank point_rank 1 rank (word s at) ≡ a → leb (length s) (at + 1) ≡ b
      → Judged s at rank (check a at (check b (at + 1) (Ok IsEnd)))
  judged_end h e true true f r = end e (first _ _ _ _ _ f) h (leb-true _ _ r)
  judged_end h e true false f r = bad (more e (leb-false _ _ r))
  judged_end h e false b f r = bad (here h)

  judged_kind : at < length s → (k : ℕ) → kind_of (word s at) ≡ k → Judged s at rank (record_of k s at rank)
  unfolding record_of cell_record polygon_record portal_record point_record end_record
  judged_kind h zero e = bad (here h)
  judged_kind h (suc zero) e = judged_by h _ _ true (λ f r t. cell e (first _ _ _ _ _ f) (leb-true _ _ r))
  judged_kind h (suc (suc zero)) e = judged_by h _ _ _ (λ f r t. polygon e (first _ _ _ _ _ f) (leb-true _ _ r) t)
  judged_kind h (suc (suc (suc zero))) e = judged_by h _ _ _ (λ f r t. portal e (first _ _ _ _ _ f) (leb-true _ _ r) t)
  judged_kind h (suc (suc (suc (suc zero)))) e = judged_by h _ _ true (λ f r t. point e (first _ _ _ _ _ f) (leb-true _ _ r))
  judged_kind h (suc (suc (suc (suc (suc zero))))) e = judged_end h e _ _ refl refl
  judged_kind h (suc (suc (suc (suc (suc (suc k)))))) e = bad (here h)

  judged_here : (a : Bool) → ltb at (length s) ≡ a → Judged s at rank (check a (length s) (record_of (kind_of (word s at)) s at rank))
  judged_here true e = judged_kind (ltb-true _ _ e) _ refl
  judged_here false e = bad short

  pub judged : Judged s at rank (record_at s at rank)
  unfolding record_at
  judged = judged_here _ refl

-- a polygon has four words or more
pub poly_next : (s : List ℕ) (at : ℕ) → at + 4 ≤ (poly_at s at).next
unfolding poly_at
poly_next s at = omega arith

-- the rest after a record depends on the positions after it alone
same : (s : List ℕ) (at rank : ℕ) (f g : ℕ → ℕ → Rest) → ((n l : ℕ) → at < n → at < length s → f n l ≡ g n l)
    → {r : Result Record ℕ} → Judged s at rank r → on_record r f s at ≡ on_record r g s at
same s at rank f g h (cell k o r) = h (at + 14) cell_rank (omega arith) (omega arith)
same s at rank f g h (polygon k o r t) = ap (with_polygon (polygon_at s at)) (h (poly_at s at).next polygon_rank (omega (arith, poly_next s at)) (omega (arith, poly_next s at)))
same s at rank f g h (portal k o r t) = ap (with_portal (nav_portal_at s at)) (h (at + 11) portal_rank (omega arith) (omega arith))
same s at rank f g h (point k o r) = ap (with_point (point_at s at)) (h (at + 4) point_rank (omega arith) (omega arith))
same s at rank f g h (end k o r t) = refl
same s at rank f g h (bad place) = refl

enough : (t u : ℕ) (s : List ℕ) (at rank : ℕ) → length s - at < t → length s - at < u → rest_from t s at rank ≡ rest_from u s at rank
unfolding rest_from
enough zero u s at rank h k = absurd (omega arith)
enough (suc t) zero s at rank h k = absurd (omega arith)
enough (suc t) (suc u) s at rank h k =
    same s at rank (rest_from t s) (rest_from u s) (λ n l a b. enough t u s n l (omega arith) (omega arith)) (judged s at rank)

-- one record, and the rest
pub rest_step : (s : List ℕ) (at rank : ℕ) → rest_at s at rank ≡ on_record (record_at s at rank) (rest_at s) s at
unfolding rest_at rest_from
rest_step s at rank =
    same s at rank (rest_from (length s - at) s) (λ n l. rest_from (suc (length s - n)) s n l)
    (λ n l a b. enough (length s - at) (suc (length s - n)) s n l (omega arith) (omega arith))
    (judged s at rank)

-- a good record has a word or more, and is all there
ends : (s : List ℕ) (at rank : ℕ) {r : Record} → Judged s at rank (Ok r) → (at < next_of at r) × (next_of at r ≤ length s)
ends s at rank (cell k o r) = omega arith
ends s at rank (polygon k o r t) = omega (arith, poly_next s at)
ends s at rank (portal k o r t) = omega arith
ends s at rank (point k o r) = omega arith
ends s at rank (end k o r t) = omega arith

pub moves : (s : List ℕ) (at rank : ℕ) (r : Record) → record_at s at rank ≡ Ok r → (at < next_of at r) × (next_of at r ≤ length s)
moves s at rank r e = ends s at rank (rw e at (judged s at rank))

-- what `check_strip` says of the counts so far and of the rest
abbrev pub tally : ℕ → ℕ → ℕ → Rest → Paper Counts
tally a b c (Rest.good ps qs ts) = values (record { polys = a + length ps; portals = b + length qs; points = c + length ts })
tally a b c (Rest.bad place) = refusal 3 place

tally_head : (h : Head) (r : Rest) → shown (on_cell counts_of (with_head h r)) ≡ tally 0 0 0 r
tally_head h (Rest.good ps qs ts) = simp zero-add
tally_head h (Rest.bad place) = refl

module _ (a b c : ℕ) where
  tally_polygon : (p : NavPoly) (r : Rest) → tally a b c (with_polygon p r) ≡ tally (a + 1) b c r
  tally_polygon p (Rest.good ps qs ts) = let e : a + suc (length ps) ≡ a + 1 + length ps = omega arith in rw e
  tally_polygon p (Rest.bad place) = refl

  tally_portal : (q : NavPortal) (r : Rest) → tally a b c (with_portal q r) ≡ tally a (b + 1) c r
  tally_portal q (Rest.good ps qs ts) = let e : b + suc (length qs) ≡ b + 1 + length qs = omega arith in rw e
  tally_portal q (Rest.bad place) = refl

  tally_point : (t : NavPoint) (r : Rest) → tally a b c (with_point t r) ≡ tally a b (c + 1) r
  tally_point t (Rest.good ps qs ts) = let e : c + suc (length ts) ≡ c + 1 + length ts = omega arith in rw e
  tally_point t (Rest.bad place) = refl

-- what the loop of `check_strip` knows when it has come to a position: its answer is that of the counts so far and of the rest
pub record Passed (s : List ℕ) (polys portals points at rank : ℕ) : Type 0 where
  pub inside : at ≤ length s
  pub few : polys + portals + points ≤ at
  pub answer : shown (strip_outcome s) ≡ tally polys portals points (rest_at s at rank)

pub passed_none : (s : List ℕ) → Passed s 0 0 0 0 0
unfolding scan
passed_none s = record { inside = omega arith; few = omega arith; answer = tally_head (head_at s 0) (rest_at s 0 0) }

-- a turn of it
module _ (s : List ℕ) (a b c at rank : ℕ) (h : Passed s a b c at rank) where
  turn_on : (r : Result Record ℕ) → record_at s at rank ≡ r → shown (strip_outcome s) ≡ tally a b c (on_record r (rest_at s) s at)
  turn_on r e = h.answer ∙ ap (tally a b c) (rest_step s at rank ∙ ap (λ (x : Result Record ℕ). on_record x (rest_at s) s at) e)

  pub passed_cell : record_at s at rank ≡ Ok IsCell → Passed s a b c (at + 14) cell_rank
  passed_cell e =
      let m = moves s at rank IsCell e in
      record { inside = m.1; few = omega arith; answer = turn_on (Ok IsCell) e }

  pub passed_polygon : (p : Poly) → record_at s at rank ≡ Ok (IsPolygon p) → Passed s (a + 1) b c p.next polygon_rank
  passed_polygon p e =
      let m = moves s at rank (IsPolygon p) e in
      record { inside = m.1; few = omega arith; answer = turn_on (Ok (IsPolygon p)) e ∙ tally_polygon a b c (polygon_at s at) (rest_at s p.next polygon_rank) }

  pub passed_portal : record_at s at rank ≡ Ok IsPortal → Passed s a (b + 1) c (at + 11) portal_rank
  passed_portal e =
      let m = moves s at rank IsPortal e in
      record { inside = m.1; few = omega arith; answer = turn_on (Ok IsPortal) e ∙ tally_portal a b c (nav_portal_at s at) (rest_at s (at + 11) portal_rank) }

  pub passed_point : record_at s at rank ≡ Ok IsPoint → Passed s a b (c + 1) (at + 4) point_rank
  passed_point e =
      let m = moves s at rank IsPoint e in
      record { inside = m.1; few = omega arith; answer = turn_on (Ok IsPoint) e ∙ tally_point a b c (point_at s at) (rest_at s (at + 4) point_rank) }

  pub passed_end : record_at s at rank ≡ Ok IsEnd → shown (strip_outcome s) ≡ values (record { polys = a; portals = b; points = c })
  passed_end e = turn_on (Ok IsEnd) e ∙ simp add-zero

  pub passed_bad : (place : ℕ) → record_at s at rank ≡ Err place → shown (strip_outcome s) ≡ refusal 3 place
  passed_bad place e = turn_on (Err place) e
