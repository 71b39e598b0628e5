-- What the answers say: 3, 42, 43 and no other refusal, each where it should be, and then no byte changes; otherwise a mark is 1 exactly where a chain of steps
-- leads. Chains compose; a start from which no step leads away counts 1; a cell whose id has more than 16 bits has no portal that serves. Assumes nothing.
use Prim.Native.Nat.{ℕ, zero, suc, ◌+◌, ◌%◌, ◌≤◌, ◌<◌}
use mathlib.Core.Path.{◌≡◌, refl, sym, ap, ◌∙◌}
use mathlib.Core.Bool.{Bool, true, false, cond}
use mathlib.Core.List.{List, [], ◌∷◌, ◌++◌}
use mathlib.Core.Logic.{inl, inr, ⊎_elim}
use native.Mathlib.Omega.{arith}
use native.Mathlib.Nat.{mod-lt}
use borrow.Author.Tests.{ltb-true, ltb-false, leb-true, leb-false, lt-ltb, le-ltb, lt-leb}
use lib.Dec.{ltb, leb}
use lib.ListN.{length, get_or, take, drop, get_or-append}
use lib.Seq.{take_at, drop_at}
use Rattle.strip.specs.Reasons.{reason_number}
use Rattle.std.specs.Prelude.{Result, Ok, Err}
use Rattle.strip.specs.Cell.{Cell, NavEdgeEnd}
use Rattle.strip.specs.Reading.{word, items_at, nav_portal_at}
use Rattle.strip.specs.Rows.{portals_at}
use Rattle.strip.specs.Laid.{cell_counts, first_portal}
use Rattle.strip.specs.Scan.{Scanned, ok, fault, scan}
use Rattle.strip.specs.Outcome.{Outcome, refused, done, shown, left, refusal_of, paper}
use Rattle.strip.specs.Check.{on_cell}
use Rattle.strip.specs.declared.Refusal.{Refusal}
use Rattle.strip.proofs.Laid.{well_cell, cell_is}
use Rattle.strip.proofs.Faults as Faults
use Rattle.strip.proofs.Faults.{scan_fault}
use Rattle.nobody.specs.Nobody.{cut}
use Rattle.nobody.proofs.Theorems.{somebody_below}
use Rattle.reach_marks.specs.Step.{HalfLeads, PortalLeads, Step, Reach}
use Rattle.reach_marks.specs.Marks.{marked}
use Rattle.reach.specs.Reached.{marks_of, reached, reach_outcome}
use Rattle.reach.specs.Answers.{total, OnCell, Refusals, Marks}
use Rattle.reach.proofs.Marks.{marks_length, marks_reach, marks_total}

-- ---- which refusals there are, and what is marked otherwise

module _ (strip : List ℕ) (start room : ℕ) where
  abbrev Accepted : ℕ → List ℕ → Type 0
  Accepted n marks = OnCell strip start room (λ c. (start < length c.polys) × (length c.polys ≤ room) × (n ≡ marked (marks_of c start)) × (marks ≡ marks_of c start))

  abbrev Decided : Outcome ℕ → Type 0
  Decided (refused number place) = Refusals strip start room number place
  Decided (done n marks) = Accepted n marks

  on_cell_lem : (c : Cell) → scan strip ≡ ok c → (b d : Bool) → ltb start (length c.polys) ≡ b → leb (length c.polys) room ≡ d
      → Decided (cond b (cond d (done (marked (marks_of c start)) (marks_of c start)) (refused 43 0)) (refused 42 0))
  on_cell_lem c e true true f g = (c, e, (ltb-true _ _ f, leb-true _ _ g, refl, refl))
  on_cell_lem c e true false f g = inr (inr (refl, refl, (c, e, (ltb-true _ _ f, leb-false _ _ g))))
  on_cell_lem c e false d f g = inr (inl (refl, refl, (c, e, ltb-false _ _ f)))

  on_scan : (d : Scanned) → scan strip ≡ d → Decided (on_cell (reached start room) d)
  unfolding reached
  on_scan (fault number place) e = inl ((scan_fault strip number place).0 e)
  on_scan (ok c) e = on_cell_lem c e (ltb start (length c.polys)) (leb (length c.polys) room) refl refl

  decided : Decided (reach_outcome strip start room)
  decided = on_scan (scan strip) refl

  pub refused_named : (number place : ℕ) → reach_outcome strip start room ≡ refused number place → Refusals strip start room number place
  refused_named number place e = rw e at decided

  -- and back: each of the three is given where it should be
  pub refused_where : (number place : ℕ) → Refusals strip start room number place → reach_outcome strip start room ≡ refused number place
  unfolding reached
  refused_where number place (inl r) = rw ((scan_fault strip number place).1 r)
  refused_where number place (inr (inl (n, p, (c, e, h)))) = rw (e, n, p, le-ltb start (length c.polys) h)
  refused_where number place (inr (inr (n, p, (c, e, (h, k))))) = rw (e, n, p, lt-ltb start (length c.polys) h, lt-leb (length c.polys) room k)

  pub refused_above_zero : {number place : ℕ} → reach_outcome strip start room ≡ refused number place → 0 < number
  refused_above_zero {number} {place} e =
      ⊎_elim Faults.refused_above_zero (⊎_elim (λ r. omega (arith, r.0)) (λ r. omega (arith, r.0))) (refused_named number place e)

  -- of the call, by its promises
  is_refused : (o : Outcome ℕ) (f : Refusal) → refusal_of f ≡ shown o → o ≡ refused (reason_number f.reason) f.place
  is_refused (refused number place) f e = cc
  is_refused (done n marks) f e = let z : ◌≡◌ {A = ℕ} 0 1 = cc in absurd (omega arith)

  module _ (r : Result ℕ Refusal) (before after : List ℕ) (answered : paper r ≡ shown (reach_outcome strip start room)) (changed : after ≡ left (reach_outcome strip start room) before) where
    pub refuses : (f : Refusal) → r ≡ Err f → Refusals strip start room (reason_number f.reason) f.place × (after ≡ before)
    refuses f e =
        let o = is_refused (reach_outcome strip start room) f (sym (ap paper e) ∙ answered) in
        (refused_named (reason_number f.reason) f.place o, changed ∙ ap (λ (x : Outcome ℕ). left x before) o)

    on_marks : (n : ℕ) (o : Outcome ℕ) → paper (Ok n) ≡ shown o → Decided o → after ≡ left o before → OnCell strip start room (Marks strip start room before after n)
    on_marks n (refused number place) e d l = let z : ◌≡◌ {A = ℕ} 0 1 = cc in absurd (omega arith)
    on_marks n (done k marks) e (c, s, (h, w, g, i)) l =
        let same : k ≡ n = cc in
        let long = marks_length c start h in
        let all : after ≡ marks_of c start ++ drop (length c.polys) before = l ∙ ap (λ (x : List ℕ). x ++ drop (length x) before) i ∙ ap (λ x. marks_of c start ++ drop x before) long in (
          c,
          s,
          record {
            some = h;
            room_enough = w;
            each = λ j b. rw (ap (λ (x : List ℕ). get_or x j 0) all ∙ get_or-append (marks_of c start) _ 0 j (omega (arith, long))) (marks_reach c start h j);
            behind = ap (drop (length c.polys)) all ∙ drop_at (marks_of c start) _ (length c.polys) long;
            counted = sym same ∙ g ∙ marks_total c start h ∙ ap total (sym (ap (take (length c.polys)) all ∙ take_at (marks_of c start) _ (length c.polys) long));
          },
        )

    pub marks : (n : ℕ) → r ≡ Ok n → OnCell strip start room (Marks strip start room before after n)
    marks n e = on_marks n (reach_outcome strip start room) (sym (ap paper e) ∙ answered) decided changed

-- ---- chains of steps

-- chains compose
pub reach_on : {c : Cell} {a b d : ℕ} → Reach c a b → Reach c b d → Reach c a d
reach_on r Reach.start = r
reach_on r (Reach.step s t) = Reach.step (reach_on r s) t

-- the start counts, and a start from which no step leads away counts alone
module _ (c : Cell) (start : ℕ) (h : start < length c.polys) where
  pub start_marked : get_or (marks_of c start) start 0 ≡ 1
  start_marked = ⊎_elim (λ w. w.0) (λ w. absurd (w.1 Reach.start)) (marks_reach c start h start)

  module _ (stays : (j : ℕ) → Step c start j → j ≡ start) where
    only_start : {i : ℕ} → Reach c start i → i ≡ start
    only_start Reach.start = refl
    only_start (Reach.step {j = j} r s) = stays j (rw (only_start r) at s)

    none_marked : (i : ℕ) → (i ≡ start → ⊥) → get_or (marks_of c start) i 0 ≡ 0
    none_marked i n = ⊎_elim (λ w. absurd (n (only_start w.1))) (λ w. w.0) (marks_reach c start h i)

    one_mark : (m : List ℕ) (k : ℕ) → k < length m → get_or m k 0 ≡ 1 → ((i : ℕ) → (i ≡ k → ⊥) → get_or m i 0 ≡ 0) → total m ≡ 1
    unfolding total
    one_mark [] k l one none = absurd (omega arith)
    one_mark (a ∷ m) zero l one none = omega (arith, no_mark m (λ i. none (suc i) (λ e. omega arith)))
      where
        no_mark : (m : List ℕ) → ((i : ℕ) → get_or m i 0 ≡ 0) → total m ≡ 0
        no_mark [] z = refl
        no_mark (b ∷ m) z = omega (arith, z 0, no_mark m (λ i. z (suc i)))
    one_mark (a ∷ m) (suc k) l one none =
        omega (arith, none 0 (λ e. omega arith), one_mark m k (omega arith) one (λ i n. none (suc i) (λ e. n (omega arith))))

    pub start_alone : marked (marks_of c start) ≡ 1
    start_alone = marks_total c start h ∙ one_mark (marks_of c start) start (omega (arith, marks_length c start h)) start_marked none_marked

-- of the call
module _ (strip : List ℕ) (start room : ℕ) (r : Result ℕ Refusal) (answered : paper r ≡ shown (reach_outcome strip start room))
    (stays : (c : Cell) → scan strip ≡ ok c → (j : ℕ) → Step c start j → j ≡ start) where
  alone_on : (n : ℕ) (o : Outcome ℕ) → paper (Ok n) ≡ shown o → Decided strip start room o → n ≡ 1
  alone_on n (refused number place) e d = let z : ◌≡◌ {A = ℕ} 0 1 = cc in absurd (omega arith)
  alone_on n (done k marks) e (c, s, (h, w, g, i)) = let same : k ≡ n = cc in sym same ∙ g ∙ start_alone c start h (stays c s)

  pub alone_told : (n : ℕ) → r ≡ Ok n → n ≡ 1
  alone_told n e = alone_on n (reach_outcome strip start room) (sym (ap paper e) ∙ answered) (decided strip start room)

-- ---- steps that there are not

-- "poly, cut to 14 bits, is below 16383": the number for none is no polygon, whatever the cell's id
pub none_leads : (own j : ℕ) (half : NavEdgeEnd) → half.poly % 16384 ≡ 16383 → HalfLeads own half j → ⊥
unfolding cut
none_leads own j half e l = omega (arith, e, somebody_below half.poly l.some)

-- "areas, 16 bits as in the strip": a cell whose id has more of them has no portal that serves
portals_small : (s : List ℕ) (own n at i j : ℕ) → 65536 ≤ own → PortalLeads own (portals_at s at n) i j → ⊥
unfolding items_at nav_portal_at
portals_small s own zero at i j h l = elim l [ ]
portals_small s own (suc n) at i j h (PortalLeads.here f t) = omega (arith, mod-lt (word s (at + 9)) {m = 65536} (omega arith))
portals_small s own (suc n) at i j h (PortalLeads.later l) = portals_small s own n (at + 11) i j h l

pub wide_id : (s : List ℕ) (c : Cell) → scan s ≡ ok c → 65536 ≤ c.head.area → (i j : ℕ) → PortalLeads c.head.area c.portals i j → ⊥
wide_id s c e h i j l =
    let same = cell_is s (well_cell s c e (cell_counts c) refl) c e in
    portals_small s c.head.area (cell_counts c).portals (first_portal s (cell_counts c)) i j h (rw (ap (λ (x : Cell). x.portals) same) at l)
