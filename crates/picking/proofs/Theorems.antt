-- What the answers say. `pick_poly`: the lowest number of a polygon that contains the spot, or that none does, or 3 or 10 and no other refusal.
-- `spot_for_position`: the spot that a vertex there would have. Assumes nothing.
use Prim.Native.Nat.{ℕ, suc, ◌+◌, ◌≤◌, ◌<◌}
use mathlib.Core.Path.{◌≡◌, refl, ap, sym, ◌∙◌}
use mathlib.Core.Logic.{◌↔◌}
use mathlib.Core.Bool.{Bool, true, false, cond, false≢true}
use mathlib.Core.List.{List, [], ◌∷◌, ◌++◌}
use native.Mathlib.Omega.{arith}
use lib.ListN.{length}
use lib.Dec.{ltb}
use lib.Ieee.{Float, binary32, of_bits}
use borrow.Author.Tests.{ltb-true, ltb-false}
use Rattle.strip.specs.Reasons.{reason_number}
use Rattle.std.specs.Prelude.{Result, Ok, Err, Option, Some, None}
use Rattle.strip.specs.Cell.{Vec3, NavPoly, Head, Cell}
use Rattle.strip.specs.Fits.{All}
use Rattle.strip.specs.Box.{finite_box}
use Rattle.strip.specs.Scan.{ok, scan}
use Rattle.strip.specs.Outcome.{refusal, values, shown, paper}
use Rattle.strip.specs.declared.Refusal.{Refusal}
use Rattle.strip.proofs.Reasons.{same_refusal}
use Rattle.pick_contains.specs.declared.Spot.{Spot}
use Rattle.picking.specs.Picking.{spot_at, spot_of, contains, first_from, lowest, pick_outcome, spot_outcome}
use Rattle.picking.proofs.Sides.{few_vertices, far_right, far_above}
use Rattle.picking.specs.Answers.{OnCell, ThreeOrTen, Lowest}
use Rattle.picking.proofs.Checks.{says_value, says_refusal}

module _ (test : NavPoly → Bool) where
  -- counted from i on
  abbrev From : ℕ → Option ℕ → List NavPoly → Type 0
  From i (Some k) ps = (n : ℕ) × (k ≡ n + i) × Lowest test n ps
  From i None ps = All (λ p. test p ≡ false) ps

  later : (p : NavPoly) (i : ℕ) (f : Option ℕ) (ps : List NavPoly) → test p ≡ false → From (i + 1) f ps → From i f (p ∷ ps)
  later p i (Some k) ps e (n, g, l) = (
    suc n,
    omega arith,
    record {
      before = p ∷ l.before;
      polygon = l.polygon;
      following = l.following;
      all = ap (λ (x : List NavPoly). p ∷ x) l.all;
      number = ap suc l.number;
      passes = l.passes;
      none_before = (e, l.none_before);
    },
  )
  later p i None ps e l = (e, l)

  searched : (i : ℕ) (ps : List NavPoly) → From i (first_from test i ps) ps
  unfolding first_from
  searched i [] = tt
  searched i (p ∷ ps) = by (test p) refl (searched (i + 1) ps)
    where
      by : (t : Bool) → test p ≡ t → From (i + 1) (first_from test (i + 1) ps) ps → From i (cond t (Some i) (first_from test (i + 1) ps)) (p ∷ ps)
      by true e l =
          (0, omega arith, record { before = []; polygon = p; following = ps; all = refl; number = refl; passes = e; none_before = tt })
      by false e l = later p i (first_from test (i + 1) ps) ps e l

  -- and back
  passed_by : (i : ℕ) (before ps : List NavPoly) → All (λ p. test p ≡ false) before → first_from test i (before ++ ps) ≡ first_from test (length before + i) ps
  unfolding first_from
  passed_by i [] ps h = ap (λ (n : ℕ). first_from test n ps) (omega arith)
  passed_by i (p ∷ before) ps (e, h) = rw e (passed_by (i + 1) before ps h ∙ ap (λ (n : ℕ). first_from test n ps) (omega arith))

  pub first_lowest : (k : ℕ) (ps : List NavPoly) → (first_from test 0 ps ≡ Some k) ↔ Lowest test k ps
  unfolding first_from
  first_lowest k ps = (there, back)
    where
      there : first_from test 0 ps ≡ Some k → Lowest test k ps
      there e = let (n, g, l) = rw e at (searched 0 ps) in let z : n ≡ k = omega arith in rw z at l

      back : Lowest test k ps → first_from test 0 ps ≡ Some k
      back l = rw (l.all, passed_by 0 l.before (l.polygon ∷ l.following) l.none_before, l.passes) (ap Some (omega arith))

  pub first_none : (ps : List NavPoly) → (first_from test 0 ps ≡ None) ↔ All (λ p. test p ≡ false) ps
  unfolding first_from
  first_none ps = (λ e. rw e at (searched 0 ps), back 0 ps)
    where
      back : (i : ℕ) (ps : List NavPoly) → All (λ p. test p ≡ false) ps → first_from test i ps ≡ None
      back i [] h = refl
      back i (p ∷ ps) (e, h) = rw e (back (i + 1) ps h)

-- what is not below is from there on
unless : (a b : ℕ) → (a < b → ⊥) → b ≤ a
unless a b f = by (ltb a b) refl
  where
    by : (t : Bool) → ltb a b ≡ t → b ≤ a
    by true e = absurd (f (ltb-true a b e))
    by false e = ltb-false a b e

-- what is contained is contained in a polygon of 3 vertices or more, and lies before the far sides of the box
module _ (h : Head) (s : Spot) (p : NavPoly) (holds : contains h s p ≡ true) where
  three : 3 ≤ length p.vertices
  three = unless (length p.vertices) 3 (λ few. false≢true (sym (few_vertices h s p few) ∙ holds))

  near : (s.x < 65535) × (s.y < 65535)
  near = (
    omega (arith, unless 65534 s.x (λ far. false≢true (sym (far_right h s p (omega arith)) ∙ holds))),
    omega (arith, unless 65534 s.y (λ far. false≢true (sym (far_above h s p (omega arith)) ∙ holds))),
  )

-- an answer by what it says
module _ {A : Type 0} where
  is_answer : (r : Result A Refusal) (a : A) → paper r ≡ values a → r ≡ Ok a
  is_answer (Ok b) a h = let e : b ≡ a = cc in ap Ok e
  is_answer (Err f) a h = let z : ◌≡◌ {A = ℕ} 0 1 = cc in absurd (omega arith)

  is_refused : (r : Result A Refusal) (f : Refusal) → paper r ≡ refusal (reason_number f.reason) f.place → r ≡ Err f
  is_refused (Ok a) f h = let z : ◌≡◌ {A = ℕ} 0 1 = cc in absurd (omega arith)
  is_refused (Err g) f h = ap Err (same_refusal g f h)

module _ (strip : List ℕ) where
  module _ (s : Spot) where
    -- polygon k is the answer exactly when it contains the spot and none before it does
    pub lowest_contains : (k : ℕ) → (shown (pick_outcome strip s) ≡ values (Some k)) ↔ OnCell strip true (λ c. Lowest (contains c.head s) k c.polys)
    lowest_contains k = (
      λ h. let (c, e, b, g) = (says_value strip (lowest s) (Some k)).0 h in (c, e, b, (first_lowest (contains c.head s) k c.polys).0 g),
      λ (c, e, b, g). (says_value strip (lowest s) (Some k)).1 (c, e, b, (first_lowest (contains c.head s) k c.polys).1 g),
    )

    -- and none exactly when none does
    pub none_contains : (shown (pick_outcome strip s) ≡ values None) ↔ OnCell strip true (λ c. All (λ p. contains c.head s p ≡ false) c.polys)
    none_contains = (
      λ h. let (c, e, b, g) = (says_value strip (lowest s) None).0 h in (c, e, b, (first_none (contains c.head s) c.polys).0 g),
      λ (c, e, b, g). (says_value strip (lowest s) None).1 (c, e, b, (first_none (contains c.head s) c.polys).1 g),
    )

    -- of the call, by its promise: which of its answers comes when
    module _ (r : Result (Option ℕ) Refusal) (promise : paper r ≡ shown (pick_outcome strip s)) where
      pub picks : (k : ℕ) → (r ≡ Ok (Some k)) ↔ OnCell strip true (λ c. Lowest (contains c.head s) k c.polys)
      picks k = (λ e. (lowest_contains k).0 (sym promise ∙ ap paper e), λ o. is_answer r (Some k) (promise ∙ (lowest_contains k).1 o))

      pub picks_nothing : (r ≡ Ok None) ↔ OnCell strip true (λ c. All (λ p. contains c.head s p ≡ false) c.polys)
      picks_nothing = (λ e. none_contains.0 (sym promise ∙ ap paper e), λ o. is_answer r None (promise ∙ none_contains.1 o))

      pub picks_refused : (f : Refusal) → (r ≡ Err f) ↔ ThreeOrTen strip (reason_number f.reason) f.place
      picks_refused f = (
        λ e. (says_refusal strip (lowest s) (reason_number f.reason) f.place).0 (sym promise ∙ ap paper e),
        λ o. is_refused r f (promise ∙ (says_refusal strip (lowest s) (reason_number f.reason) f.place).1 o),
      )

      -- a polygon of fewer than 3 vertices is never the answer, nor is any polygon on the far sides of the box
      pub picks_three : (k : ℕ) → r ≡ Ok (Some k) → OnCell strip true (λ c. (l : Lowest (contains c.head s) k c.polys) × (3 ≤ length l.polygon.vertices))
      picks_three k e = let (c, f, b, l) = (picks k).0 e in (c, f, b, (l, three c.head s l.polygon l.passes))

      pub picks_near : (k : ℕ) → r ≡ Ok (Some k) → (s.x < 65535) × (s.y < 65535)
      picks_near k e = let (c, f, b, l) = (picks k).0 e in near c.head s l.polygon l.passes

  -- the other call: the spot is that of the position by the cell's box
  module _ (x y : Float) (r : Result Spot Refusal) (promise : paper r ≡ shown (spot_outcome strip x y)) where
    pub spots : (s : Spot) → (r ≡ Ok s) ↔ OnCell strip true (λ c. spot_at c.head x y ≡ s)
    spots s = (λ e. (says_value strip (λ c. spot_at c.head x y) s).0 (sym promise ∙ ap paper e), λ o. is_answer r s (promise ∙ (says_value strip (λ c. spot_at c.head x y) s).1 o))

    pub spots_refused : (f : Refusal) → (r ≡ Err f) ↔ ThreeOrTen strip (reason_number f.reason) f.place
    spots_refused f = (
      λ e. (says_refusal strip (λ c. spot_at c.head x y) (reason_number f.reason) f.place).0 (sym promise ∙ ap paper e),
      λ o. is_refused r f (promise ∙ (says_refusal strip (λ c. spot_at c.head x y) (reason_number f.reason) f.place).1 o),
    )

  -- and that is the one that a vertex there has
  pub vertex_spot : (v : Vec3) (c : Cell) → scan strip ≡ ok c → finite_box c.head ≡ true
      → shown (spot_outcome strip (of_bits binary32 v.x) (of_bits binary32 v.y)) ≡ values (spot_of c.head v)
  vertex_spot v c e b = rw (e, b)
