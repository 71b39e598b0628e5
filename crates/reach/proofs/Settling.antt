-- The loop of sweeps: a turn is a row of steps, and one that sees no more has settled the marks. Assumes nothing.
use Prim.Native.Nat.{ℕ, zero, suc, ◌+◌, ◌-◌, ◌*◌, ◌<◌, ◌≤◌}
use mathlib.Core.Path.{◌≡◌}
use mathlib.Core.Logic.{⊎_elim}
use mathlib.Core.List.{List}
use native.Mathlib.Omega.{arith}
use lib.ListN.{length, get_or}
use Rattle.strip.specs.Cell.{NavPortal}
use Rattle.strip.specs.Reading.{items_at}
use Rattle.strip.specs.Rows.{portals_at}
use Rattle.reach_marks.specs.Marks.{portal_pass, marked}
use Rattle.reach_marks.proofs.Adds.{portals_hit}
use Rattle.reach_marks.proofs.Kept.{Kept, unseen, kept_more, portals_kept, count_top, count_grows, count_same}
use Rattle.reach_walk.specs.Walk.{Worked, same, portal, Swept}
use Rattle.reach_walk.specs.declared.Ground.{Ground}
use Rattle.reach_walk.proofs.Work.{worked_kept, worked_more}
use Rattle.reach.specs.Settled.{Settled}

module _ (s : List ℕ) (g : Ground) where
  -- the portals in order, from the k-th on
  portals_from : (r k : ℕ) (m m' : List ℕ) → k + r ≤ g.portals → Worked s g m m' → Worked s g m (portal_pass g.own (portals_at s (g.portal_at + 11 * k) r) m')
  unfolding portal_pass items_at
  portals_from zero k m m' h w = w
  portals_from (suc r) k m m' h w =
      let at : g.portal_at + 11 * k + 11 ≡ g.portal_at + 11 * (k + 1) = omega arith in
      rw at (portals_from r (k + 1) m _ (omega arith) (portal w k (omega arith)))

  abbrev qs : List NavPortal
  qs = portals_at s g.portal_at g.portals

  portals_worked : (m : List ℕ) → Worked s g m (portal_pass g.own qs m)
  portals_worked m =
      let at : g.portal_at + 11 * 0 ≡ g.portal_at = omega arith in
      rw at at (portals_from g.portals 0 m m (omega arith) same)

  -- a turn, by what its calls ensure
  module _ (m₀ m m₁ m₂ : List ℕ) (count next : ℕ) (w : Worked s g m₀ m) (t : Swept s g m m₁) (f : m₂ ≡ portal_pass g.own qs m₁)
      (c : count ≡ marked m) (n : next ≡ marked m₂) where
    swept_kept : Kept m m₁
    swept_kept = worked_kept s g t.worked

    passed_kept : Kept m₁ m₂
    passed_kept = rw f (portals_kept g.own qs m₁)

    turn_kept : Kept m m₂
    turn_kept = kept_more swept_kept passed_kept

    pub turn_worked : Worked s g m₀ m₂
    turn_worked = worked_more s g w (worked_more s g t.worked (rw f (portals_worked m₁)))

    pub turn_less : (next ≡ count → ⊥) → length m₀ - next < length m₀ - count
    turn_less h =
        omega (arith, h, (worked_kept s g w).long, turn_kept.long, count_grows m m₂ turn_kept.long turn_kept.seen, count_top m₂)

    pub turn_last : next ≡ count → Settled s g m₀ m₂ count
    turn_last h =
        record {
          worked = turn_worked;
          done = λ k two.
              let first : 1 ≤ get_or m k 0 = before k (omega arith) in
              ⊎_elim (λ e. omega (arith, t.done k e)) (λ e. omega (arith, unseen swept_kept k e)) (passed_kept.two k two);
          crossed = λ i j l o b.
              rw f (portals_hit g.own qs m₁ i j l (swept_kept.seen i (before i o)) (omega (arith, passed_kept.long)));
          counted = omega arith;
        }
      where
        before : (k : ℕ) → 1 ≤ get_or m₂ k 0 → 1 ≤ get_or m k 0
        before = count_same m m₂ turn_kept.long turn_kept.seen (omega arith)
