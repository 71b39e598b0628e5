-- One step of the walk, as the code takes it.
use Prim.Native.Nat.{ℕ, zero, suc, ◌+◌, ◌-◌, ◌*◌, ◌≤◌, ◌<◌}
use native.Mathlib.Numerals.{sub-one}
use native.Mathlib.Nat.{add_assoc, add-zero, le_refl}
use native.Mathlib.Omega.{arith}
use mathlib.Core.Path.{◌≡◌, refl, sym, ◌∙◌}
use mathlib.Core.Bool.{Bool, true, false}
use mathlib.Core.List.{List, [], ◌∷◌, ◌++◌, append-nil}
use lib.ListN.{length, length-append}
use Rattle.std.specs.Prelude.{Result, Ok, Err}
use Rattle.strip.specs.declared.Reason.{Reason}
use Rattle.strip.specs.Reasons.{reason_number}
use Rattle.strip.specs.declared.Reason.TheVariants.{ManySectors, BadSector}
use Rattle.fields.specs.Bytes.{le_at}
use Rattle.resource.specs.Section.{good, resolved}
use Rattle.resource.proofs.Parts.{short_bad, full_good}
use Rattle.strip.specs.Outcome.{Paper, refusal, values}
use Rattle.read_grammar.specs.Trees.{keep, subs_to}
use Rattle.read_sectors.specs.declared.Walk.{Walk}
use Rattle.read_sectors.specs.Sector.{points_of, good_data}
use Rattle.read_sectors.specs.Walk.{Walked, also, checked, sector_at, walk}
use Rattle.read_sectors.specs.Walk.Walked.{done, refused}
use Rattle.read_sectors.specs.Answer.{reason_paper, walk_answer, WalkCounted, Within, found_of}
use Rattle.read_sectors.proofs.Exact.{onward, walk_append, walk_none, never}

counted_also : (p : ℕ) (ps : List (List ℕ)) (w : Walked) → walk_answer p (also ps w) ≡ walk_answer (p + length ps) w
counted_also p ps (done l qs) = rw (length-append, add_assoc)
counted_also p ps (refused e) = refl

subs_step : (s : List ℕ) (i : ℕ) → (i ≡ 0 → ⊥) → subs_to s i ≡ keep (le_at 8 s (0x34 + 8 * (i - 1))) (subs_to s (i - 1))
unfolding subs_to
subs_step s zero h = absurd (h refl)
subs_step s (suc i) h = rw sub-one

keep_more : (a : ℕ) (t : List ℕ) → (a ≡ 0 → ⊥) → keep a t ≡ a ∷ t
keep_more zero t h = absurd (h refl)
keep_more (suc a) t h = refl

-- the first i subs, where the last of them is at va
pub subs_skip : (s : List ℕ) (i : ℕ) {va : ℕ} → (i ≡ 0 → ⊥) → va ≡ le_at 8 s (0x34 + 8 * (i - 1)) → va ≡ 0 → subs_to s i ≡ subs_to s (i - 1)
subs_skip s i h e z = rw (subs_step s i h, ← e, z)

pub subs_at : (s : List ℕ) (i : ℕ) {va : ℕ} → (i ≡ 0 → ⊥) → va ≡ le_at 8 s (0x34 + 8 * (i - 1)) → (va ≡ 0 → ⊥) → subs_to s i ≡ va ∷ subs_to s (i - 1)
subs_at s i {va} h e z = rw (subs_step s i h, ← e) (keep_more va (subs_to s (i - 1)) z)

found_bad : (b : Bool) (ps : List (List ℕ)) {n : ℕ} → refusal n 0 ≡ found_of b ps → (b ≡ false) × (n ≡ 34)
found_bad true ps e = (cc, cc)
found_bad false ps e = (refl, cc)

found_good : (b : Bool) (ps : List (List ℕ)) {n : ℕ} → values n ≡ found_of b ps → (b ≡ true) × (length ps ≡ n)
found_good true ps e = (refl, cc)
found_good false ps e = (cc, cc)

within_more : (from on : Walk) (r : Result Walk Reason) → on.left ≤ from.left → on.points + 65535 * on.left ≤ from.points + 65535 * from.left → Within on r → Within from r
within_more from on (Ok to) g h w = omega arith
within_more from on (Err e) g h w = tt

module _ (system graphics : List ℕ) where
  -- the walk goes on over t from what was said so far
  abbrev resume : Paper Walk → List ℕ → Paper Walk
  resume (values to) t = walk_answer to.points (walk system graphics to.left t)
  resume (refusal number place) t = refusal number place

  counted_onward : (p : ℕ) (w : Walked) (t : List ℕ) → walk_answer p (onward system graphics w t) ≡ resume (walk_answer p w) t
  counted_onward p (done l ps) t = counted_also p ps (walk system graphics l t)
  counted_onward p (refused e) t = refl

  counted_append : (p f : ℕ) (s t : List ℕ) → walk_answer p (walk system graphics f (s ++ t)) ≡ resume (walk_answer p (walk system graphics f s)) t
  counted_append p f s t = rw walk_append (counted_onward p (walk system graphics f s) t)

  pub too_many : (va : ℕ) (from : Walk) → from.left ≡ 0 → WalkCounted (walk system graphics from.left (va ∷ [])) from (Err ManySectors)
  unfolding walk
  too_many va from z = record { is = rw z; within = tt }

  -- an accepted walk over a sector has a visit for it
  pub too_few : (left va : ℕ) {l : ℕ} {ps : List (List ℕ)} → walk system graphics left (va ∷ []) ≡ done l ps → left ≡ 0 → ⊥
  unfolding walk
  too_few left va e z = never (rw z at e)

  pub walk_step : (f va : ℕ) (t : List ℕ) → (f ≡ 0 → ⊥)
      → walk system graphics f (va ∷ t) ≡ checked (good system graphics va 96) (good_data system graphics (sector_at system graphics va))
      (also (points_of system graphics (sector_at system graphics va)) (walk system graphics (f - 1) (subs_to (sector_at system graphics va) 4 ++ t)))
  unfolding walk
  walk_step zero va t h = absurd (h refl)
  walk_step (suc f) va t h = rw sub-one

  module _ (va : ℕ) (from : Walk) (some : from.left ≡ 0 → ⊥) {s : List ℕ} (es : s ≡ resolved system graphics va 96) where
    pub bad_sector : length s < 96 → WalkCounted (walk system graphics from.left (va ∷ [])) from (Err BadSector)
    bad_sector h = record { is = rw (walk_step from.left va [] some, short_bad system graphics va 96 (rw es at h)); within = tt }

    module _ (long : 96 ≤ length s) where
      pub bad_data : {e : Reason} → refusal (reason_number e) 0 ≡ found_of (good_data system graphics s) (points_of system graphics s)
          → WalkCounted (walk system graphics from.left (va ∷ [])) from (Err e)
      unfolding sector_at
      bad_data h =
          let (f, n) = found_bad (good_data system graphics s) (points_of system graphics s) h in
          record { is = rw (n, walk_step from.left va [] some, full_good system graphics va 96 (omega arith) (rw es at long), ← es, f); within = tt }

      pub into : {n : ℕ} {r : Result Walk Reason} → values n ≡ found_of (good_data system graphics s) (points_of system graphics s) → n ≤ 65535
          → (let on : Walk = record { left = from.left - 1; points = from.points + n } in WalkCounted (walk system graphics on.left (subs_to s 4)) on r)
          → WalkCounted (walk system graphics from.left (va ∷ [])) from r
      unfolding sector_at
      into {n} {r} h few k =
          let (f, g) = found_good (good_data system graphics s) (points_of system graphics s) h in
          record {
            is = rw (walk_step from.left va [] some, full_good system graphics va 96 (omega arith) (rw es at long), ← es, f, append-nil, counted_also, g) k.is;
            within = within_more from (record { left = from.left - 1; points = from.points + n }) r (omega arith) (omega arith) k.within;
          }

  module _ (s : List ℕ) (i : ℕ) (at : Walk) where
    pub no_subs : i ≡ 0 → WalkCounted (walk system graphics at.left (subs_to s i)) at (Ok at)
    unfolding subs_to
    no_subs z = record { is = rw (z, walk_none, add-zero); within = (le_refl _, le_refl _) }

    module _ (some : i ≡ 0 → ⊥) {va : ℕ} (ev : va ≡ le_at 8 s (0x34 + 8 * (i - 1))) where
      pub skip : {r : Result Walk Reason} → va ≡ 0 → WalkCounted (walk system graphics at.left (subs_to s (i - 1))) at r → WalkCounted (walk system graphics at.left (subs_to s i)) at r
      skip z k = rw (subs_skip s i some ev z) k

      module _ (there : va ≡ 0 → ⊥) where
        -- the whole walk goes on from the answer on va
        from_va : {v : Result Walk Reason} → WalkCounted (walk system graphics at.left (va ∷ [])) at v
            → walk_answer at.points (walk system graphics at.left (subs_to s i)) ≡ resume (reason_paper v) (subs_to s (i - 1))
        from_va k = rw (subs_at s i some ev there, k.is) (counted_append at.points at.left (va ∷ []) (subs_to s (i - 1)))

        pub stop : {e : Reason} → WalkCounted (walk system graphics at.left (va ∷ [])) at (Err e) → WalkCounted (walk system graphics at.left (subs_to s i)) at (Err e)
        stop k = record { is = sym (from_va k); within = tt }

        pub next : {to : Walk} {r : Result Walk Reason} → WalkCounted (walk system graphics at.left (va ∷ [])) at (Ok to) → WalkCounted (walk system graphics to.left (subs_to s (i - 1))) to r
            → WalkCounted (walk system graphics at.left (subs_to s i)) at r
        next {to} {r} k n = record { is = n.is ∙ sym (from_va k); within = within_more at to r k.within.0 k.within.1 n.within }

  -- what holds at the head of the loop over the subs: i of them are left, and whatever walks them from here on walks the whole
  pub record Turn (s : List ℕ) (start at : Walk) (i : ℕ) : Type 0 where
    pub few : i ≤ 4
    pub spent : at.left ≤ start.left
    pub within : at.points + 65535 * at.left ≤ start.points + 65535 * start.left
    pub goes_on : (r : Result Walk Reason) → WalkCounted (walk system graphics at.left (subs_to s i)) at r → WalkCounted (walk system graphics start.left (subs_to s 4)) start r

  pub turn_end : {s : List ℕ} {start at : Walk} {i : ℕ} → Turn s start at i → i ≤ 0 → WalkCounted (walk system graphics start.left (subs_to s 4)) start (Ok at)
  turn_end {s} {at = at} {i = i} k h = k.goes_on _ (no_subs s i at (omega arith))

  module _ {s : List ℕ} {start at : Walk} {i : ℕ} (k : Turn s start at i) (some : 0 < i) {va : ℕ} (ev : va ≡ le_at 8 s (0x34 + 8 * (i - 1))) where
    none : i ≡ 0 → ⊥
    none z = omega arith

    pub turn_skip : va ≡ 0 → Turn s start at (i - 1)
    turn_skip z =
        let f = k.few in
        record { few = omega arith; spent = k.spent; within = k.within; goes_on = λ r w. k.goes_on r (skip s i at none ev z w) }

    module _ (there : va ≡ 0 → ⊥) where
      pub turn_stop : {e : Reason} → WalkCounted (walk system graphics at.left (va ∷ [])) at (Err e) → WalkCounted (walk system graphics start.left (subs_to s 4)) start (Err e)
      turn_stop c = k.goes_on _ (stop s i at none ev there c)

      pub turn_next : {to : Walk} → WalkCounted (walk system graphics at.left (va ∷ [])) at (Ok to) → Turn s start to (i - 1)
      turn_next c =
          let w = c.within in
          let f = k.few in
          let g = k.spent in
          let j = k.within in
          record { few = omega arith; spent = omega arith; within = omega arith; goes_on = λ r u. k.goes_on r (next s i at none ev there c u) }
