-- A sector's data and points: what the tests on its fields find, and that it is what the grammar says.
use Prim.Native.Nat.{ℕ, zero, suc, ◌*◌, ◌≤◌, ◌<◌}
use native.Mathlib.Nat.{pos_of_ne-zero}
use native.Mathlib.Omega.{arith}
use mathlib.Core.Path.{◌≡◌, refl, sym, ap, subst, ◌∙◌}
use mathlib.Core.Bool.{Bool, true, false, ◌&&◌, ◌||◌}
use mathlib.Core.List.{List, []}
use lib.Dec.{eqb, eqb-suc-zero}
use lib.ListN.{length}
use borrow.Author.Tests.{ne_eqb}
use Rattle.fields.specs.Bytes.{le_at, cut}
use Rattle.fields.proofs.Bytes.{past}
use Rattle.resource.specs.Section.{good, resolved}
use Rattle.resource.proofs.Parts.{good_length, short_bad, full_good, null_empty}
use Rattle.strip.proofs.Judged.{both}
use Rattle.read_grammar.specs.Parts.{Array}
use Rattle.read_grammar.specs.Trees.{Data}
use Rattle.read_grammar.proofs.Parts.{good_found, found_good}
use Rattle.fields.proofs.Cuts.{cut_length}
use Rattle.strip.specs.Outcome.{refusal, values}
use Rattle.read_sectors.specs.Sector.{data_of, count_of, points_of, good_data}
use Rattle.read_sectors.specs.Answer.{found_of}

or_more : (n : ℕ) (b : Bool) → (n ≡ 0 → ⊥) → (eqb n 0 || b) ≡ b
or_more n b h = rw (ne_eqb n 0 h)

-- ---- by the tests of the code

module _ (system graphics s : List ℕ) {va : ℕ} (eva : va ≡ le_at 8 s 0x2C) where
  pub without_data : va ≡ 0 → (good_data system graphics s ≡ true) × (points_of system graphics s ≡ [])
  unfolding good_data points_of count_of data_of cut
  without_data z = rw (← eva, z, null_empty system graphics 32, past 2 [] 0x1A (omega arith)) (refl, refl)

  pub find_none : va ≡ 0 → values 0 ≡ found_of (good_data system graphics s) (points_of system graphics s)
  find_none z = let (a, b) = without_data z in rw (a, b)

  module _ {d : List ℕ} (ed : d ≡ resolved system graphics va 32) {n : ℕ} (en : n ≡ le_at 2 d 0x1A) where
    -- the points, by the fields of the data
    pub points_are : points_of system graphics s ≡ cut 8 n (resolved system graphics (le_at 8 d 0x10) (8 * n))
    unfolding points_of count_of data_of
    points_are = rw (← eva, ← ed, ← en)

    pub no_points : n ≡ 0 → points_of system graphics s ≡ []
    unfolding cut
    no_points z = rw (points_are, z)

    -- they are good, by the fields of data that is there
    data_is : (b : Bool) → good system graphics va 32 ≡ b → (va ≡ 0 → ⊥) → good_data system graphics s ≡ (b && (eqb n 0 || good system graphics (le_at 8 d 0x10) (8 * n)))
    unfolding good_data count_of data_of
    data_is b e some = rw (← eva, ← ed, ← en, or_more va _ some, e)

  module _ (some : va ≡ 0 → ⊥) {d : List ℕ} (ed : d ≡ resolved system graphics va 32) where
    pub find_bad_data : length d < 32 → refusal 34 0 ≡ found_of (good_data system graphics s) (points_of system graphics s)
    find_bad_data h = rw (data_is ed refl false (short_bad system graphics va 32 (rw ed at h)) some)

    module _ (long : 32 ≤ length d) {n : ℕ} (en : n ≡ le_at 2 d 0x1A) where
      data_good : good_data system graphics s ≡ (eqb n 0 || good system graphics (le_at 8 d 0x10) (8 * n))
      data_good = data_is ed en true (full_good system graphics va 32 (omega arith) (rw ed at long)) some

      pub find_no_points : n ≡ 0 → values 0 ≡ found_of (good_data system graphics s) (points_of system graphics s)
      unfolding cut
      find_no_points z = rw (data_good, points_are ed en, z)

      module _ (more : n ≡ 0 → ⊥) {pv : ℕ} (ep : pv ≡ le_at 8 d 0x10) {m : ℕ} (em : m ≡ 8 * n) {p : List ℕ} (eq : p ≡ resolved system graphics pv m) where
        pub find_bad_points : length p < m → refusal 34 0 ≡ found_of (good_data system graphics s) (points_of system graphics s)
        find_bad_points h = rw (data_good, or_more n _ more, ← ep, short_bad system graphics pv (8 * n) (rw (eq, em) at h))

        pub find_points : m ≤ length p → values n ≡ found_of (good_data system graphics s) (points_of system graphics s)
        find_points h =
            rw (data_good, or_more n _ more, ← ep, full_good system graphics pv (8 * n) (omega (arith, pos_of_ne-zero more)) (rw (eq, em) at h), points_are ed en)
            (ap values (sym (cut_length 8 n (resolved system graphics (le_at 8 d 0x10) (8 * n)))))

  -- where data and points are good, the fields are there
  module _ (g : good_data system graphics s ≡ true) where
    module _ {d : List ℕ} (ed : d ≡ resolved system graphics va 32) {n : ℕ} (en : n ≡ le_at 2 d 0x1A) where
      module _ (some : va ≡ 0 → ⊥) (more : n ≡ 0 → ⊥) {pv : ℕ} (ep : pv ≡ le_at 8 d 0x10) {m : ℕ} (em : m ≡ 8 * n) {p : List ℕ} (eq : p ≡ resolved system graphics pv m) where
        points_good : good system graphics pv (8 * n) ≡ true
        points_good =
            let h = (both (good system graphics va 32) (eqb n 0 || good system graphics (le_at 8 d 0x10) (8 * n)) (sym (data_is ed en (good system graphics va 32) refl some) ∙ g)).1 in
            rw (or_more n (good system graphics (le_at 8 d 0x10) (8 * n)) more, ← ep) at h

        pub points_there : (8 * n ≤ length p) × (points_of system graphics s ≡ cut 8 n p) × (length (points_of system graphics s) ≡ n)
        points_there =
            let e : points_of system graphics s ≡ cut 8 n p = rw (points_are ed en, ← ep, ← em, ← eq) in
            (rw (eq, em) (omega (arith, good_length system graphics pv (8 * n) points_good)), e, rw e (cut_length 8 n p))

-- ---- by the grammar

module _ (system graphics : List ℕ) where
  array_good : {w va n : ℕ} {ps : List (List ℕ)} → Array system graphics w va n ps
      → ((eqb n 0 || good system graphics va (w * n)) ≡ true) × (cut w n (resolved system graphics va (w * n)) ≡ ps)
  unfolding cut
  array_good Array.none = (refl, refl)
  array_good {w} {va} (Array.some {n = n} {b = b} g) = (rw (eqb-suc-zero n) (good_found system graphics _ _ g), rw g.there)

  good_array : (w va n : ℕ) → 0 < w → (eqb n 0 || good system graphics va (w * n)) ≡ true → Array system graphics w va n (cut w n (resolved system graphics va (w * n)))
  unfolding cut
  good_array w va zero some e = Array.none
  good_array w va (suc n) some e = Array.some (found_good system graphics va (w * suc n) (omega arith) (rw (eqb-suc-zero n) at e))

  module _ (s : List ℕ) where
    pub data_good_points : {ps : List (List ℕ)} → Data system graphics s ps → (good_data system graphics s ≡ true) × (points_of system graphics s ≡ ps)
    data_good_points (Data.no_data z) = without_data system graphics s refl z
    data_good_points (Data.data_at {d = d} {ps = ps} some g a) =
        let (f, e) = array_good a in
        let more : le_at 8 s 0x2C ≡ 0 → ⊥ = λ z. omega arith in
        (data_is system graphics s refl (sym g.there) refl true (good_found system graphics _ _ g) more ∙ f, points_are system graphics s refl (sym g.there) refl ∙ e)

    data_of_lem : (va : ℕ) → le_at 8 s 0x2C ≡ va → good_data system graphics s ≡ true → Data system graphics s (points_of system graphics s)
    data_of_lem zero e g = subst (Data system graphics s) (sym (without_data system graphics s refl e).1) (Data.no_data e)
    data_of_lem (suc v) e g =
        let more : le_at 8 s 0x2C ≡ 0 → ⊥ = λ z. omega arith in
        let (a, b) = both _ _ (sym (data_is system graphics s refl refl refl (good system graphics (le_at 8 s 0x2C) 32) refl more) ∙ g) in
        subst (Data system graphics s) (sym (points_are system graphics s refl refl refl))
        (Data.data_at (omega arith) (found_good system graphics (le_at 8 s 0x2C) 32 (omega arith) a) (good_array 8 _ _ (omega arith) b))

    pub good_data_lem : good_data system graphics s ≡ true → Data system graphics s (points_of system graphics s)
    good_data_lem g = data_of_lem (le_at 8 s 0x2C) refl g
