-- The second pass over a walk that was accepted: what each call of the cycle is given, and that what two of them write is what is to be written.
use Prim.Native.Nat.{ℕ, ◌+◌, ◌-◌, ◌*◌, ◌≤◌, ◌<◌}
use native.Mathlib.Nat.{add_assoc, add-zero, mul-add, pos_of_ne-zero}
use native.Mathlib.Omega.{arith}
use mathlib.Core.Path.{◌≡◌, refl, sym, ◌∙◌}
use mathlib.Core.Bool.{Bool, true, false}
use mathlib.Core.List.{List, [], ◌∷◌, ◌++◌, append-nil}
use lib.ListN.{length, length-append}
use Rattle.fields.specs.Bytes.{le_at}
use Rattle.fields.specs.Put.{put}
use Rattle.resource.specs.Section.{good, resolved}
use Rattle.read_grammar.specs.Trees.{subs_to}
use Rattle.read_points.specs.declared.TreeCursor.{TreeCursor}
use Rattle.read_sectors.specs.Sector.{points_of, good_data}
use Rattle.read_sectors.specs.Walk.{Walked, also, checked, sector_at, walk}
use Rattle.read_sectors.specs.Walk.Walked.{done, refused}
use Rattle.read_points.specs.Write.{as_shorts, points_words, HasRoom, PointsPut, Written}
use Rattle.read_sectors.proofs.Exact.{onward, walk_append, walk_none, never, walk_sound}
use Rattle.read_sectors.proofs.Steps.{walk_step, too_few, subs_skip, subs_at}
use Rattle.read_points.proofs.Stores.{words_both, put_none}

done_checked : (a b : Bool) (w : Walked) {l : ℕ} {ps : List (List ℕ)} → checked a b w ≡ done l ps → (a ≡ true) × (b ≡ true) × (w ≡ done l ps)
done_checked false b w e = absurd (never e)
done_checked true false w e = absurd (never e)
done_checked true true w e = (refl, refl, e)

done_also : (qs : List (List ℕ)) (w : Walked) {l : ℕ} {ps : List (List ℕ)} → also qs w ≡ done l ps → (rs : List (List ℕ)) × (w ≡ done l rs) × (ps ≡ qs ++ rs)
done_also qs (refused x) e = absurd (never e)
done_also qs (done k rs) e = (rs, cc, cc)

-- what is written by the first of two calls and by the second
pub stands_both : {l at next : ℕ} (qs : List (List ℕ)) {ps rs : List (List ℕ)} {old mid new : List ℕ} {r : TreeCursor}
    → ps ≡ qs ++ rs → next ≡ at + 4 * length qs → mid ≡ put at (points_words as_shorts qs) old → PointsPut l rs next mid r new → PointsPut l ps at old r new
stands_both {at = at} qs {rs = rs} {old = old} e f g s =
    record {
      left = s.left;
      at = rw (e, length-append, mul-add, ← add_assoc, ← f) s.at;
      strip = s.strip ∙ rw (f, g, e) (words_both as_shorts at qs rs old);
    }

module _ (system graphics : List ℕ) where
  -- a sector of an accepted walk, and its subs
  pub record Inside (left l : ℕ) (s : List ℕ) (ps : List (List ℕ)) : Type 0 where
    pub some : 0 < left
    pub data_good : good_data system graphics s ≡ true
    pub rest : List (List ℕ)
    pub subs : walk system graphics (left - 1) (subs_to s 4) ≡ done l rest
    pub is : ps ≡ points_of system graphics s ++ rest

  pub inside : (left va : ℕ) {l : ℕ} {s : List ℕ} {ps : List (List ℕ)} → s ≡ resolved system graphics va 96 → walk system graphics left (va ∷ []) ≡ done l ps → Inside left l s ps
  unfolding sector_at
  inside left va {s = s} es e =
      let some = too_few system graphics left va e in
      let h = rw (walk_step system graphics left va [] some, ← es, append-nil) at e in
      let (a, b, w) = done_checked (good system graphics va 96) (good_data system graphics s) (also (points_of system graphics s) (walk system graphics (left - 1) (subs_to s 4))) h in
      let (rs, d, i) = done_also (points_of system graphics s) (walk system graphics (left - 1) (subs_to s 4)) w in
      record { some = pos_of_ne-zero some; data_good = b; rest = rs; subs = d; is = i }

  -- the first i subs of an accepted walk: the last of them, and the others
  pub record Split (left i va l : ℕ) (s : List ℕ) (ps : List (List ℕ)) : Type 0 where
    pub between : ℕ
    pub of_tree : List (List ℕ)
    pub rest : List (List ℕ)
    pub tree : walk system graphics left (va ∷ []) ≡ done between of_tree
    pub subs : walk system graphics between (subs_to s (i - 1)) ≡ done l rest
    pub is : ps ≡ of_tree ++ rest
    pub spent : between ≤ left

  done_onward : (w : Walked) (t : List ℕ) {l : ℕ} {ps : List (List ℕ)} → onward system graphics w t ≡ done l ps
      → (k : ℕ) × (qs rs : List (List ℕ)) × (w ≡ done k qs) × (walk system graphics k t ≡ done l rs) × (ps ≡ qs ++ rs)
  done_onward (refused x) t e = absurd (never e)
  done_onward (done k qs) t e = let (rs, d, i) = done_also qs (walk system graphics k t) e in (k, qs, rs, refl, d, i)

  pub split : (left i : ℕ) {va l : ℕ} {s : List ℕ} {ps : List (List ℕ)} → (i ≡ 0 → ⊥) → va ≡ le_at 8 s (0x34 + 8 * (i - 1)) → (va ≡ 0 → ⊥)
      → walk system graphics left (subs_to s i) ≡ done l ps → Split left i va l s ps
  split left i {va} {s = s} some ev there e =
      let h = rw (subs_at s i some ev there, walk_append system graphics left (va ∷ []) (subs_to s (i - 1))) at e in
      let (k, qs, rs, a, b, c) = done_onward (walk system graphics left (va ∷ [])) (subs_to s (i - 1)) h in
      let (n, t, f) = walk_sound system graphics left (va ∷ []) k qs a in
      record { between = k; of_tree = qs; rest = rs; tree = a; subs = b; is = c; spent = omega arith }

  module _ (left va : ℕ) {s : List ℕ} (es : s ≡ resolved system graphics va 96) where
    pub visits_left : {at n : ℕ} → HasRoom (walk system graphics left (va ∷ [])) at n → 0 < left
    visits_left f = (inside left va es f.is).some

    pub points_fit : {at n : ℕ} → HasRoom (walk system graphics left (va ∷ [])) at n
        → (good_data system graphics s ≡ true) × (at + 4 * length (points_of system graphics s) ≤ n)
    points_fit {at} {n} f =
        let i = inside left va es f.is in
        let h : at + 4 * (length (points_of system graphics s) + length i.rest) ≤ n = rw (i.is, length-append) at f.room in
        (i.data_good, omega arith)

    pub subs_fit : {at next m n : ℕ} → HasRoom (walk system graphics left (va ∷ [])) at n → next ≡ at + 4 * length (points_of system graphics s) → m ≡ n
        → HasRoom (walk system graphics (left - 1) (subs_to s 4)) next m
    subs_fit {at} {n = n} f e k =
        let i = inside left va es f.is in
        let h : at + 4 * (length (points_of system graphics s) + length i.rest) ≤ n = rw (i.is, length-append) at f.room in
        record { left = f.left; points = i.rest; is = i.subs; room = omega arith }

    pub tree_written : {at next : ℕ} {old mid new : List ℕ} {r : TreeCursor} → next ≡ at + 4 * length (points_of system graphics s)
        → mid ≡ put at (points_words as_shorts (points_of system graphics s)) old → Written (walk system graphics (left - 1) (subs_to s 4)) next mid r new
        → Written (walk system graphics left (va ∷ [])) at old r new
    tree_written e f w l ps h = let i = inside left va es h in stands_both (points_of system graphics s) i.is e f (w l i.rest i.subs)

  module _ (left i : ℕ) (s : List ℕ) where
    pub none_written : (at : ℕ) (old : List ℕ) → i ≡ 0 → Written (walk system graphics left (subs_to s i)) at old (record { left = left; at = at }) old
    unfolding subs_to
    none_written at old z l ps e =
        let h : done left [] ≡ done l ps = sym (walk_none system graphics left) ∙ rw z at e in
        let p : ps ≡ [] = cc in
        record { left = (cc); at = rw (p, add-zero); strip = rw p (sym (put_none as_shorts at old)) }

    module _ {va : ℕ} (some : i ≡ 0 → ⊥) (ev : va ≡ le_at 8 s (0x34 + 8 * (i - 1))) where
      pub skip_fits : {at n : ℕ} → va ≡ 0 → HasRoom (walk system graphics left (subs_to s i)) at n → HasRoom (walk system graphics left (subs_to s (i - 1))) at n
      skip_fits z f = rw (subs_skip s i some ev z) at f

      pub skip_written : {at : ℕ} {old new : List ℕ} {r : TreeCursor} → va ≡ 0
          → Written (walk system graphics left (subs_to s (i - 1))) at old r new → Written (walk system graphics left (subs_to s i)) at old r new
      skip_written z w l ps e = w l ps (rw (subs_skip s i some ev z) at e)

      module _ (there : va ≡ 0 → ⊥) where
        pub tree_fits : {at n : ℕ} → HasRoom (walk system graphics left (subs_to s i)) at n → HasRoom (walk system graphics left (va ∷ [])) at n
        tree_fits {at} {n} f =
            let p = split left i some ev there f.is in
            let h : at + 4 * (length p.of_tree + length p.rest) ≤ n = rw (p.is, length-append) at f.room in
            record { left = p.between; points = p.of_tree; is = p.tree; room = omega arith }

        pub rest_fits : {at m n : ℕ} {old mid : List ℕ} {r : TreeCursor} → HasRoom (walk system graphics left (subs_to s i)) at n
            → Written (walk system graphics left (va ∷ [])) at old r mid → m ≡ n
            → (r.left ≤ left) × HasRoom (walk system graphics r.left (subs_to s (i - 1))) r.at m
        rest_fits {at} {n = n} {r = r} f w k =
            let p = split left i some ev there f.is in
            let t = w p.between p.of_tree p.tree in
            let h : at + 4 * (length p.of_tree + length p.rest) ≤ n = rw (p.is, length-append) at f.room in
            (rw t.left p.spent, record { left = f.left; points = p.rest; is = rw t.left p.subs; room = rw (t.at, k) (omega arith) })

        pub subs_written : {at : ℕ} {old mid new : List ℕ} {q r : TreeCursor} → Written (walk system graphics left (va ∷ [])) at old q mid
            → Written (walk system graphics q.left (subs_to s (i - 1))) q.at mid r new → Written (walk system graphics left (subs_to s i)) at old r new
        subs_written v w l ps e =
            let p = split left i some ev there e in
            let t = v p.between p.of_tree p.tree in
            stands_both p.of_tree p.is t.at t.strip (w l p.rest (rw t.left p.subs))

  -- what holds at the head of the loop over the subs: i of them are left, and whatever writes their points from here on writes the whole
  pub record Rest (s : List ℕ) (left at : ℕ) (old : List ℕ) (l e : ℕ) (out : List ℕ) (i : ℕ) : Type 0 where
    pub few : i ≤ 4
    pub spent : l ≤ left
    pub long : length out ≡ length old
    pub fits : HasRoom (walk system graphics l (subs_to s i)) e (length out)
    pub goes_on : (r : TreeCursor) (new : List ℕ) → Written (walk system graphics l (subs_to s i)) e out r new → Written (walk system graphics left (subs_to s 4)) at old r new

  pub rest_end : {s old out : List ℕ} {left at l e i : ℕ} → Rest s left at old l e out i → i ≤ 0
      → Written (walk system graphics left (subs_to s 4)) at old (record { left = l; at = e }) out
  rest_end {s} {out = out} {l = l} {e = e} {i = i} k h = k.goes_on _ _ (none_written l i s e out (omega arith))

  module _ {s old out : List ℕ} {left at l e i : ℕ} (k : Rest s left at old l e out i) (some : 0 < i) {va : ℕ} (ev : va ≡ le_at 8 s (0x34 + 8 * (i - 1))) where
    none : i ≡ 0 → ⊥
    none z = omega arith

    pub rest_skip : va ≡ 0 → Rest s left at old l e out (i - 1)
    rest_skip z =
        let f = k.few in
        record {
          few = omega arith;
          spent = k.spent;
          long = k.long;
          fits = skip_fits l i s none ev z k.fits;
          goes_on = λ r new w. k.goes_on r new (skip_written l i s none ev z w);
        }

    pub rest_tree : (va ≡ 0 → ⊥) → HasRoom (walk system graphics l (va ∷ [])) e (length out)
    rest_tree there = tree_fits l i s none ev there k.fits

    pub rest_next : (va ≡ 0 → ⊥) → {q : TreeCursor} {mid : List ℕ} → Written (walk system graphics l (va ∷ [])) e out q mid → length mid ≡ length out
        → Rest s left at old q.left q.at mid (i - 1)
    rest_next there v same =
        let f = k.few in
        let g = k.spent in
        let (less, fits) = rest_fits l i s none ev there k.fits v same in
        record {
          few = omega arith;
          spent = omega arith;
          long = same ∙ k.long;
          fits = fits;
          goes_on = λ r new w. k.goes_on r new (subs_written l i s none ev there v w);
        }
