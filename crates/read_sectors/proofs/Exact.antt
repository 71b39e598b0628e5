-- The walk and the grammar say the same.
--     walk_complete   where there are trees, a walk with enough visits spends one on each sector and finds their points
--     walk_sound      what a walk accepts has trees, of as many sectors as visits were spent, with those points
use Prim.Native.Nat.{ℕ, zero, suc, ◌+◌}
use native.Mathlib.Nat.{zero-add, suc-add, add_assoc}
use native.Mathlib.Omega.{arith}
use mathlib.Core.Path.{◌≡◌, refl, sym, ap, subst}
use mathlib.Core.Bool.{Bool, true, false}
use mathlib.Core.List.{List, [], ◌∷◌, ◌++◌, append_assoc, append-nil}
use Rattle.resource.specs.Section.{good, resolved}
use Rattle.read_grammar.specs.Trees.{subs_to, Trees}
use Rattle.read_grammar.proofs.Parts.{good_found, found_good}
use Rattle.read_sectors.specs.Sector.{points_of, good_data}
use Rattle.read_sectors.specs.Walk.{Walked, also, checked, sector_at, walk}
use Rattle.read_sectors.specs.Walk.Walked.{done, refused}
use Rattle.read_sectors.proofs.Data.{data_good_points, good_data_lem}

also_also : (ps qs : List (List ℕ)) (w : Walked) → also ps (also qs w) ≡ also (ps ++ qs) w
also_also ps qs (done l rs) = ap (done l) (sym (append_assoc ps qs rs))
also_also ps qs (refused e) = refl

also_none : (w : Walked) → also [] w ≡ w
also_none (done l rs) = refl
also_none (refused e) = refl

pub never : {x l : ℕ} {ps : List (List ℕ)} → refused x ≡ done l ps → ⊥
never e = let z : ◌≡◌ {A = ℕ} 0 1 = cc in omega arith

regroup : (a b c d : List (List ℕ)) {e : List (List ℕ)} → e ≡ c ++ d → a ++ (b ++ e) ≡ (a ++ (b ++ c)) ++ d
regroup a b c d h = rw (h, append_assoc, append_assoc)

module _ (system graphics : List ℕ) where
  pub walk_none : (n : ℕ) → walk system graphics n [] ≡ done n []
  unfolding walk
  walk_none zero = refl
  walk_none (suc n) = refl

  -- a walk goes on over t from what it has found
  abbrev pub onward : Walked → List ℕ → Walked
  onward (done l ps) t = also ps (walk system graphics l t)
  onward (refused e) t = refused e

  onward_also : (ps : List (List ℕ)) (w : Walked) (t : List ℕ) → onward (also ps w) t ≡ also ps (onward w t)
  onward_also ps (done l qs) t = sym (also_also ps qs (walk system graphics l t))
  onward_also ps (refused e) t = refl

  onward_checked : (a b : Bool) (w : Walked) (t : List ℕ) → onward (checked a b w) t ≡ checked a b (onward w t)
  onward_checked false b w t = refl
  onward_checked true false w t = refl
  onward_checked true true w t = refl

  -- a walk over two lists is one over the first, then one over the second with the visits left
  pub walk_append : (f : ℕ) (s t : List ℕ) → walk system graphics f (s ++ t) ≡ onward (walk system graphics f s) t
  unfolding walk
  walk_append zero [] t = rw also_none
  walk_append zero (va ∷ s) t = refl
  walk_append (suc f) [] t = rw also_none
  walk_append (suc f) (va ∷ s) t =
      rw (onward_checked, onward_also, ← walk_append f (subs_to (sector_at system graphics va) 4 ++ s) t, append_assoc)

  -- a walk over trees, and over what follows them
  along : {vas : List ℕ} {n : ℕ} {ps : List (List ℕ)} → Trees system graphics vas n ps → (f : ℕ) (t : List ℕ)
      → walk system graphics (n + f) (vas ++ t) ≡ also ps (walk system graphics f t)
  unfolding walk sector_at
  along Trees.none f t = rw (zero-add, also_none)
  along (Trees.tree {va = va} {s = s} {vas = vas} {ps = ps} {qs = qs} {rs = rs} g d r rest) f t =
      let (a, b) = data_good_points system graphics s d in
      rw (suc-add, add_assoc, good_found system graphics _ _ g, g.there, a, b, along r _ (vas ++ t), along rest f t, also_also qs rs, also_also)

  pub walk_complete : {vas : List ℕ} {n : ℕ} {ps : List (List ℕ)} → Trees system graphics vas n ps → (f : ℕ) → walk system graphics (n + f) vas ≡ done f ps
  walk_complete {vas} {n} {ps} r f = cc (along r f [], walk_none f, append-nil vas, append-nil ps)

  -- trees at the addresses of s ++ t are trees at those of s and trees at those of t
  apart : (s t : List ℕ) {n : ℕ} {ps : List (List ℕ)} → Trees system graphics (s ++ t) n ps
      → (k m : ℕ) × (qs rs : List (List ℕ)) × Trees system graphics s k qs × Trees system graphics t m rs × (n ≡ k + m) × (ps ≡ qs ++ rs)
  apart [] t {n} {ps} r = (0, n, [], ps, Trees.none, r, sym (zero-add n), refl)
  apart (va ∷ s) t (Trees.tree {n = n} {ps = ps} {qs = us} g d r rest) =
      let (k, m, qs, rs, a, b, e, f) = apart s t rest in
      (suc (n + k), m, ps ++ (us ++ qs), rs, Trees.tree g d r a, b, omega arith, regroup ps us qs rs f)

  -- one sector of the walk, where the rest of it has trees
  sound_at : (va f l : ℕ) (vas : List ℕ) (ps : List (List ℕ)) (a b : Bool) (w : Walked)
      → good system graphics va 96 ≡ a → good_data system graphics (sector_at system graphics va) ≡ b
      → ((m : ℕ) (qs : List (List ℕ)) → w ≡ done m qs → (n : ℕ) × Trees system graphics (subs_to (sector_at system graphics va) 4 ++ vas) n qs × (f ≡ n + m))
      → checked a b (also (points_of system graphics (sector_at system graphics va)) w) ≡ done l ps
      → (n : ℕ) × Trees system graphics (va ∷ vas) n ps × (suc f ≡ n + l)
  unfolding sector_at
  sound_at va f l vas ps false b w g h ih e = absurd (never e)
  sound_at va f l vas ps true false w g h ih e = absurd (never e)
  sound_at va f l vas ps true true (refused x) g h ih e = absurd (never e)
  sound_at va f l vas ps true true (done m qs) g h ih e =
      let s = resolved system graphics va 96 in
      let spent : m ≡ l = cc in
      let (n, r, i) = ih m qs refl in
      let (k, j, us, vs, a, b, o, p) = apart (subs_to s 4) vas r in
      let q : points_of system graphics s ++ (us ++ vs) ≡ ps = cc in (
        suc (k + j),
        subst (λ z. Trees system graphics (va ∷ vas) (suc (k + j)) z) q (Trees.tree (found_good system graphics va 96 (omega arith) g) (good_data_lem system graphics s h) a b),
        omega (arith, i, o, spent),
      )

  sound_none : (f l : ℕ) (ps : List (List ℕ)) → done f [] ≡ done l ps → (n : ℕ) × Trees system graphics [] n ps × (f ≡ n + l)
  sound_none f l ps e =
      let p : [] ≡ ps = cc in
      let q : f ≡ l = cc in
      (0, subst (λ z. Trees system graphics [] 0 z) p Trees.none, omega arith)

  pub walk_sound : (f : ℕ) (vas : List ℕ) (l : ℕ) (ps : List (List ℕ)) → walk system graphics f vas ≡ done l ps
      → (n : ℕ) × Trees system graphics vas n ps × (f ≡ n + l)
  unfolding walk
  walk_sound zero [] l ps e = sound_none zero l ps e
  walk_sound zero (va ∷ vas) l ps e = absurd (never e)
  walk_sound (suc f) [] l ps e = sound_none (suc f) l ps e
  walk_sound (suc f) (va ∷ vas) l ps e =
      sound_at va f l vas ps _ _ _ refl refl (λ m qs i. walk_sound f (subs_to (sector_at system graphics va) 4 ++ vas) m qs i) e
