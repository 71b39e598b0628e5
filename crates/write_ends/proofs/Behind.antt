-- Ends of blocks, one after the other, and that none lies behind the last. Assumes nothing.
use Prim.Native.Nat.{ℕ, zero, suc, ◌+◌, ◌*◌, ◌/◌, ◌%◌, ◌^◌, ◌≤◌, ◌<◌}
use mathlib.Core.Path.{◌≡◌, refl, sym, ap, subst, ◌∙◌}
use mathlib.Core.Bool.{Bool, cond}
use mathlib.Core.List.{List, [], ◌∷◌, ◌++◌, append_assoc}
use native.Mathlib.Omega.{arith}
use mir.Syntax.{w64}
use mir.Val.{Fits}
use borrow.Author.Tests.{leb-true, leb-false}
use lib.Dec.{leb}
use Rattle.write_blocks.specs.Layout.{aligned, place_of, behind, end_of}
use Rattle.write_blocks.specs.Laid.{empty, allocated, reached, sum_of, Within}
use Rattle.write_blocks.specs.declared.Layout.{Layout}
use Rattle.write_blocks.specs.Lists.{part_count, list_sizes}
use Rattle.write_blocks.specs.ListRoom.{ListRoom}
use Rattle.write_blocks.proofs.Layouts.{by_cond, place_ge, end_ge, end_sum, sum_append, reached_asked, joined, begins}
use Rattle.write_blocks.specs.Optional.{size_of}
use Rattle.write_quadtree.specs.Subtrees.{divided}
use Rattle.write_quadtree.specs.declared.subtrees.Subtree.{Subtree}
use Rattle.write_quadtree.specs.declared.subtrees.Subtrees.{Subtrees}
use Rattle.write_quadtree.proofs.Dividing.{on, of_subs}
use Rattle.write_ends.specs.Ends.{sizes_by, lists_end}

-- a size that is laid out below 2^28
pub within_some : {l : Layout} (n : ℕ) → Within l (size_of n) → n < 2 ^ 28
within_some zero h = omega arith
within_some {l} (suc n) h = omega (arith, h.below, place_ge l.at (suc n))

-- ---- one block, whose size the code words in its own way

-- a smaller block starts no later
place_grows : (end m n : ℕ) → m ≤ n → place_of end m ≤ place_of end n
unfolding place_of
place_grows end m n h =
    let here : ℕ = aligned end in
    let page : ℕ = (here / 16384 + 1) * 16384 in
    let other : Bool = leb (here % 16384 + n) 16384 in
    by_cond (λ v. v ≤ cond other here page) (leb (here % 16384 + m) 16384) here page
    (λ _. by_cond (λ v. here ≤ v) other here page (λ _. omega arith) (λ _. omega arith))
    (λ e. by_cond (λ v. page ≤ v) other here page (λ f. omega (arith, leb-false (here % 16384 + m) 16384 e, leb-true (here % 16384 + n) 16384 f)) (λ _. omega arith))

-- a product of the code, in its own words: what is shown to be no more than a word holds
abbrev pub product : {m : ℕ} → Fits w64 m → ℕ
product {m} h = m

pub fits_one : {l : Layout} {m : ℕ} (n : ℕ) → Within l (n ∷ []) → m ≤ n → behind l.at m < 2 ^ 28
fits_one {l} {m} n h e = omega (arith, h.below, place_grows l.at m n e)

pub fits_some : {l : Layout} (m n : ℕ) → Within l (size_of n) → m ≡ n → Within l (size_of m)
fits_some m n h e = rw e h

pub end_one : (l : Layout) (m n : ℕ) {r : Layout} → r ≡ allocated l m → m ≡ n → r ≡ reached l (n ∷ [])
end_one l m n h e = h ∙ ap (allocated l) e

pub end_some : (l : Layout) (m n : ℕ) {r : Layout} → r ≡ reached l (size_of m) → m ≡ n → r ≡ reached l (size_of n)
end_some l m n h e = h ∙ ap (λ (k : ℕ). reached l (size_of k)) e

-- ---- a tree

-- a sector's block, then its subs'
pub sizes_subs : (boxes numbers : List ℕ) (t : Subtree) → (t.depth ≡ 0 → ⊥) → {s : Subtrees} → s ≡ divided t → let sizes = on (sizes_by boxes numbers) in
    sizes t ≡ 96 ∷ (sizes s.s0 ++ (sizes s.s1 ++ (sizes s.s2 ++ sizes s.s3)))
unfolding sizes_by
sizes_subs boxes numbers t splits e = of_subs t splits e (sizes_by boxes numbers) (λ _ n0 n1 n2 n3. 96 ∷ (n0 ++ (n1 ++ (n2 ++ n3)))) (λ d k b. refl)

-- ---- the lists

room : (p q w n : ℕ) → p ≡ q → 1 ≤ w → w ≤ 16384 → part_count w n ≤ 1024 → end_of q (list_sizes w n) < 2 ^ 28 → ListRoom p w n (list_sizes w n)
room p q w n e s l t b = record { some = s; page = l; table = t; below = rw e b }

module _ (v i p : ℕ) where
  abbrev pub behind_vertices : ℕ
  behind_vertices = end_of (behind 0 368) (list_sizes 6 v)

  abbrev pub behind_indices : ℕ
  behind_indices = end_of behind_vertices (list_sizes 2 i)

  abbrev pub behind_edges : ℕ
  behind_edges = end_of behind_indices (list_sizes 8 i)

  -- for each of the lists, where it begins
  pub record ListRooms : Type 0 where
    pub vertices : (q : ℕ) → q ≡ behind 0 368 → ListRoom q 6 v (list_sizes 6 v)
    pub indices : (q : ℕ) → q ≡ behind_vertices → ListRoom q 2 i (list_sizes 2 i)
    pub edges : (q : ℕ) → q ≡ behind_indices → ListRoom q 8 i (list_sizes 8 i)
    pub polygons : (q : ℕ) → q ≡ behind_edges → ListRoom q 48 p (list_sizes 48 p)

  pub list_rooms : v ≤ 65536 → i ≤ 67582 → p ≤ 16383 → lists_end v i p < 2 ^ 28 → ListRooms
  list_rooms few-v few-i few-p below =
      let edges-near = end_ge behind_edges (list_sizes 48 p) in
      let indices-near = end_ge behind_indices (list_sizes 8 i) in
      let vertices-near = end_ge behind_vertices (list_sizes 2 i) in
      record {
        vertices = λ q e. room q (behind 0 368) 6 v e (omega arith) (omega arith) (omega arith) (omega arith);
        indices = λ q e. room q behind_vertices 2 i e (omega arith) (omega arith) (omega arith) (omega arith);
        edges = λ q e. room q behind_indices 8 i e (omega arith) (omega arith) (omega arith) (omega arith);
        polygons = λ q e. room q behind_edges 48 p e (omega arith) (omega arith) (omega arith) below;
      }

-- a list behind whose first blocks there is room for all
pub within_list : {l : Layout} (w n : ℕ) → 1 ≤ w → w ≤ 16384 → part_count w n ≤ 1024 → Within l (list_sizes w n) → ListRoom l.at w n (list_sizes w n)
within_list w n s p t h = record { some = s; page = p; table = t; below = h.below }

-- ---- what is asked for

-- what bounds three rows of blocks bounds the first two
pub within_first : {l : Layout} (ms ns ks : List ℕ) → Within l (ms ++ (ns ++ ks)) → Within l (ms ++ ns)
within_first {l} ms ns ks h = begins (ms ++ ns) ks (subst (Within l) (sym (append_assoc ms ns ks)) h)

-- behind the first of two rows of blocks, and behind both: by all that was asked from the beginning on
pub asked_apart : (ms ns : List ℕ) {l r : Layout} → l ≡ reached empty ms → r ≡ reached l ns → Within empty (ms ++ ns) → (l.asked ≡ sum_of ms) × (r.asked ≡ sum_of ms + sum_of ns)
asked_apart ms ns {l} {r} e f h =
    let sum = sum_append ms ns in
    let few : 0 + sum_of (ms ++ ns) < 2 ^ 32 = omega (arith, end_sum 0 (ms ++ ns), h.below) in
    let first = ap (λ (p : Layout). p.asked) e ∙ reached_asked empty ms (omega arith) in
    let both = ap (λ (p : Layout). p.asked) (f ∙ joined empty ms ns e) ∙ reached_asked empty (ms ++ ns) few in
    (omega (arith, first), omega (arith, both, sum))
