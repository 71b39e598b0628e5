-- The laws of the layout: where a block starts, where blocks end, and what laying them out one after the other stores.
use Rattle.std.proofs.Common.{◌≡◌, ℕ, suc, ◌+◌, ◌-◌, ◌*◌, ◌%◌, ◌^◌, ◌<◌, ◌≤◌, Bool, true, false, cond, leb, List, [], ◌∷◌, ◌++◌, length, drop, sym, refl, ap, ◌∙◌, subst, append_assoc, append-nil, arith, length-append, leb-false, leb-true}
use lib.ListN.{length-replicate}
use Rattle.fields.specs.Bytes.{zeros}
use Rattle.fields.specs.Put.{put}
use Rattle.fields.proofs.Puts.{put_nil, put_append, put_before, put_whole}
use Rattle.write_blocks.specs.Layout.{aligned, place_of, behind, end_of, lay_block, lay_blocks, pages_of}
use Rattle.write_blocks.specs.Laid.{lengths, allocated, reached, sum_of, Within, Laid}
use Rattle.write_blocks.specs.Placed.{Small}
use Rattle.write_blocks.specs.declared.Layout.{Layout}

-- ---- one block

pub by_cond : (P : ℕ → Type 0) (b : Bool) (x y : ℕ) → (b ≡ true → P x) → (b ≡ false → P y) → P (cond b x y)
by_cond P true x y f g = f refl
by_cond P false x y f g = g refl

module _ (end size : ℕ) where
  -- it starts not below the end so far
  pub place_ge : end ≤ place_of end size
  unfolding place_of
  place_ge = by_cond (λ v. end ≤ v) (leb (aligned end % 16384 + size) 16384) _ _ (λ _. omega arith) (λ _. omega arith)

  -- at a multiple of 16
  pub place_aligned : place_of end size % 16 ≡ 0
  unfolding place_of
  place_aligned = by_cond (λ v. v % 16 ≡ 0) (leb (aligned end % 16384 + size) 16384) _ _ (λ _. omega arith) (λ _. omega arith)

  -- and within one page
  pub place_in_page : size ≤ 16384 → place_of end size % 16384 + size ≤ 16384
  unfolding place_of
  place_in_page h =
      by_cond (λ v. v % 16384 + size ≤ 16384) (leb (aligned end % 16384 + size) 16384) _ _ (λ e. omega (arith, leb-true (aligned end % 16384 + size) 16384 e)) (λ _. omega arith)

  -- less than a page and 16 bytes are skipped, whatever the size
  pub place_near : place_of end size < end + 16384 + 16
  unfolding place_of
  place_near = by_cond (λ v. v < end + 16384 + 16) (leb (aligned end % 16384 + size) 16384) _ _ (λ _. omega arith) (λ _. omega arith)

  -- a block of at most a page and the bytes skipped before it take less than two pages
  pub behind_near : size ≤ 16384 → behind end size < end + 32768
  unfolding place_of
  behind_near h =
      by_cond (λ v. v + size < end + 32768) (leb (aligned end % 16384 + size) 16384) _ _ (λ _. omega arith) (λ e. omega (arith, leb-false (aligned end % 16384 + size) 16384 e))

-- zeros up to a block's place, and the block
pub lay_put : (end n : ℕ) (b xs : List ℕ) → length b ≡ n → put (place_of end n) b (put end (zeros (place_of end n - end)) xs) ≡ put end (lay_block end b) xs
lay_put end n b xs e =
    let z = zeros (place_of end n - end) in
    let l : length z ≡ place_of end n - end = length-replicate _ 0 in
    let f : end + length z ≡ place_of end n = omega (arith, place_ge end n) in
    rw e (subst (λ (k : ℕ). put k b (put end z xs) ≡ put end (z ++ b) xs) f (put_append z b end xs))

pub length_lay : (end n : ℕ) (b : List ℕ) → length b ≡ n → end + length (lay_block end b) ≡ behind end n
length_lay end n b e = rw (length-append, length-replicate, e) (omega (arith, place_ge end n))

-- a block, and the rest behind it
pub lay_more : (end n : ℕ) (b rest xs : List ℕ) → length b ≡ n → put (behind end n) rest (put end (lay_block end b) xs) ≡ put end (lay_block end b ++ rest) xs
lay_more end n b rest xs e =
    subst (λ (k : ℕ). put k rest (put end (lay_block end b) xs) ≡ put end (lay_block end b ++ rest) xs) (length_lay end n b e) (put_append (lay_block end b) rest end xs)

-- ---- blocks in a row

-- they end not below where they begin
pub end_ge : (end : ℕ) (ns : List ℕ) → end ≤ end_of end ns
end_ge end [] = omega arith
end_ge end (n ∷ ns) = omega (arith, place_ge end n, end_ge (behind end n) ns)

pub end_append : (end : ℕ) (ms ns : List ℕ) → end_of end (ms ++ ns) ≡ end_of (end_of end ms) ns
end_append end [] ns = refl
end_append end (m ∷ ms) ns = end_append (behind end m) ms ns

-- the bound: each takes less than two pages
pub end_near : (end : ℕ) (ns : List ℕ) → Small ns → end_of end ns ≤ end + 32768 * length ns
end_near end [] h = omega arith
end_near end (n ∷ ns) h = omega (arith, behind_near end n h.0, end_near (behind end n) ns h.1)

pub small_append : (ms ns : List ℕ) → Small ms → Small ns → Small (ms ++ ns)
small_append [] ns h k = k
small_append (m ∷ ms) ns h k = (h.0, small_append ms ns h.1 k)

pub lengths_append : (bs cs : List (List ℕ)) → lengths (bs ++ cs) ≡ lengths bs ++ lengths cs
lengths_append [] cs = refl
lengths_append (b ∷ bs) cs = ap (λ (l : List ℕ). length b ∷ l) (lengths_append bs cs)

pub length_lengths : (bs : List (List ℕ)) → length (lengths bs) ≡ length bs
length_lengths [] = refl
length_lengths (b ∷ bs) = ap suc (length_lengths bs)

-- the end of blocks, and of blocks behind them
pub end_blocks : (end : ℕ) (bs cs : List (List ℕ)) → end_of end (lengths (bs ++ cs)) ≡ end_of (end_of end (lengths bs)) (lengths cs)
end_blocks end bs cs = rw (lengths_append bs cs, end_append end (lengths bs) (lengths cs))

-- what they take
pub length_blocks : (end : ℕ) (bs : List (List ℕ)) → end + length (lay_blocks end bs) ≡ end_of end (lengths bs)
length_blocks end [] = omega arith
length_blocks end (b ∷ bs) =
    rw (length-append (lay_block end b)) (omega (arith, length_lay end (length b) b refl, length_blocks (behind end (length b)) bs))

pub blocks_append : (end : ℕ) (bs cs : List (List ℕ)) → lay_blocks end (bs ++ cs) ≡ lay_blocks end bs ++ lay_blocks (end_of end (lengths bs)) cs
blocks_append end [] cs = refl
blocks_append end (b ∷ bs) cs =
    ap (λ (l : List ℕ). lay_block end b ++ l) (blocks_append (behind end (length b)) bs cs)
    ∙ sym (append_assoc (lay_block end b) (lay_blocks (behind end (length b)) bs) (lay_blocks (end_of (behind end (length b)) (lengths bs)) cs))

-- ---- the layout behind blocks

-- the same layout has the same end
pub at_of : {l k : Layout} → l ≡ k → l.at ≡ k.at
at_of e = ap (λ (p : Layout). p.at) e

-- its end
pub reached_at : (l : Layout) (ns : List ℕ) → (reached l ns).at ≡ end_of l.at ns
reached_at l [] = refl
reached_at l (n ∷ ns) = reached_at (allocated l n) ns

-- the bytes that were asked for, while a word holds them
pub reached_asked : (l : Layout) (ns : List ℕ) → l.asked + sum_of ns < 2 ^ 32 → (reached l ns).asked ≡ l.asked + sum_of ns
reached_asked l [] h = omega arith
reached_asked l (n ∷ ns) h = reached_asked (allocated l n) ns (omega arith) ∙ omega arith

-- blocks ask for no more than there is between their ends
pub end_sum : (end : ℕ) (ns : List ℕ) → end + sum_of ns ≤ end_of end ns
end_sum end [] = omega arith
end_sum end (n ∷ ns) = omega (arith, place_ge end n, end_sum (behind end n) ns)

pub sum_append : (ms ns : List ℕ) → sum_of (ms ++ ns) ≡ sum_of ms + sum_of ns
sum_append [] ns = omega arith
sum_append (m ∷ ms) ns = omega (arith, sum_append ms ns)

reached_append : (l : Layout) (ms ns : List ℕ) → reached (reached l ms) ns ≡ reached l (ms ++ ns)
reached_append l [] ns = refl
reached_append l (m ∷ ms) ns = reached_append (allocated l m) ms ns

-- some blocks and more behind them, where q is what is reached between the two
pub joined : (l : Layout) (ms ns : List ℕ) {q : Layout} → q ≡ reached l ms → reached q ns ≡ reached l (ms ++ ns)
joined l ms ns e = ap (λ (p : Layout). reached p ns) e ∙ reached_append l ms ns

module _ {l : Layout} (ms ns : List ℕ) where
  -- what bounds the last of them bounds the first
  pub begins : Within l (ms ++ ns) → Within l ms
  begins h = record { below = omega (arith, h.below, end_append l.at ms ns, end_ge (end_of l.at ms) ns) }

  -- and those behind the first
  pub onward : {q : Layout} → q ≡ reached l ms → Within l (ms ++ ns) → Within q ns
  onward {q} e h =
      let at : q.at ≡ end_of l.at ms = at_of e ∙ reached_at l ms in
      record { below = rw at (omega (arith, h.below, end_append l.at ms ns)) }

-- two that are reached alike end alike
pub same_ends : (l k : Layout) (ms ns : List ℕ) → reached l ms ≡ reached k ns → end_of l.at ms ≡ end_of k.at ns
same_ends l k ms ns e = sym (reached_at l ms) ∙ at_of e ∙ reached_at k ns

-- ---- what is laid out

-- where it ends
pub laid_end : {l r : Layout} {bs : List (List ℕ)} {xs ys : List ℕ} → Laid l bs r xs ys → r.at ≡ end_of l.at (lengths bs)
laid_end {l} {r} {bs} f = at_of f.ends ∙ reached_at l (lengths bs)

-- no block
pub laid_none : (l : Layout) (xs : List ℕ) → Laid l [] l xs xs
laid_none l xs = record { ends = refl; bytes = sym (put_nil l.at xs) }

-- one block
pub laid_one : {l r : Layout} {n : ℕ} {b xs ys : List ℕ} → length b ≡ n → r ≡ allocated l n → ys ≡ put l.at (lay_block l.at b) xs → Laid l (b ∷ []) r xs ys
laid_one {l} {r} {n} {b} {xs} e q p =
    record { ends = q ∙ ap (allocated l) (sym e); bytes = p ∙ ap (λ (s : List ℕ). put l.at s xs) (sym (append-nil (lay_block l.at b))) }

-- the same, of a block that is stored where `pad` ended its zeros
pub laid_block : {l r : Layout} {n start : ℕ} {b xs ys zs : List ℕ} → length b ≡ n → start ≡ place_of l.at n
    → ys ≡ put l.at (zeros (place_of l.at n - l.at)) xs → zs ≡ put start b ys → r ≡ allocated l n → Laid l (b ∷ []) r xs zs
laid_block {l} {r} {n} {start} {b} {xs} e p z q h =
    laid_one e h (q ∙ ap (put start b) z ∙ ap (λ (k : ℕ). put k b (put l.at (zeros (place_of l.at n - l.at)) xs)) p ∙ lay_put l.at n b xs e)

pub one_end : {l r : Layout} {b xs ys : List ℕ} (n : ℕ) → length b ≡ n → Laid l (b ∷ []) r xs ys → r.at ≡ behind l.at n
one_end {l} n e f = laid_end f ∙ ap (behind l.at) e

-- blocks, and blocks behind them
pub laid_then : {l m r : Layout} {bs cs : List (List ℕ)} {xs ys zs : List ℕ} → Laid l bs m xs ys → Laid m cs r ys zs → Laid l (bs ++ cs) r xs zs
laid_then {l} {m} {r} {bs} {cs} {xs} {ys} {zs} f g =
    let end : ℕ = l.at in
    record {
      ends = g.ends ∙ joined l (lengths bs) (lengths cs) f.ends ∙ ap (reached l) (sym (lengths_append bs cs));
      bytes =
          g.bytes
          ∙ ap (put m.at (lay_blocks m.at cs)) f.bytes
          ∙ ap (λ (k : ℕ). put k (lay_blocks k cs) (put end (lay_blocks end bs) xs)) (laid_end f)
          ∙ ap (λ (k : ℕ). put k (lay_blocks (end_of end (lengths bs)) cs) (put end (lay_blocks end bs) xs)) (sym (length_blocks end bs))
          ∙ put_append (lay_blocks end bs) (lay_blocks (end_of end (lengths bs)) cs) end xs
          ∙ ap (λ (s : List ℕ). put end s xs) (sym (blocks_append end bs cs));
    }

-- a block whose place was kept, stored when the blocks behind it stand
pub laid_before : {l m r : Layout} {n : ℕ} {b : List ℕ} {bs : List (List ℕ)} {xs ys : List ℕ} → length b ≡ n → m ≡ allocated l n
    → Laid m bs r (put l.at (zeros (place_of l.at n - l.at)) xs) ys → Laid l (b ∷ bs) r xs (put (place_of l.at n) b ys)
laid_before {l} {m} {r} {n} {b} {bs} {xs} {ys} e k f =
    let end : ℕ = l.at in
    let z : List ℕ = zeros (place_of end n - end) in
    let q : ℕ = place_of end n in
    let kept : List ℕ = put end z xs in
    record {
      ends = f.ends ∙ ap (λ (p : Layout). reached p (lengths bs)) k ∙ ap (λ (j : ℕ). reached (allocated l j) (lengths bs)) (sym e);
      bytes =
          ap (put q b) (f.bytes ∙ ap (λ (p : Layout). put p.at (lay_blocks p.at bs) kept) k)
          ∙ ap (λ (j : ℕ). put q b (put (q + j) (lay_blocks (behind end n) bs) kept)) (sym e)
          ∙ put_before b (lay_blocks (behind end n) bs) q kept
          ∙ sym (put_append b (lay_blocks (behind end n) bs) q kept)
          ∙ ap (λ (j : ℕ). put (q + j) (lay_blocks (behind end n) bs) (put q b kept)) e
          ∙ ap (put (behind end n) (lay_blocks (behind end n) bs)) (lay_put end n b xs e)
          ∙ lay_more end n b (lay_blocks (behind end n) bs) xs e
          ∙ ap (λ (j : ℕ). put end (lay_block end b ++ lay_blocks (behind end j) bs) xs) (sym e);
    }

-- ---- what is laid out from the beginning on are the pages, and the rest stays

pub laid_pages : {l r : Layout} (bs : List (List ℕ)) {xs ys : List ℕ} → l.at ≡ 0 → Laid l bs r xs ys → length (pages_of bs) ≤ length xs
    → ys ≡ pages_of bs ++ drop (length (pages_of bs)) xs
laid_pages {l} bs {xs} e f room = f.bytes ∙ ap (λ (k : ℕ). put k (lay_blocks k bs) xs) e ∙ put_whole (pages_of bs) xs room
