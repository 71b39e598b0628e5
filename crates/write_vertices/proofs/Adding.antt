-- A vertex added to a table makes a table with that vertex more.
use Prim.Native.Nat.{ℕ, suc, ◌+◌, ◌*◌, ◌/◌, ◌%◌, ◌≤◌, ◌<◌, ◌^◌}
use native.Mathlib.Omega.{arith}
use native.Mathlib.Decide.{dec_lt, ℕ_discrete}
use native.Mathlib.Numerals.{add-one}
use mathlib.Core.Path.{◌≡◌, ap, sym, subst, ◌∙◌}
use mathlib.Core.List.{List, [], ◌∷◌, ◌++◌}
use mathlib.Core.Logic.{◌⊎◌, inl, inr, ⊎_elim}
use lib.ListN.{length, get_or, set, drop, length-set}
use lib.Seq.{get_or-set_same, get_or-set_other, drop-set-lt}
use Rattle.write_vertices.proofs.Triples.{met_ext}
use Rattle.write_vertices.proofs.Links.{low_at, high_at, linked_own, linked_other, child_is, Apart, apart}
use Rattle.write_vertices.proofs.Ways.{way_link, way_kept, ahead_kept}
use Rattle.write_vertices.specs.Table.{triple, triple_at, met, half_word_at, child_of, root_of, linked_with, added, Ahead, Link, root, child, Table, Ends, TableRoom}

-- t after the first and after the second of the three stores
abbrev first : List ℕ → ℕ → ℕ → ℕ → List ℕ
first t b n x = set t (b + 2 * n) (x % 4294967296)

abbrev second : List ℕ → ℕ → ℕ → ℕ → List ℕ
second t b n x = set (first t b n x) (b + 2 * n + 1) (x / 4294967296)

module _ (t : List ℕ) (b n x s : ℕ) (R : TableRoom t b n x) (lt : n < 65536) (E : Ends t b n x s) where
  abbrev after : List ℕ
  after = added t b n x s

  -- the half is a link of the table
  link : Link b n s
  link = way_link t b n R.table E.walk.way

  off : Apart b n s
  off = apart R.table.wide link

  -- its words
  low_word : get_or after (b + 2 * n) 0 ≡ x % 4294967296
  unfolding added
  low_word =
      get_or-set_other (second t b n x) (s / 2) (b + 2 * n) _ 0 (λ e. omega (arith, off.within))
      ∙ get_or-set_other (first t b n x) (b + 2 * n + 1) (b + 2 * n) _ 0 (λ e. omega arith)
      ∙ get_or-set_same t (b + 2 * n) _ 0 (omega (arith, R.more))

  high_word : get_or after (b + 2 * n + 1) 0 ≡ x / 4294967296
  unfolding added
  high_word =
      get_or-set_other (second t b n x) (s / 2) (b + 2 * n + 1) _ 0 (λ e. omega (arith, off.within))
      ∙ get_or-set_same (first t b n x) (b + 2 * n + 1) _ 0 (simp length-set (omega (arith, R.more)))

  link_word : get_or after (s / 2) 0 ≡ linked_with (get_or t (s / 2) 0) s ((n + 1) % 65536)
  unfolding added
  link_word = get_or-set_same (second t b n x) (s / 2) _ 0 (simp length-set (omega (arith, R.more, off.within)))

  other_word : (k : ℕ) → k < b + 2 * n → (k ≡ s / 2 → ⊥) → get_or after k 0 ≡ get_or t k 0
  unfolding added
  other_word k h ne =
      get_or-set_other (second t b n x) (s / 2) k _ 0 ne
      ∙ get_or-set_other (first t b n x) (b + 2 * n + 1) k _ 0 (λ e. omega arith)
      ∙ get_or-set_other t (b + 2 * n) k _ 0 (λ e. omega arith)

  pub length_added : length after ≡ length t
  unfolding added
  length_added = simp length-set

  pub drop_added : drop (b + 2 * (n + 1)) after ≡ drop (b + 2 * (n + 1)) t
  unfolding added
  drop_added =
      drop-set-lt (b + 2 * (n + 1)) (second t b n x) (s / 2) _ (omega (arith, off.within))
      ∙ drop-set-lt (b + 2 * (n + 1)) (first t b n x) (b + 2 * n + 1) _ (omega arith)
      ∙ drop-set-lt (b + 2 * (n + 1)) t (b + 2 * n) _ (omega arith)

  -- its halves
  own_half : half_word_at after s ≡ (n + 1) % 65536
  own_half = rw link_word (linked_own (get_or t (s / 2) 0) s ((n + 1) % 65536) E.free (omega arith))

  other_half : (k : ℕ) → k / 2 < b + 2 * n → (k ≡ s → ⊥) → half_word_at after k ≡ half_word_at t k
  other_half k h ne = elim (ℕ_discrete (k / 2) (s / 2)) [
    | yes e ↦ rw (e, link_word) (linked_other (get_or t (s / 2) 0) s ((n + 1) % 65536) E.free (omega arith) k (λ q. ne (omega arith)))
    | no e ↦ rw (other_word (k / 2) h e)
  ]

  same_link : (k : ℕ) → Link b n k → 0 < half_word_at t k → half_word_at after k ≡ half_word_at t k
  same_link k l h = other_half k (apart R.table.wide l).within (λ e. let z : half_word_at t k ≡ 0 = ap (half_word_at t) e ∙ E.free in omega arith)

  -- its triples
  old_triple : (i : ℕ) → i < n → triple after b i ≡ triple t b i
  unfolding triple_at
  old_triple i h =
      let z : get_or after (b + 2 * i + 1) 0 % 65536 ≡ get_or t (b + 2 * i + 1) 0 % 65536 =
      sym (low_at after (b + 2 * i + 1)) ∙ other_half (2 * (b + 2 * i + 1)) (omega arith) (λ e. off.no_z i (sym e)) ∙ low_at t (b + 2 * i + 1) in
      rw (other_word (b + 2 * i) (omega arith) (λ e. off.no_xy i (sym e)), z)

  new_triple : triple after b n ≡ x
  unfolding triple_at
  new_triple = rw (low_word, high_word) (omega (arith, R.short))

  pub met_added : met after b (n + 1) ≡ met t b n ++ (x ∷ [])
  unfolding met
  met_added = rw (add-one, met_ext t after b n old_triple, new_triple)

  -- the new vertex has no child
  no_child : (key : ℕ) → half_word_at after (child_of b n key) ≡ 0
  no_child key = ⊎_elim
      (λ e. rw e.1 (high_at after (b + 2 * n + 1) ∙ rw high_word (omega (arith, R.short))))
      (λ e. rw e.1 (other_half (2 * n + 1) (omega (arith, R.trees lt)) (λ q. off.no_later n (omega arith) (R.trees lt) (sym q)) ∙ R.table.later n (omega arith) (R.trees lt)))
      (child_is b n key)

  -- a link of the new table that leads somewhere is one of the old table's
  old_link : {k : ℕ} → Link b (n + 1) k → 0 < half_word_at after k → Link b n k
  old_link (root k h) some = root k h
  old_link (child p key h) some = elim (dec_lt p n) [
    | yes l ↦ child p key l
    | no l ↦
        let e : p ≡ n = omega arith in
        let z : half_word_at after (child_of b p key) ≡ 0 = rw e (no_child key) in
        absurd (omega arith)
  ]

  -- and leads to the new vertex, or where it led before
  leads : (k : ℕ) → Link b n k → ((k ≡ s) × (half_word_at after k ≡ (n + 1) % 65536)) ⊎ (half_word_at after k ≡ half_word_at t k)
  leads k l = elim (ℕ_discrete k s) [
    | yes e ↦ inl (e, rw e own_half)
    | no e ↦ inr (other_half k (apart R.table.wide l).within e)
  ]

  links_added : (k : ℕ) → Link b (n + 1) k → (half_word_at after k ≤ n + 1) × (half_word_at after k ≤ 65535)
  links_added k l = elim (dec_lt 0 (half_word_at after k)) [
    | yes some ↦ ⊎_elim
        (λ q. (omega (arith, q.1), omega (arith, q.1)))
        (λ q. let o = R.table.links k (old_link l some) in (omega (arith, o.0), omega (arith, o.1)))
        (leads k (old_link l some))
    | no none ↦ (omega arith, omega arith)
  ]

  rising_added : (p key : ℕ) → p < n + 1 → 0 < half_word_at after (child_of b p key) → suc p < half_word_at after (child_of b p key)
  rising_added p key h some = elim (dec_lt p n) [
    | yes l ↦ ⊎_elim
        (λ q. omega (arith, q.1))
        (λ q. let old : 0 < half_word_at t (child_of b p key) = omega arith in omega (arith, R.table.rising p key l old))
        (leads (child_of b p key) (child p key l))
    | no l ↦
        let e : p ≡ n = omega arith in
        let z : half_word_at after (child_of b p key) ≡ 0 = rw e (no_child key) in
        absurd (omega arith)
  ]

  alone_added : (j k : ℕ) → Link b (n + 1) j → Link b (n + 1) k → 0 < half_word_at after j → half_word_at after j ≡ half_word_at after k → j ≡ k
  alone_added j k lj lk some e =
      let oj = old_link lj some in
      let ok = old_link lk (omega arith) in
      let bj = (R.table.links j oj).0 in
      let bk = (R.table.links k ok).0 in
      ⊎_elim
      (λ p. ⊎_elim (λ q. p.0 ∙ sym q.0) (λ q. absurd (omega (arith, p.1))) (leads k ok))
      (λ p. ⊎_elim (λ q. absurd (omega (arith, q.1))) (λ q. R.table.alone j k oj ok (omega arith) (omega arith)) (leads k ok))
      (leads j oj)

  short_added : (i : ℕ) → i < n + 1 → triple after b i < 2 ^ 48
  short_added i h = elim (dec_lt i n) [
    | yes l ↦ rw (old_triple i l) (R.table.short i l)
    | no l ↦ let e : i ≡ n = omega arith in rw (e, new_triple) R.short
  ]

  stands_added : (i : ℕ) → i < n + 1 → i < 65535 → Ahead after b (root_of b (triple after b i)) (triple after b i) i
  stands_added i l h = elim (dec_lt i n) [
    | yes k ↦ rw (old_triple i k) (ahead_kept t b n R.table after same_link (triple t b i) i (R.table.stands i k h))
    | no k ↦
        let e : n ≡ i = omega arith in
        subst (λ (j : ℕ). Ahead after b (root_of b (triple after b j)) (triple after b j) j) e
        (rw new_triple (record { steps = E.walk.steps; place = s; left = E.walk.left; way = way_kept t b n R.table after same_link E.walk.way; here = own_half ∙ omega arith }))
  ]

  pub table_added : Table after b (n + 1)
  table_added = record {
    some = R.table.some;
    narrow = R.table.narrow;
    few = omega arith;
    wide = omega (arith, R.trees lt);
    room = omega (arith, R.more, length_added);
    links = links_added;
    rising = rising_added;
    alone = alone_added;
    later = λ i h l. other_half (2 * i + 1) (omega arith) (λ e. off.no_later i (omega arith) l (sym e)) ∙ R.table.later i (omega arith) l;
    short = short_added;
    stands = stands_added;
    once = λ i j l h e. elim (dec_lt j n) [
      | yes k ↦ R.table.once i j l k (sym (old_triple i (omega arith)) ∙ e ∙ old_triple j k)
      | no k ↦ E.none i (omega arith) (sym (old_triple i (omega arith)) ∙ e ∙ ap (λ (m : ℕ). triple after b m) (omega arith) ∙ new_triple)
    ];
  }
