-- A store behind the vertex table leaves the table as it is.
use Prim.Native.Nat.{ℕ, ◌+◌, ◌*◌, ◌/◌, ◌≤◌, ◌<◌}
use native.Mathlib.Omega.{arith}
use mathlib.Core.Path.{◌≡◌, sym, ◌∙◌}
use mathlib.Core.List.{List}
use lib.ListN.{get_or, set, length-set}
use lib.Seq.{get_or-set_other}
use Rattle.write_vertices.specs.Table.{triple, triple_at, met, half_word_at, child_of, Link, child, Table}
use Rattle.write_vertices.proofs.Triples.{met_ext}
use Rattle.write_vertices.proofs.Links.{apart}
use Rattle.write_vertices.proofs.Ways.{ahead_kept}

module _ (t : List ℕ) (b n p v : ℕ) (T : Table t b n) (h : b + 2 * n ≤ p) where
  same_word : (k : ℕ) → k < b + 2 * n → get_or (set t p v) k 0 ≡ get_or t k 0
  same_word k l = get_or-set_other t p k v 0 (λ e. omega arith)

  same_half : (s : ℕ) → s / 2 < b + 2 * n → half_word_at (set t p v) s ≡ half_word_at t s
  same_half s l = rw (same_word (s / 2) l)

  same_link : (s : ℕ) → Link b n s → half_word_at (set t p v) s ≡ half_word_at t s
  same_link s l = same_half s (apart T.wide l).within

  same_triple : (i : ℕ) → i < n → triple (set t p v) b i ≡ triple t b i
  unfolding triple_at
  same_triple i l = rw (same_word (b + 2 * i) (omega arith), same_word (b + 2 * i + 1) (omega arith))

  pub met_set : met (set t p v) b n ≡ met t b n
  met_set = met_ext t (set t p v) b n same_triple

  pub table_set : Table (set t p v) b n
  table_set = record {
    some = T.some;
    narrow = T.narrow;
    few = T.few;
    wide = T.wide;
    room = omega (arith, T.room, length-set t p v);
    links = λ s l. rw (same_link s l) (T.links s l);
    rising = λ q key l. rw (same_link (child_of b q key) (child q key l)) (T.rising q key l);
    alone = λ s s' l k. rw (same_link s l, same_link s' k) (T.alone s s' l k);
    later = λ i l k. same_half (2 * i + 1) (omega arith) ∙ T.later i l k;
    short = λ i l. rw (same_triple i l) (T.short i l);
    stands = λ i l h. rw (same_triple i l) (ahead_kept t b n T (set t p v) (λ s q _. same_link s q) (triple t b i) i (T.stands i l h));
    once = λ i j l k e. T.once i j l k (sym (same_triple i (omega arith)) ∙ e ∙ same_triple j k);
  }
