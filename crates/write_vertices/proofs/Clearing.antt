-- The first words of a table filled with zeros: what `clear` leaves, and that it is a table of no vertex.
use Prim.Native.Nat.{ℕ, zero, suc, ◌+◌, ◌*◌, ◌/◌, ◌≤◌, ◌<◌, ◌^◌, min}
use native.Mathlib.Omega.{arith}
use mathlib.Core.Path.{◌≡◌, ap, ◌∙◌}
use mathlib.Core.List.{List, [], ◌∷◌, ◌++◌}
use lib.ListN.{length, get_or, drop, length-replicate, get_or-replicate, get_or-append}
use lib.Seq.{drop_at}
use Rattle.fields.specs.Bytes.{over, zeros}
use Rattle.fields.specs.Put.{put}
use Rattle.fields.proofs.Puts.{length_put, put_whole}
use Rattle.distinct.proofs.Left.{drop_more}
use Rattle.write_vertices.specs.Table.{half_word_at, Link, root, child, cleared, Table}
use Rattle.write_vertices.proofs.Links.{half_zero}

-- zeros as far as there are words, and what stands behind them
pub cleared_parts : (b : ℕ) (t : List ℕ) (n : ℕ) → n ≡ min b (length t) → zeros n ++ drop n t ≡ cleared t b
unfolding cleared over
cleared_parts zero t n e = let z : n ≡ 0 = omega arith in rw z
cleared_parts (suc b) [] n e = let z : n ≡ 0 = omega arith in rw z
cleared_parts (suc b) (x ∷ t) zero e = absurd (omega arith)
cleared_parts (suc b) (x ∷ t) (suc n) e = ap (λ (l : List ℕ). 0 ∷ l) (cleared_parts b t n (omega arith))

-- a table of no vertex
module _ (t : List ℕ) (b : ℕ) (l : b ≤ length t) where
  cleared_is : cleared t b ≡ zeros b ++ drop b t
  unfolding cleared put
  cleared_is =
      let size : length (zeros b) ≡ b = length-replicate b 0 in
      put_whole (zeros b) t (omega arith) ∙ ap (λ (k : ℕ). zeros b ++ drop k t) size

  pub length_cleared : length (cleared t b) ≡ length t
  unfolding cleared put
  length_cleared = length_put zero (zeros b) t

  no_link : (s : ℕ) → s / 2 < b → half_word_at (cleared t b) s ≡ 0
  no_link s q =
      let z : get_or (cleared t b) (s / 2) 0 ≡ 0 =
      rw (cleared_is, get_or-append (zeros b) (drop b t) 0 (s / 2) (rw (length-replicate {A = ℕ} b 0) q), get_or-replicate {A = ℕ} b (s / 2) 0 0 q) in
      rw z (half_zero s)

  unlinked : {s : ℕ} → Link b 0 s → half_word_at (cleared t b) s ≡ 0
  unlinked (root k h) = no_link (2 * k) (omega arith)
  unlinked (child p key h) = absurd (omega arith)

  pub table_cleared : 0 < b → b ≤ 2 ^ 32 → Table (cleared t b) b 0
  table_cleared h narrow = record {
    some = h;
    narrow = narrow;
    few = omega arith;
    wide = omega arith;
    room = omega (arith, length_cleared);
    links = λ s l. let z = unlinked l in (omega arith, omega arith);
    rising = λ p key q d. absurd (omega arith);
    alone = λ s s' l k d e. let z = unlinked l in absurd (omega arith);
    later = λ i q l. no_link (2 * i + 1) (omega arith);
    short = λ i q. absurd (omega arith);
    stands = λ i q l. absurd (omega arith);
    once = λ i j a q e. omega arith;
  }

  pub drop_cleared : (m : ℕ) → drop (b + 2 * m) (cleared t b) ≡ drop (b + 2 * m) t
  drop_cleared m = drop_more b (b + 2 * m) (omega arith) (cleared t b) t (rw cleared_is (drop_at (zeros b) (drop b t) b (length-replicate {A = ℕ} b 0)))
