-- What specs/Placed.antt states: the blocks of the pages are aligned, each within a page, ascending and apart, and all else is zero.
use Rattle.std.proofs.Common.{◌≡◌, ℕ, zero, suc, ◌+◌, ◌-◌, ◌%◌, ◌<◌, ◌≤◌, Bool, true, false, leb, List, [], ◌∷◌, ◌++◌, length, get_or, refl, ap, ◌∙◌, zero-add, arith, length-append, get_or-append-add, leb-false, leb-true}
use lib.ListN.{length-replicate, get_or-replicate, get_or-append}
use Rattle.fields.specs.Bytes.{zeros}
use Rattle.fields.proofs.Holds.{Holds, held_end}
use Rattle.write_blocks.specs.Layout.{place_of, behind, lay_block, lay_blocks, pages_of}
use Rattle.write_blocks.specs.Laid.{start_at, lengths}
use Rattle.write_blocks.specs.Placed.{Small, start, block_size, Placed}
use Rattle.write_blocks.proofs.Layouts.{place_ge, place_aligned, place_in_page, end_near, length_lay, length_blocks, length_lengths}
use Rattle.write_blocks.proofs.Standing.{stand, stand_at}

-- a byte of what stands at a place
held_byte : {s : List ℕ} {at : ℕ} {b : List ℕ} → Holds s at b → (k : ℕ) → k < length b → get_or s (at + k) 0 ≡ get_or b k 0
held_byte {s} {at} {b} h k l = rw (h.joined, ← h.place, get_or-append-add h.before (b ++ h.following) k 0) (get_or-append b h.following 0 k l)

-- ---- blocks behind any end

starts_aligned : (end : ℕ) (bs : List (List ℕ)) (i : ℕ) → i < length bs → start_at end (lengths bs) i % 16 ≡ 0
starts_aligned end [] i h = absurd (omega arith)
starts_aligned end (b ∷ bs) zero h = place_aligned end (length b)
starts_aligned end (b ∷ bs) (suc i) h = starts_aligned (behind end (length b)) bs i (omega arith)

starts_in_page : (end : ℕ) (bs : List (List ℕ)) (i : ℕ) → Small (lengths bs) → i < length bs → start_at end (lengths bs) i % 16384 + block_size bs i ≤ 16384
starts_in_page end [] i few h = absurd (omega arith)
starts_in_page end (b ∷ bs) zero few h = place_in_page end (length b) few.0
starts_in_page end (b ∷ bs) (suc i) few h = starts_in_page (behind end (length b)) bs i few.1 (omega arith)

starts_ge : (end : ℕ) (bs : List (List ℕ)) (i : ℕ) → i < length bs → end ≤ start_at end (lengths bs) i
starts_ge end [] i h = absurd (omega arith)
starts_ge end (b ∷ bs) zero h = place_ge end (length b)
starts_ge end (b ∷ bs) (suc i) h = omega (arith, place_ge end (length b), starts_ge (behind end (length b)) bs i (omega arith))

starts_ascend : (end : ℕ) (bs : List (List ℕ)) (i j : ℕ) → i < j → j < length bs → start_at end (lengths bs) i + block_size bs i ≤ start_at end (lengths bs) j
starts_ascend end [] i j l h = absurd (omega arith)
starts_ascend end (b ∷ bs) i zero l h = absurd (omega arith)
starts_ascend end (b ∷ bs) zero (suc j) l h = starts_ge (behind end (length b)) bs j (omega arith)
starts_ascend end (b ∷ bs) (suc i) (suc j) l h = starts_ascend (behind end (length b)) bs i j (omega arith) (omega arith)

-- byte p of them, counted from `end`, is in one of them or zero
skipped_from : (end : ℕ) (bs : List (List ℕ)) (p : ℕ) → p < length (lay_blocks end bs)
    → ((i : ℕ) → i < length bs → start_at end (lengths bs) i ≤ end + p → end + p < start_at end (lengths bs) i + block_size bs i → ⊥)
    → get_or (lay_blocks end bs) p 0 ≡ 0
skipped_from end [] p h f = absurd (omega arith)
skipped_from end (b ∷ bs) p h f = by (leb (suc p) gap) (leb (suc p) long) refl refl (skipped_from next bs (p - long))
  where
    next : ℕ
    next = behind end (length b)

    gap : ℕ
    gap = place_of end (length b) - end

    long : ℕ
    long = length (lay_block end b)

    rest : List ℕ
    rest = lay_blocks next bs

    by : (s t : Bool) → leb (suc p) gap ≡ s → leb (suc p) long ≡ t
        → (p - long < length rest
        → ((i : ℕ) → i < length bs → start_at next (lengths bs) i ≤ next + (p - long) → next + (p - long) < start_at next (lengths bs) i + block_size bs i → ⊥)
        → get_or rest (p - long) 0 ≡ 0)
        → get_or (lay_block end b ++ rest) p 0 ≡ 0
    -- before the block
    by true t d e more =
        let l : p < gap = leb-true (suc p) gap d in
        let z : length (zeros gap) ≡ gap = length-replicate gap 0 in
        let a : length (lay_block end b) ≡ length (zeros gap) + length b = length-append (zeros gap) b in
        get_or-append (lay_block end b) rest 0 p (omega arith) ∙ get_or-append (zeros gap) b 0 p (omega arith) ∙ get_or-replicate gap p 0 0 l
    -- in it
    by false true d e more =
        let l : p < long = leb-true (suc p) long e in
        absurd (f zero (omega arith) (omega (arith, leb-false (suc p) gap d, place_ge end (length b))) (omega (arith, length_lay end (length b) b refl)))
    -- behind it
    by false false d e more =
        let l : long ≤ p = omega (arith, leb-false (suc p) long e) in
        let q : p ≡ long + (p - long) = omega arith in
        let n : next + (p - long) ≡ end + p = omega (arith, length_lay end (length b) b refl) in
        let a : length (lay_block end b ++ rest) ≡ long + length rest = length-append (lay_block end b) rest in
        ap (λ (k : ℕ). get_or (lay_block end b ++ rest) k 0) q
        ∙ get_or-append-add (lay_block end b) rest (p - long) 0
        ∙ more (omega arith) (λ i u v w. f (suc i) (omega arith) (omega arith) (omega arith))

-- ---- the pages

pub blocks_placed : (bs : List (List ℕ)) → Small (lengths bs) → Placed bs
blocks_placed bs few =
    record {
      aligned = starts_aligned 0 bs;
      in_page = λ i h. starts_in_page 0 bs i few h;
      ascending = starts_ascend 0 bs;
      inside = λ i h. held_end (held i h);
      stored = λ i k h l. byte i k h l;
      skipped = λ p h f. skipped_from 0 bs p h (λ i u v w. f i u (rw zero-add at v) (rw zero-add at w));
      short = omega (arith, end_near 0 (lengths bs) few, length_blocks 0 bs, length_lengths bs);
    }
  where
    held : (i : ℕ) → i < length bs → Holds (pages_of bs) (start bs i) (get_or bs i [])
    held i h = stand_at (pages_of bs) 0 bs i h (stand bs)

    byte : (i k : ℕ) → i < length bs → k < block_size bs i → get_or (pages_of bs) (start bs i + k) 0 ≡ get_or (get_or bs i []) k 0
    byte i k h l = held_byte (held i h) k l
