-- That blocks stand in the pages where the layout puts them: what a reader of written pages starts from.
use Rattle.std.proofs.Common.{◌≡◌, ℕ, zero, suc, ◌+◌, ◌-◌, ◌<◌, ◌≤◌, List, [], ◌∷◌, ◌++◌, length, get_or, sym, refl, subst, append_assoc, append-nil, arith, length-append}
use lib.ListN.{length-replicate}
use Rattle.fields.specs.Bytes.{zeros}
use Rattle.fields.specs.Rows.{row_bytes}
use Rattle.fields.proofs.Holds.{Holds, held_end}
use Rattle.fields.proofs.Rows.{length_rows}
use Rattle.write_blocks.specs.Layout.{place_of, behind, end_of, lay_block, lay_blocks, pages_of, address}
use Rattle.write_blocks.specs.Lists.{part_count, table_at, offsets_address, items_end, list_row, front_blocks, list_blocks}
use Rattle.write_blocks.specs.Laid.{start_at, lengths}
use Rattle.write_blocks.proofs.Layouts.{place_ge, length_lay}

-- each of the blocks bs stands in s, where the layout puts it behind `end`: the place comes from the sizes alone
abbrev pub Stand : List ℕ → ℕ → List (List ℕ) → Type 0
Stand s end [] = Unit
Stand s end (b ∷ bs) = Holds s (place_of end (length b)) b × Stand s (behind end (length b)) bs

stand_from : (end : ℕ) (bs : List (List ℕ)) (p t : List ℕ) → length p ≡ end → Stand (p ++ (lay_blocks end bs ++ t)) end bs
stand_from end [] p t e = tt
stand_from end (b ∷ bs) p t e =
    let z = zeros (place_of end (length b) - end) in
    let rest = lay_blocks (behind end (length b)) bs in
    let l : length (p ++ lay_block end b) ≡ behind end (length b) = omega (arith, length-append p (lay_block end b), length_lay end (length b) b refl) in
    let w : p ++ ((lay_block end b ++ rest) ++ t) ≡ (p ++ lay_block end b) ++ (rest ++ t) = simp append_assoc in
    let first : Holds (p ++ ((lay_block end b ++ rest) ++ t)) (place_of end (length b)) b = record {
      before = p ++ z;
      following = rest ++ t;
      joined = simp append_assoc;
      place = rw (length-append p z, length-replicate {A = ℕ} (place_of end (length b) - end) 0) (omega (arith, place_ge end (length b)));
    } in
    (first, subst (λ (s : List ℕ). Stand s (behind end (length b)) bs) (sym w) (stand_from (behind end (length b)) bs (p ++ lay_block end b) t l))

-- the one law of the pages: each block stands where the layout puts it
pub stand : (bs : List (List ℕ)) → Stand (pages_of bs) 0 bs
stand bs = subst (λ (s : List ℕ). Stand s 0 bs) (append-nil (pages_of bs)) (stand_from 0 bs [] [] refl)

-- blocks, and blocks behind them
pub stand_first : (s : List ℕ) (end : ℕ) (bs cs : List (List ℕ)) → Stand s end (bs ++ cs) → Stand s end bs
stand_first s end [] cs h = tt
stand_first s end (b ∷ bs) cs h = (h.0, stand_first s (behind end (length b)) bs cs h.1)

pub stand_second : (s : List ℕ) (end : ℕ) (bs cs : List (List ℕ)) → Stand s end (bs ++ cs) → Stand s (end_of end (lengths bs)) cs
stand_second s end [] cs h = h
stand_second s end (b ∷ bs) cs h = stand_second s (behind end (length b)) bs cs h.1

-- behind blocks of these sizes
pub stand_behind : (P : List ℕ) (end : ℕ) (bs cs : List (List ℕ)) (ns : List ℕ) → lengths bs ≡ ns → Stand P end (bs ++ cs) → Stand P (end_of end ns) cs
stand_behind P end bs cs ns e h = subst (λ (l : List ℕ). Stand P (end_of end l) cs) e (stand_second P end bs cs h)

-- block i
pub stand_at : (s : List ℕ) (end : ℕ) (bs : List (List ℕ)) (i : ℕ) → i < length bs → Stand s end bs → Holds s (start_at end (lengths bs) i) (get_or bs i [])
stand_at s end [] i l h = absurd (omega arith)
stand_at s end (b ∷ bs) zero l h = h.0
stand_at s end (b ∷ bs) (suc i) l h = stand_at s (behind end (length b)) bs i (omega arith) h.1

-- a list's header ends within the pages
pub list_place : (P : List ℕ) (end vft w : ℕ) (items : List (List ℕ)) → Stand P end (list_blocks end vft w items) → place_of end 48 + 48 ≤ length P
unfolding list_blocks front_blocks
list_place P end vft w items blocks =
    let n : ℕ = length items in
    let k : ℕ = part_count w n in
    let row = list_row vft n (address (table_at end k)) (offsets_address (items_end end w n) k) k in
    let e : length (row_bytes row) ≡ 48 = length_rows row in
    subst (λ (j : ℕ). place_of end j + j ≤ length P) e (held_end blocks.0)
