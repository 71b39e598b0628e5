-- What gets a block only where there is something: its block, size and address there, and the block laid out. Assumes nothing.
use Rattle.std.proofs.Common.{◌≡◌, ℕ, zero, suc, ◌-◌, ◌^◌, ◌<◌, List, [], ◌∷◌, length, refl, ap, arith}
use Rattle.fields.specs.Bytes.{zeros}
use Rattle.fields.specs.Put.{put}
use Rattle.write_blocks.specs.Layout.{place_of, behind, end_of, address}
use Rattle.write_blocks.specs.Laid.{allocated, Laid}
use Rattle.write_blocks.specs.declared.Layout.{Layout}
use Rattle.write_blocks.proofs.Layouts.{laid_none, laid_block}
use Rattle.write_blocks.specs.Optional.{block_of, size_of, address_of}

block_some : (bs : List ℕ) → 0 < length bs → block_of bs ≡ bs ∷ []
block_some [] h = absurd (omega arith)
block_some (b ∷ bs) h = refl

block_none : (bs : List ℕ) → length bs ≡ 0 → block_of bs ≡ []
block_none [] h = refl
block_none (b ∷ bs) h = absurd (omega arith)

pub size_some : (n : ℕ) → 0 < n → size_of n ≡ n ∷ []
size_some zero h = absurd (omega arith)
size_some (suc n) h = refl

pub address_some : (end n : ℕ) → 0 < n → address_of end n ≡ address (place_of end n)
address_some end zero h = absurd (omega arith)
address_some end (suc n) h = refl

-- the end behind it
pub behind_some : (end n : ℕ) → 0 < n → end_of end (size_of n) ≡ behind end n
behind_some end n h = ap (end_of end) (size_some n h)

pub some_below : (end n : ℕ) → 0 < n → end_of end (size_of n) < 2 ^ 28 → behind end n < 2 ^ 28
some_below end n h b = rw (behind_some end n h) at b

pub laid_nothing : (l : Layout) (bs xs : List ℕ) → length bs ≡ 0 → Laid l (block_of bs) l xs xs
laid_nothing l bs xs e = rw (block_none bs e) (laid_none l xs)

-- stored where `pad` ended its zeros
pub laid_some : {l r : Layout} {n start : ℕ} {xs ys zs : List ℕ} (b : List ℕ) → length b ≡ n → 0 < n → start ≡ place_of l.at n
    → ys ≡ put l.at (zeros (place_of l.at n - l.at)) xs → zs ≡ put start b ys → r ≡ allocated l n → Laid l (block_of b) r xs zs
laid_some b e h p z q k = rw (block_some b (omega arith)) (laid_block e p z q k)
