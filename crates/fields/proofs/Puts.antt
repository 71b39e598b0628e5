-- The laws of `put`, the one store: it keeps the length, two side by side are one, one inside the other goes in, what it is by `take` and `drop`,
-- and what it leaves and stores at each index. Then those of a number that is stored, over every width.
use mathlib.Core.Path.{◌≡◌, refl, sym, ap, subst, ◌∙◌}
use mathlib.Core.List.{List, [], ◌∷◌, ◌++◌, append_assoc}
use Prim.Native.Nat.{ℕ, zero, suc, ◌+◌, ◌-◌, ◌/◌, ◌%◌, ◌^◌, ◌≤◌, ◌<◌}
use native.Mathlib.Nat.{zero-add, add-zero, add-suc, suc-add, not-suc-le-zero, le_of_suc-le-suc}
use native.Mathlib.Numerals.{add-one}
use native.Mathlib.Omega.{arith}
use lib.ListN.{length, length-set, length-drop, take, drop, set, get_or, take-append-drop}
use borrow.Rule.Slice.PartMut.{put_mid, Post-is}
use lib.Seq.{sets, set_out, get_or-set_same, get_or-set_other, ext_get_or, get_or-drop, take_all, length-take-le, drop_at}
use Rattle.fields.specs.Bytes.{over, le_at, le_bytes, les}
use Rattle.fields.specs.Put.{put}
use Rattle.fields.proofs.Over.{length_over, over_over, over_eq}
use Rattle.fields.proofs.Bytes.{same, length_bytes, bytes_join, bytes_mod, le_bytes_lem, les_drop}

-- ---- put

pub length_put : (at : ℕ) (bs xs : List ℕ) → length (put at bs xs) ≡ length xs
unfolding put
length_put zero bs xs = length_over bs xs
length_put (suc at) bs [] = refl
length_put (suc at) bs (x ∷ xs) = ap suc (length_put at bs xs)

pub put_nil : (at : ℕ) (xs : List ℕ) → put at [] xs ≡ xs
unfolding put over
put_nil zero xs = refl
put_nil (suc at) [] = refl
put_nil (suc at) (x ∷ xs) = ap (λ (l : List ℕ). x ∷ l) (put_nil at xs)

-- the first element is a store, and the rest goes behind it
pub put_cons : (at b : ℕ) (bs xs : List ℕ) → put at (b ∷ bs) xs ≡ put (suc at) bs (set xs at b)
unfolding put over
put_cons zero b bs [] = refl
put_cons zero b bs (x ∷ xs) = refl
put_cons (suc at) b bs [] = refl
put_cons (suc at) b bs (x ∷ xs) = ap (λ (l : List ℕ). x ∷ l) (put_cons at b bs xs)

pub put_one : (at b : ℕ) (xs : List ℕ) → put at (b ∷ []) xs ≡ set xs at b
put_one at b xs = put_cons at b [] xs ∙ put_nil (suc at) (set xs at b)

-- a run is its elements, stored one by one
pub put_sets : (bs : List ℕ) (at : ℕ) (xs : List ℕ) → sets xs at bs ≡ put at bs xs
put_sets [] at xs = sym (put_nil at xs)
put_sets (b ∷ bs) at xs = put_sets bs (suc at) (set xs at b) ∙ sym (put_cons at b bs xs)

pub put_two : (at a b : ℕ) (xs : List ℕ) → set (set xs at a) (at + 1) b ≡ put at (a ∷ b ∷ []) xs
put_two at a b xs = rw (add-one at) (put_sets (a ∷ b ∷ []) at xs)

pub put_three : (at a b c : ℕ) (xs : List ℕ) → set (set (set xs at a) (at + 1) b) (at + 2) c ≡ put at (a ∷ b ∷ c ∷ []) xs
put_three at a b c xs =
    let e : at + 2 ≡ suc (suc at) = omega arith in
    rw (add-one at, e) (put_sets (a ∷ b ∷ c ∷ []) at xs)

pub put_four : (at a b c d : ℕ) (xs : List ℕ) → set (set (set (set xs at a) (at + 1) b) (at + 2) c) (at + 3) d ≡ put at (a ∷ b ∷ c ∷ d ∷ []) xs
put_four at a b c d xs =
    let e : at + 2 ≡ suc (suc at) = omega arith in
    let f : at + 3 ≡ suc (suc (suc at)) = omega arith in
    rw (add-one at, e, f) (put_sets (a ∷ b ∷ c ∷ d ∷ []) at xs)

-- past the end it changes nothing
pub past_end : (at : ℕ) (bs xs : List ℕ) → length xs ≤ at → put at bs xs ≡ xs
past_end at [] xs h = put_nil at xs
past_end at (b ∷ bs) xs h = rw (put_cons at b bs xs, set_out xs at b h) (past_end (suc at) bs xs (omega arith))

-- two runs, one right behind the other, are one run
pub put_append : (bs cs : List ℕ) (at : ℕ) (xs : List ℕ) → put (at + length bs) cs (put at bs xs) ≡ put at (bs ++ cs) xs
put_append [] cs at xs = rw (add-zero, put_nil)
put_append (b ∷ bs) cs at xs = rw (put_cons at b bs xs, put_cons at b (bs ++ cs) xs, ← put_append bs cs (suc at) (set xs at b)) (ap (λ (k : ℕ). put k cs (put (suc at) bs (set xs at b))) (omega arith))

-- the same, of a first run of n elements
pub put_next : (n at : ℕ) (bs cs xs : List ℕ) → length bs ≡ n → put (at + n) cs (put at bs xs) ≡ put at (bs ++ cs) xs
put_next n at bs cs xs e = subst (λ (k : ℕ). put (at + k) cs (put at bs xs) ≡ put at (bs ++ cs) xs) e (put_append bs cs at xs)

-- a run stored before a run that stands already
set_put : (at m b : ℕ) (cs xs : List ℕ) → at < m → set (put m cs xs) at b ≡ put m cs (set xs at b)
unfolding put
set_put at zero b cs xs h = absurd (not-suc-le-zero h)
set_put at (suc m) b cs [] h = refl
set_put zero (suc m) b cs (x ∷ xs) h = refl
set_put (suc at) (suc m) b cs (x ∷ xs) h = ap (λ (l : List ℕ). x ∷ l) (set_put at m b cs xs (le_of_suc-le-suc h))

pub put_before : (bs cs : List ℕ) (at : ℕ) (xs : List ℕ) → put at bs (put (at + length bs) cs xs) ≡ put at (bs ++ cs) xs
put_before [] cs at xs = rw (add-zero, put_nil)
put_before (b ∷ bs) cs at xs =
    let e : at + suc (length bs) ≡ suc at + length bs = omega arith in
    rw (put_cons at b bs (put (at + suc (length bs)) cs xs), set_put at (at + suc (length bs)) b cs xs (omega arith), e, put_before bs cs (suc at) (set xs at b), put_cons at b (bs ++ cs) xs)

-- a run stored inside a run that was stored before
put_over : (off : ℕ) (bs rec xs : List ℕ) → off + length bs ≤ length rec → put off bs (over rec xs) ≡ over (put off bs rec) xs
unfolding put over
put_over zero bs rec xs h = over_over bs rec xs (omega arith)
put_over (suc off) bs [] xs h = absurd (let z : 1 ≤ 0 = omega arith in not-suc-le-zero z)
put_over (suc off) bs (r ∷ rec) [] h = refl
put_over (suc off) bs (r ∷ rec) (x ∷ xs) h = ap (λ (l : List ℕ). r ∷ l) (put_over off bs rec xs (omega arith))

pub put_inside : (at off : ℕ) (bs rec xs : List ℕ) → off + length bs ≤ length rec → put (at + off) bs (put at rec xs) ≡ put at (put off bs rec) xs
unfolding put
put_inside zero off bs rec xs h = rw zero-add (put_over off bs rec xs h)
put_inside (suc at) off bs rec [] h = rw suc-add
put_inside (suc at) off bs rec (x ∷ xs) h = rw suc-add (ap (λ (l : List ℕ). x ∷ l) (put_inside at off bs rec xs h))

-- inside the list it is the list before it, the run, and the list behind it
pub put_eq : (at : ℕ) (bs xs : List ℕ) → at + length bs ≤ length xs → put at bs xs ≡ take at xs ++ bs ++ drop (at + length bs) xs
unfolding put
put_eq zero bs xs h = rw zero-add (over_eq bs xs (omega arith))
put_eq (suc at) bs [] h = absurd (let z : 1 ≤ 0 = omega arith in not-suc-le-zero z)
put_eq (suc at) bs (x ∷ xs) h = rw suc-add (ap (λ (l : List ℕ). x ∷ l) (put_eq at bs xs (omega arith)))

pub put_whole : (bs xs : List ℕ) → length bs ≤ length xs → put 0 bs xs ≡ bs ++ drop (length bs) xs
unfolding put
put_whole bs xs h = over_eq bs xs h

-- so a part of a slice is written
pub put_part : (at e : ℕ) (bs xs : List ℕ) → at + length bs ≡ e → e ≤ length xs → put_mid at (e - at) xs bs ≡ put at bs xs
put_part at e bs xs q h =
    ap (λ (l : List ℕ). take at xs ++ (bs ++ l)) (Post-is at e xs (omega arith) ∙ ap (λ (k : ℕ). drop k xs) (sym q))
    ∙ sym (append_assoc (take at xs) bs (drop (at + length bs) xs)) ∙ sym (put_eq at bs xs (omega arith))

-- what has no room may be left out before
pub put_most : (at n : ℕ) (bs xs : List ℕ) → n ≤ length bs → length xs ≤ at + n → put at (take n bs) xs ≡ put at bs xs
put_most at n bs xs few full =
    let l : length (take n bs) ≡ n = length-take-le n bs few in
    sym (past_end (at + n) (drop n bs) (put at (take n bs) xs) (rw length_put full)) ∙ put_next n at (take n bs) (drop n bs) xs l
    ∙ ap (λ (s : List ℕ). put at s xs) (take-append-drop n bs)

-- what it leaves: each element before it and behind it
pub before : (at : ℕ) (bs xs : List ℕ) (i : ℕ) → i < at → get_or (put at bs xs) i 0 ≡ get_or xs i 0
before at [] xs i h = rw put_nil
before at (b ∷ bs) xs i h = rw (put_cons at b bs xs) (before (suc at) bs (set xs at b) i (omega arith) ∙ get_or-set_other xs at i b 0 (λ e. omega arith))

pub get_d_put_after : (at : ℕ) (bs xs : List ℕ) (i : ℕ) → at + length bs ≤ i → get_or (put at bs xs) i 0 ≡ get_or xs i 0
get_d_put_after at [] xs i h = rw put_nil
get_d_put_after at (b ∷ bs) xs i h = rw (put_cons at b bs xs) (get_d_put_after (suc at) bs (set xs at b) i (omega arith) ∙ get_or-set_other xs at i b 0 (λ e. omega arith))

-- what stands behind is as it was
-- what is stored at a place stands there, and behind it what stood there before
pub drop_put : (at : ℕ) (bs xs : List ℕ) → at + length bs ≤ length xs → drop at (put at bs xs) ≡ bs ++ drop (at + length bs) xs
drop_put at bs xs h =
    ap (drop at) (put_eq at bs xs h) ∙ (rw append_assoc (drop_at (take at xs) (bs ++ drop (at + length bs) xs) at (length-take-le at xs (omega arith))))

pub drop_behind : (at : ℕ) (bs xs : List ℕ) (e : ℕ) → at + length bs ≤ e → drop e (put at bs xs) ≡ drop e xs
drop_behind at bs xs e h =
    ext_get_or 0 (drop e (put at bs xs)) (drop e xs)
    (rw (length-drop e (put at bs xs), length-drop e xs, length_put at bs xs))
    (λ j l. get_or-drop e (put at bs xs) j 0 ∙ get_d_put_after at bs xs (e + j) (omega arith) ∙ sym (get_or-drop e xs j 0))

-- the words that are lent from a place on
pub lent : (from : ℕ) (ws : List ℕ) → take (length ws - from) (drop from ws) ≡ drop from ws
lent from ws = take_all (length ws - from) (drop from ws) (omega (arith, length-drop from ws))

-- what it stores
pub stored : (at : ℕ) (bs xs : List ℕ) (k : ℕ) → at + k < length xs → k < length bs → get_or (put at bs xs) (at + k) 0 ≡ get_or bs k 0
stored at [] xs k h l = absurd (omega arith)
stored at (b ∷ bs) xs zero h l = rw (put_cons at b bs xs, add-zero at) (before (suc at) bs (set xs at b) at (omega arith) ∙ get_or-set_same xs at b 0 (omega arith))
stored at (b ∷ bs) xs (suc k) h l = rw (put_cons at b bs xs, add-suc at k, ← suc-add at k) (stored (suc at) bs (set xs at b) k (rw length-set (omega arith)) (omega arith))

-- ---- numbers that are stored

-- a number, and the rest behind it
pub put_number : (at n v : ℕ) (rest xs : List ℕ) → put (at + n) rest (put at (le_bytes n v) xs) ≡ put at (le_bytes n v ++ rest) xs
put_number at n v rest xs = put_next n at (le_bytes n v) rest xs (length_bytes n v)

-- the numbers from i on: the one at i, and the rest behind it; and where that one reaches the end, the rest is left out
pub put_les : (n at : ℕ) (ws : List ℕ) (i : ℕ) (xs : List ℕ) → i < length ws → put (at + n) (les n (drop (i + 1) ws)) (put at (le_bytes n (get_or ws i 0)) xs) ≡ put at (les n (drop i ws)) xs
put_les n at ws i xs h = rw (les_drop n ws i h) (put_number at n (get_or ws i 0) (les n (drop (i + 1) ws)) xs)

pub put_les_last : (n at : ℕ) (ws : List ℕ) (i : ℕ) (xs : List ℕ) → i < length ws → length xs ≤ at + n → put at (le_bytes n (get_or ws i 0)) xs ≡ put at (les n (drop i ws)) xs
put_les_last n at ws i xs h end =
    sym (past_end (at + n) (les n (drop (i + 1) ws)) (put at (le_bytes n (get_or ws i 0)) xs) (rw length_put end)) ∙ put_les n at ws i xs h

-- its lowest byte, and the rest behind it
pub put_lowest : (at n v : ℕ) (xs : List ℕ) → 0 < n → put (at + 1) (le_bytes (n - 1) (v / 256)) (set xs at (v % 256)) ≡ put at (le_bytes n v) xs
unfolding le_bytes
put_lowest at zero v xs h = absurd (not-suc-le-zero h)
put_lowest at (suc n) v xs h =
    let e : suc n - 1 ≡ n = omega arith in
    rw (e, put_cons at (v % 256) (le_bytes n (v / 256)) xs, add-one at)

-- two halves of n bytes, side by side, are a number of n + n
pub put_join : (n v at : ℕ) (xs : List ℕ) → put (at + n) (le_bytes n (v / 256 ^ n)) (put at (le_bytes n (v % 256 ^ n)) xs) ≡ put at (le_bytes (n + n) v) xs
put_join n v at xs = rw (bytes_mod, bytes_join) (put_number at n v (le_bytes n (v / 256 ^ n)) xs)

-- so are they where one is stored and then the other
pub put_halves : (n v at : ℕ) (xs : List ℕ) {half out : List ℕ} → half ≡ put at (le_bytes n (v % 256 ^ n)) xs → out ≡ put (at + n) (le_bytes n (v / 256 ^ n)) half → out ≡ put at (le_bytes (n + n) v) xs
put_halves n v at xs e f = f ∙ ap (λ (l : List ℕ). put (at + n) (le_bytes n (v / 256 ^ n)) l) e ∙ put_join n v at xs

-- it reads back, and a store elsewhere leaves a number as it was
pub read_back : (n v at : ℕ) (xs : List ℕ) → at + n ≤ length xs → le_at n (put at (le_bytes n v) xs) at ≡ v % 256 ^ n
read_back n v at xs h =
    same n (put at (le_bytes n v) xs) at (le_bytes n v) 0 (λ k l. rw zero-add (stored at (le_bytes n v) xs k (omega arith) (rw length_bytes l))) ∙ le_bytes_lem n v

pub kept_before : (n at : ℕ) (bs xs : List ℕ) (i : ℕ) → i + n ≤ at → le_at n (put at bs xs) i ≡ le_at n xs i
kept_before n at bs xs i h = same n (put at bs xs) i xs i (λ k l. before at bs xs (i + k) (omega arith))

pub kept_after : (n at : ℕ) (bs xs : List ℕ) (i : ℕ) → at + length bs ≤ i → le_at n (put at bs xs) i ≡ le_at n xs i
kept_after n at bs xs i h = same n (put at bs xs) i xs i (λ k l. get_d_put_after at bs xs (i + k) (omega arith))
