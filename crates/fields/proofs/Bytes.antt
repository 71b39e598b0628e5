-- The laws of little-endian numbers, each over every width.
use mathlib.Core.Path.{◌≡◌, refl, sym, ◌∙◌, ap}
use mathlib.Core.List.{List, [], ◌∷◌, ◌++◌, append_assoc}
use Prim.Native.Nat.{ℕ, zero, suc, ◌+◌, ◌*◌, ◌/◌, ◌%◌, ◌^◌, ◌≤◌, ◌<◌}
use native.Mathlib.Nat.{zero-add, add-zero, suc-add, one-mul, mul-zero, mul-suc, mul_comm, mul_assoc, pow-suc, pow-succ', div-one, div-div-eq-div-mul, div-lt_iff_lt-mul, one-le-pow, add-mul-mod_self_left, add-mul-div_left}
use native.Mathlib.Numerals.{one-add, add-one}
use native.Mathlib.Omega.{arith}
use lib.Arith.{mod-mul, digits_div, digits_mod}
use lib.Dec.{lit<}
use lib.ListN.{length, length-append, get_or, take, drop, get_or-eq_default}
use lib.Seq.{drop-cons}
use Rattle.std.specs.Int.{sum_through, byte_worth}
use Rattle.fields.specs.Bytes.{le_at, le_bytes, les, zeros, cat}

-- ---- a number that is read

-- a number of m + n bytes is one of m bytes and one of n after it
pub join : (m n : ℕ) (s : List ℕ) (off : ℕ) → le_at (m + n) s off ≡ le_at m s off + 256 ^ m * le_at n s (off + m)
unfolding le_at
join zero n s off = simp (zero-add, add-zero, one-mul)
join (suc m) n s off =
    let e : off + suc m ≡ off + 1 + m = omega arith in
    rw (suc-add m n, e, join m n s (off + 1), pow-succ', mul_assoc) (omega arith)

-- a number that starts past the end is 0
pub past : (n : ℕ) (s : List ℕ) (off : ℕ) → length s ≤ off → le_at n s off ≡ 0
unfolding le_at
past zero s off h = refl
past (suc n) s off h = rw (get_or-eq_default s 0 h, past n s (off + 1) (omega arith))

-- a number is the same in two lists that have the same n bytes there
pub same : (n : ℕ) (s : List ℕ) (i : ℕ) (t : List ℕ) (j : ℕ) → ((k : ℕ) → k < n → get_or s (i + k) 0 ≡ get_or t (j + k) 0) → le_at n s i ≡ le_at n t j
unfolding le_at
same zero s i t j h = refl
same (suc n) s i t j h =
    let first : get_or s i 0 ≡ get_or t j 0 = simp add-zero at (h zero (omega arith)) in
    rw (first, same n s (i + 1) t (j + 1) (later n s i t j h))
  where
    later : (n : ℕ) (s : List ℕ) (i : ℕ) (t : List ℕ) (j : ℕ) → ((k : ℕ) → k < suc n → get_or s (i + k) 0 ≡ get_or t (j + k) 0) → (k : ℕ) → k < n → get_or s (i + 1 + k) 0 ≡ get_or t (j + 1 + k) 0
    later n s i t j h k l =
        let ei : i + 1 + k ≡ i + suc k = omega arith in
        let ej : j + 1 + k ≡ j + suc k = omega arith in
        rw (ei, ej) (h (suc k) (omega arith))

-- a number of one byte is the byte
pub le_one : (s : List ℕ) (off : ℕ) → le_at 1 s off ≡ get_or s off 0
unfolding le_at
le_one s off = omega arith

-- it is what std makes of its bytes
pub low_first : (n : ℕ) (bs : List ℕ) → sum_through (λ i. byte_worth i (get_or bs i 0)) n ≡ le_at (suc n) bs 0
low_first zero bs = sym (le_one bs 0)
low_first (suc n) bs =
    let next : le_at (suc n) bs 0 + get_or bs (suc n) 0 * 256 ^ suc n ≡ le_at (suc (suc n)) bs 0 =
    rw (← add-one (suc n), join (suc n) 1 bs 0, le_one bs (0 + suc n), zero-add, mul_comm (256 ^ suc n) (get_or bs (suc n) 0)) in
    ap (λ k. k + get_or bs (suc n) 0 * 256 ^ suc n) (low_first n bs) ∙ next

-- n bytes make a number below 256 ^ n
pub le_lt : (n : ℕ) (s : List ℕ) (off : ℕ) → ((k : ℕ) → get_or s k 0 < 256) → le_at n s off < 256 ^ n
unfolding le_at
le_lt zero s off bytes = omega arith
le_lt (suc n) s off bytes =
    let rest : le_at n s (off + 1) < 256 ^ n = le_lt n s (off + 1) bytes in
    let first : get_or s off 0 < 256 = bytes off in
    rw pow-succ' (omega arith)

-- ---- the bytes of a number

-- there are n of them
pub length_bytes : (n v : ℕ) → length (le_bytes n v) ≡ n
unfolding le_bytes
length_bytes zero v = refl
length_bytes (suc n) v = ap suc (length_bytes n (v / 256))

-- m + n bytes of v are m bytes of it and n of what is above them
pub bytes_join : (m n v : ℕ) → le_bytes (m + n) v ≡ le_bytes m v ++ le_bytes n (v / 256 ^ m)
unfolding le_bytes
bytes_join zero n v = simp (zero-add, div-one)
bytes_join (suc m) n v = rw (suc-add m n, bytes_join m n (v / 256), div-div-eq-div-mul, ← pow-succ')

-- the lowest byte of a number of n + 1 bytes, and the rest
pub lowest : (n v : ℕ) → v % 256 ^ suc n ≡ (v / 256 % 256 ^ n) * 256 + v % 256
lowest n v = rw pow-suc (mod-mul v {c = 256} (one-le-pow n 256 (omega arith)) (omega arith))

-- what is above the n bytes does not show in them
pub bytes_mod : (n v : ℕ) → le_bytes n (v % 256 ^ n) ≡ le_bytes n v
unfolding le_bytes
bytes_mod zero v = refl
bytes_mod (suc n) v =
    let r : v % 256 < 256 = omega arith in
    rw (lowest n v, digits_mod (v / 256 % 256 ^ n) r, digits_div (v / 256 % 256 ^ n) r, bytes_mod n (v / 256))

-- two numbers in one: the low one's bytes, then the high one's
pub le_append : (m n a b : ℕ) → a < 256 ^ m → le_bytes (m + n) (a + 256 ^ m * b) ≡ le_bytes m a ++ le_bytes n b
unfolding le_bytes
le_append zero n a b h = rw (zero-add) (ap (le_bytes n) (omega arith))
le_append (suc m) n a b h =
    let low : a / 256 < 256 ^ m = (div-lt_iff_lt-mul (lit< tt)).1 (rw pow-suc at h) in
    let e : 256 ^ m * 256 * b ≡ 256 * (256 ^ m * b) = rw (mul_comm (256 ^ m) 256, mul_assoc) in
    rw (suc-add, pow-suc, e, add-mul-mod_self_left, add-mul-div_left _ _ {y = 256} (lit< tt))
    (ap (λ (l : List ℕ). a % 256 ∷ l) (le_append m n (a / 256) b low))

-- a pair of shorts in a word
pub le_pair : (a b : ℕ) → a < 65536 → le_bytes 4 (a + 65536 * b) ≡ le_bytes 2 a ++ le_bytes 2 b
le_pair a b h = le_append 2 2 a b h

-- a number of 8 bytes that is below 2 ^ 32 has a high word of zero
pub le_address : (a : ℕ) → a < 2 ^ 32 → le_bytes 8 a ≡ le_bytes 4 a ++ le_bytes 4 0
le_address a h = ap (le_bytes 8) (omega arith) ∙ le_append 4 4 a 0 h

pub le_zeros : (n : ℕ) → le_bytes n 0 ≡ zeros n
unfolding le_bytes
le_zeros zero = refl
le_zeros (suc n) = ap (λ (l : List ℕ). 0 ∷ l) (le_zeros n)

-- ---- there and back

-- the bytes of v, read, are v again
pub le_bytes_lem : (n v : ℕ) → le_at n (le_bytes n v) 0 ≡ v % 256 ^ n
unfolding le_at le_bytes
le_bytes_lem zero v = omega arith
le_bytes_lem (suc n) v = rw (same n (v % 256 ∷ le_bytes n (v / 256)) 1 (le_bytes n (v / 256)) 0 (λ k l. rw (one-add k, zero-add k)), le_bytes_lem n (v / 256), lowest n v) (omega arith)

-- the bytes of a number that was read are those that it was read from
pub bytes_le : (n : ℕ) (s : List ℕ) (off : ℕ) → off + n ≤ length s → ((k : ℕ) → get_or s k 0 < 256) → le_bytes n (le_at n s off) ≡ take n (drop off s)
unfolding le_at le_bytes
bytes_le zero s off h bytes = refl
bytes_le (suc n) s off h bytes =
    let first : get_or s off 0 < 256 = bytes off in
    let low : (get_or s off 0 + 256 * le_at n s (off + 1)) % 256 ≡ get_or s off 0 = omega arith in
    let high : (get_or s off 0 + 256 * le_at n s (off + 1)) / 256 ≡ le_at n s (off + 1) = omega arith in
    let some : off < length s = omega arith in
    rw (low, high, bytes_le n s (off + 1) (omega arith) bytes, drop-cons s off 0 some, add-one off)

-- ---- numbers in a row

pub length_les : (n : ℕ) (ws : List ℕ) → length (les n ws) ≡ n * length ws
unfolding les
length_les n [] = rw mul-zero
length_les n (w ∷ ws) = rw (length-append, length_bytes, length_les n ws, mul-suc) (omega arith)

-- from i on there is the number at i, and those from i + 1 on
pub les_drop : (n : ℕ) (ws : List ℕ) (i : ℕ) → i < length ws → les n (drop i ws) ≡ le_bytes n (get_or ws i 0) ++ les n (drop (i + 1) ws)
unfolding les
les_drop n ws i h = rw (add-one, drop-cons ws i 0)

-- twelve bytes of zero are three words of it
pub zero_words : le_bytes 12 0 ≡ le_bytes 4 0 ++ (le_bytes 4 0 ++ le_bytes 4 0)
unfolding le_bytes
zero_words = refl

-- ---- lists of bytes in a row

pub cat_append {ℓ} : {A : Type ℓ} (xs ys : List (List A)) → cat (xs ++ ys) ≡ cat xs ++ cat ys
unfolding cat
cat_append [] ys = refl
cat_append (x ∷ xs) ys = rw (cat_append xs ys, append_assoc)
