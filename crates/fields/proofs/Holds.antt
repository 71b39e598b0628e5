-- That a list stands in another at a place: of a block in the pages, a record in a block, a field in a record.
use mathlib.Core.Path.{◌≡◌, refl, sym, ap, subst, ◌∙◌}
use mathlib.Core.List.{List, [], ◌∷◌, ◌++◌, append_assoc, append-nil}
use Prim.Native.Nat.{ℕ, zero, suc, ◌+◌, ◌*◌, ◌%◌, ◌^◌, ◌≤◌, ◌<◌}
use native.Mathlib.Nat.{zero-add, add-zero, mul-zero, mul-suc}
use native.Mathlib.Omega.{arith}
use lib.ListN.{length, take, drop, get_or, length-append, get_or-append}
use lib.Seq.{length-take-le, take_at, drop_at, get_or-append-add}
use Rattle.fields.specs.Bytes.{le_at, le_bytes, les}
use Rattle.fields.specs.Put.{put}
use Rattle.fields.proofs.Bytes.{same, le_bytes_lem, length_bytes}
use Rattle.fields.proofs.Puts.{put_eq}

-- s has b at `at`
pub record Holds {A : Type 0} (s : List A) (at : ℕ) (b : List A) : Type 0 where
  pub before : List A
  pub following : List A
  pub joined : s ≡ before ++ (b ++ following)
  pub place : length before ≡ at

pub all_held : {A : Type 0} (b : List A) → Holds b 0 b
all_held b = record { before = []; following = []; joined = sym (append-nil b); place = refl }

pub held_end : {A : Type 0} {s : List A} {at : ℕ} {b : List A} → Holds s at b → at + length b ≤ length s
held_end {A} {s} {at} {b} h =
    let e = ap length h.joined ∙ length-append h.before (b ++ h.following) in
    omega (arith, e, length-append b h.following, h.place)

-- what follows a list doesn't matter
pub held_more : {A : Type 0} {s : List A} {at : ℕ} {b : List A} (t : List A) → Holds s at b → Holds (s ++ t) at b
held_more {A} {s} {at} {b} t h = record {
  before = h.before;
  following = h.following ++ t;
  joined = rw h.joined (simp append_assoc);
  place = h.place;
}

-- what stands in b stands in s
pub held_in : {A : Type 0} {s : List A} {at : ℕ} {b : List A} {off : ℕ} {c : List A} → Holds s at b → Holds b off c → Holds s (at + off) c
held_in {A} {s} {at} {b} {off} {c} h k = record {
  before = h.before ++ k.before;
  following = k.following ++ h.following;
  joined = h.joined ∙ ap (λ (l : List A). h.before ++ (l ++ h.following)) k.joined ∙ simp append_assoc;
  place = rw (length-append, h.place, k.place);
}

-- the first, and the second of two
pub held_first : {A : Type 0} {s : List A} {at : ℕ} (b c : List A) → Holds s at (b ++ c) → Holds s at b
held_first {A} {s} {at} b c h = record { before = h.before; following = c ++ h.following; joined = h.joined ∙ simp append_assoc; place = h.place }

pub held_second : {A : Type 0} {s : List A} {at : ℕ} (b c : List A) → Holds s at (b ++ c) → Holds s (at + length b) c
held_second {A} {s} {at} b c h = record {
  before = h.before ++ b;
  following = h.following;
  joined = h.joined ∙ simp append_assoc;
  place = rw (length-append, h.place);
}

-- it is what is taken there
pub held_taken : {A : Type 0} {s : List A} {at : ℕ} {b : List A} → Holds s at b → take (length b) (drop at s) ≡ b
held_taken {A} {s} {at} {b} h = rw (h.joined, drop_at h.before (b ++ h.following) at h.place, take_at b h.following (length b) refl)

-- what is stored inside a list stands there
pub put_held : (at : ℕ) (bs xs : List ℕ) → at + length bs ≤ length xs → Holds (put at bs xs) at bs
put_held at bs xs h = record {
  before = take at xs;
  following = drop (at + length bs) xs;
  joined = put_eq at bs xs h ∙ append_assoc (take at xs) bs (drop (at + length bs) xs);
  place = length-take-le at xs (omega arith);
}

-- a number of as many bytes reads as in b
pub held_field : {s : List ℕ} {at : ℕ} {b : List ℕ} (n : ℕ) → Holds s at b → length b ≡ n → le_at n s at ≡ le_at n b 0
held_field {s} {at} {b} n h e = same n s at b 0 (λ k l. byte k (omega arith))
  where
    byte : (k : ℕ) → k < length b → get_or s (at + k) 0 ≡ get_or b (0 + k) 0
    byte k l = rw (h.joined, ← h.place, get_or-append-add h.before (b ++ h.following) k 0, zero-add k) (get_or-append b h.following 0 k l)

pub held_value : {s : List ℕ} {at : ℕ} (n v : ℕ) → Holds s at (le_bytes n v) → le_at n s at ≡ v % 256 ^ n
held_value n v h = held_field n h (length_bytes n v) ∙ le_bytes_lem n v

-- number i of a row of numbers
pub number_in : (s : List ℕ) (at w : ℕ) (xs : List ℕ) (i : ℕ) → i < length xs → Holds s at (les w xs) → le_at w s (at + w * i) ≡ get_or xs i 0 % 256 ^ w
unfolding les
number_in s at w [] i h held = absurd (omega arith)
number_in s at w (x ∷ xs) zero h held =
    rw (mul-zero, add-zero) (held_value w x (held_first (le_bytes w x) (les w xs) held))
number_in s at w (x ∷ xs) (suc i) h held =
    let rest : Holds s (at + w) (les w xs) = subst (λ (j : ℕ). Holds s (at + j) (les w xs)) (length_bytes w x) (held_second (le_bytes w x) (les w xs) held) in
    let e : at + w * suc i ≡ at + w + w * i = rw (mul-suc w i) (omega arith) in
    rw e (number_in s (at + w) w xs i (omega arith) rest)
