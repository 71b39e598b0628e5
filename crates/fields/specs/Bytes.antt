-- Bytes in a list: little-endian numbers of any width, items of one width, and elements stored over the first ones. Definitions only.
use Rattle.std.specs.Prelude.{ℕ, zero, suc, ◌+◌, ◌*◌, ◌/◌, ◌%◌, List, [], ◌∷◌, ◌++◌, get_or, take, drop, replicate}

-- the little-endian value of the n bytes of s from off on; a byte past the end counts as 0
unfoldable pub le_at : ℕ → List ℕ → ℕ → ℕ
le_at zero s off = 0
le_at (suc n) s off = get_or s off 0 + 256 * le_at n s (off + 1)

-- the n low bytes of v, the lowest first
unfoldable pub le_bytes : ℕ → ℕ → List ℕ
le_bytes zero v = []
le_bytes (suc n) v = v % 256 ∷ le_bytes n (v / 256)

-- the n low bytes of each of ws, in order
unfoldable pub les : ℕ → List ℕ → List ℕ
les n [] = []
les n (w ∷ ws) = le_bytes n w ++ les n ws

-- n zero bytes
abbrev pub zeros : ℕ → List ℕ
zeros n = replicate n 0

-- the lists one after the other
unfoldable pub cat {ℓ} : {A : Type ℓ} → List (List A) → List A
cat [] = []
cat (xs ∷ xss) = xs ++ cat xss

-- n items of w bytes each, from the front of bs
unfoldable pub cut : ℕ → ℕ → List ℕ → List (List ℕ)
cut w zero bs = []
cut w (suc n) bs = take w bs ∷ cut w n (drop w bs)

-- xs with its first elements replaced by bs, and as long as it was
unfoldable pub over : List ℕ → List ℕ → List ℕ
over [] xs = xs
over (b ∷ bs) [] = []
over (b ∷ bs) (x ∷ xs) = b ∷ over bs xs
