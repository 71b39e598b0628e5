-- How a table of vertices lies in lent words t: b words, then two words to a vertex. Vertices whose triples have the same hash are one
-- digital search tree: at each step down a walk goes by the next bit of the triple, so it has at most 48 steps. A link, to a root or a
-- child, is half a word: 1 + the vertex, or 0 where there is none. Vertex 65,535 has no link that leads to it: of a full table a walk looks at it last.
-- Word k below b holds the root of tree k (low) and the right child of vertex k (high); a left child stands above its vertex's z.
-- Definitions only.
use Rattle.std.specs.Prelude.{ℕ, zero, suc, ◌+◌, ◌*◌, ◌-◌, ◌/◌, ◌%◌, ◌≤◌, ◌<◌, ◌^◌, cond, ◌≡◌, List, [], ◌∷◌, ◌++◌, length, get_or, drop, set, ltb, Option, Result, Ok, Err}
use Rattle.fields.specs.Bytes.{over, zeros}
use Rattle.distinct.specs.Numbers.{up_to}
use Rattle.write_vertices.specs.Vertices.{paper, number_of, count_after}
use Rattle.write_vertices.specs.declared.Numbered.{Numbered}

-- the triple whose first word is at `at`: x and y in that word, z in the low half of the next
unfoldable pub triple_at : List ℕ → ℕ → ℕ
triple_at t at = get_or t at 0 + get_or t (at + 1) 0 % 65536 * 4294967296

-- the triple of vertex i
abbrev pub triple : List ℕ → ℕ → ℕ → ℕ
triple t b i = triple_at t (b + 2 * i)

-- the first n triples
unfoldable pub met : List ℕ → ℕ → ℕ → List ℕ
met t b zero = []
met t b (suc n) = met t b n ++ (triple t b n ∷ [])

-- the tree, below b, in which the triple x stands. Only speed depends on it
unfoldable pub hash_of : ℕ → ℕ → ℕ
hash_of b x = (x % 4294967296 * 1640531527 + x / 4294967296 * 1181783497) % 4294967296 * b / 4294967296

-- ---- links

-- the low half of the word w where s is even, else its high half
unfoldable pub half : ℕ → ℕ → ℕ
half w s = cond (ltb (s % 2) 1) (w % 65536) (w / 65536)

-- half s of all words
abbrev pub half_word_at : List ℕ → ℕ → ℕ
half_word_at t s = half (get_or t (s / 2) 0) s

-- the half for the root of the tree of x
abbrev pub root_of : ℕ → ℕ → ℕ
root_of b x = 2 * hash_of b x

-- the half for the child of vertex p to which a walk goes that has `key` left: by its lowest bit
unfoldable pub child_of : ℕ → ℕ → ℕ → ℕ
child_of b p key = cond (ltb (key % 2) 1) (2 * (b + 2 * p + 1) + 1) (2 * p + 1)

-- the walk that begins at half s₀ with key₀ left comes in so many steps to a half with a key left
pub data Way (t : List ℕ) (b s₀ key₀ : ℕ) : ℕ → ℕ → ℕ → Type 0 where
  start : Way t b s₀ key₀ 0 s₀ key₀
  down : {d s key : ℕ} → Way t b s₀ key₀ d s key → 0 < half_word_at t s → Way t b s₀ key₀ (suc d) (child_of b (half_word_at t s - 1) key) (key / 2)

-- the walk from there comes to vertex i
pub record Ahead (t : List ℕ) (b s₀ key₀ i : ℕ) : Type 0 where
  pub steps : ℕ
  pub place : ℕ
  pub left : ℕ
  pub way : Way t b s₀ key₀ steps place left
  pub here : half_word_at t place ≡ suc i

-- a half for the root of one of b trees, or for a child of one of n vertices
pub data Link (b n : ℕ) : ℕ → Type 0 where
  root : (k : ℕ) → k < b → Link b n (2 * k)
  child : (p key : ℕ) → p < n → Link b n (child_of b p key)

-- t holds a table of n vertices, no two of them equal, in b trees. Each but vertex 65,535 stands on the walk for its own triple
pub record Table (t : List ℕ) (b n : ℕ) : Type 0 where
  pub some : 0 < b
  pub narrow : b ≤ 2 ^ 32
  pub few : n ≤ 65536
  pub wide : n ≤ b
  pub room : b + 2 * n ≤ length t
  pub links : (s : ℕ) → Link b n s → (half_word_at t s ≤ n) × (half_word_at t s ≤ 65535)
  pub rising : (p key : ℕ) → p < n → 0 < half_word_at t (child_of b p key) → suc p < half_word_at t (child_of b p key)
  pub alone : (s s' : ℕ) → Link b n s → Link b n s' → 0 < half_word_at t s → half_word_at t s ≡ half_word_at t s' → s ≡ s'
  pub later : (i : ℕ) → n ≤ i → i < b → half_word_at t (2 * i + 1) ≡ 0
  pub short : (i : ℕ) → i < n → triple t b i < 2 ^ 48
  pub stands : (i : ℕ) → i < n → i < 65535 → Ahead t b (root_of b (triple t b i)) (triple t b i) i
  pub once : (i j : ℕ) → i < j → j < n → triple t b i ≡ triple t b j → ⊥

-- the walk for x comes to half s, in at most 48 steps
pub record Comes (t : List ℕ) (b x s : ℕ) : Type 0 where
  pub steps : ℕ
  pub left : ℕ
  pub way : Way t b (root_of b x) x steps s left
  pub quick : steps ≤ 48

-- vertex i has x, and the walk for x comes to the half that leads to it; vertex 65,535, to which none does, is looked at where the walk ends
pub record Finds (t : List ℕ) (b n x i : ℕ) : Type 0 where
  pub place : ℕ
  pub walk : Comes t b x place
  pub here : half_word_at t place ≡ (i + 1) % 65536
  pub below : i < n
  pub equal : triple t b i ≡ x

-- the walk for x ends at half s, and no vertex has x
pub record Ends (t : List ℕ) (b n x s : ℕ) : Type 0 where
  pub walk : Comes t b x s
  pub free : half_word_at t s ≡ 0
  pub none : (j : ℕ) → j < n → triple t b j ≡ x → ⊥

-- the answer of a walk for x: the vertex with x, or where it would stand
abbrev pub Walked : List ℕ → ℕ → ℕ → ℕ → Result ℕ ℕ → Type 0
Walked t b n x (Ok i) = Finds t b n x i
Walked t b n x (Err s) = Ends t b n x s

-- t with its b first words 0: a table of no vertex
unfoldable pub cleared : List ℕ → ℕ → List ℕ
cleared t b = over (zeros b) t

-- the word w with the link n in a half that was 0
unfoldable pub linked_with : ℕ → ℕ → ℕ → ℕ
linked_with w s n = cond (ltb (s % 2) 1) (w + n) (w + n * 65536)

-- t with the triple x as vertex n, to which half s leads
unfoldable pub added : List ℕ → ℕ → ℕ → ℕ → ℕ → List ℕ
added t b n x s = set (set (set t (b + 2 * n) (x % 4294967296)) (b + 2 * n + 1) (x / 4294967296)) (s / 2) (linked_with (get_or t (s / 2) 0) s ((n + 1) % 65536))

-- there is a table of n vertices, and room for x as one more
pub record TableRoom (t : List ℕ) (b n x : ℕ) : Type 0 where
  pub table : Table t b n
  pub more : b + 2 * n + 2 ≤ length t
  pub trees : n < 65536 → n < b
  pub short : x < 2 ^ 48

-- t' is the table t of n vertices after x was looked up, with the answer r. No word behind the table's last vertex is changed
pub record LookedUp (t t' : List ℕ) (b n x : ℕ) (r : Option Numbered) : Type 0 where
  pub answer : (place : ℕ) → paper r place ≡ number_of (met t b n) x place
  pub now_met : met t' b (count_after r n) ≡ up_to 65536 (met t b n) x
  pub table : Table t' b (count_after r n)
  pub rest : drop (b + 2 * count_after r n) t' ≡ drop (b + 2 * count_after r n) t
  pub long : length t' ≡ length t
