-- Walks down the trees: each goes by links of vertices alone, keeps its way where links that lead somewhere are kept, and is short.
use Prim.Native.Nat.{ℕ, suc, ◌*◌, ◌-◌, ◌/◌, ◌≤◌, ◌<◌, ◌^◌}
use native.Mathlib.Omega.{arith}
use native.Mathlib.Decide.{dec_lt}
use native.Mathlib.Nat.{mul_assoc, mul-le-mul_right, pow-succ', pow-le-pow_right}
use mathlib.Core.Path.{◌≡◌, refl, ap, sym, ◌∙◌}
use mathlib.Core.List.{List}
use mathlib.Core.Logic.{◌⊎◌, inl, inr, ⊎_elim}
use Rattle.write_vertices.specs.Table.{triple, hash_of, half_word_at, root_of, child_of, Way, start, down, Ahead, Link, root, child, Table}
use Rattle.write_vertices.proofs.Hashing.{hash_lt}
use Rattle.write_vertices.proofs.Links.{root_not_child, child_once}

-- a way has come nowhere yet, or goes on by the first link
pub first_step : {t : List ℕ} {b s₀ key₀ d s key : ℕ} → Way t b s₀ key₀ d s key
    → ((s₀ ≡ s) × (key₀ ≡ key)) ⊎ ((0 < half_word_at t s₀) × ((e : ℕ) × Way t b (child_of b (half_word_at t s₀ - 1) key₀) (key₀ / 2) e s key))
first_step start = inl (refl, refl)
first_step {t} {b} {s₀} {key₀} (down {d} {s} {key} w h) =
    ⊎_elim
    (λ (q : (s₀ ≡ s) × (key₀ ≡ key)). inr (rw q.0 h, (0, rw (q.0, q.1) start)))
    (λ (q : (0 < half_word_at t s₀) × ((e : ℕ) × Way t b (child_of b (half_word_at t s₀ - 1) key₀) (key₀ / 2) e s key)). inr (q.0, (suc q.1.0, down q.1.1 h)))
    (first_step w)

module _ (t : List ℕ) (b n : ℕ) (T : Table t b n) where
  -- a half to which a walk comes is a link
  pub way_link : {x d s key : ℕ} → Way t b (root_of b x) x d s key → Link b n s
  way_link {x} start = root (hash_of b x) (hash_lt b x T.some)
  way_link (down {s = s} {key = key} w h) = child (half_word_at t s - 1) key (omega (arith, (T.links s (way_link w)).0))

  -- t' has each link of t that leads somewhere
  module _ (t' : List ℕ) (same : (s : ℕ) → Link b n s → 0 < half_word_at t s → half_word_at t' s ≡ half_word_at t s) where
    pub way_kept : {x d s key : ℕ} → Way t b (root_of b x) x d s key → Way t' b (root_of b x) x d s key
    way_kept start = start
    way_kept (down {s = s} w h) =
        let e : half_word_at t' s ≡ half_word_at t s = same s (way_link w) h in
        rw e at (down (way_kept w) (rw e h))

    pub ahead_kept : (x i : ℕ) → Ahead t b (root_of b x) x i → Ahead t' b (root_of b x) x i
    ahead_kept x i a = record {
      steps = a.steps;
      place = a.place;
      left = a.left;
      way = way_kept a.way;
      here = same a.place (way_link a.way) (omega (arith, a.here)) ∙ a.here;
    }

  -- two walks that come to one half have gone the same steps, by the same bits
  together : {x y d e s s' k l : ℕ} → Way t b (root_of b x) x d s k → Way t b (root_of b y) y e s' l → s ≡ s' → (d ≡ e) × (k ≡ l → x ≡ y)
  together start start q = (refl, λ r. r)
  together {x} start (down {s = s} {key = l} w h) q = absurd (root_not_child b (hash_of b x) (half_word_at t s - 1) l q)
  together {y = y} (down {s = s} {key = k} w h) start q = absurd (root_not_child b (hash_of b y) (half_word_at t s - 1) k (sym q))
  together (down {s = s} {key = k} v g) (down {s = s'} {key = l} w h) q =
      let a = (T.links s (way_link v)).0 in
      let c = (T.links s' (way_link w)).0 in
      let o = child_once b (half_word_at t s - 1) (half_word_at t s' - 1) k l (omega (arith, T.wide)) (omega (arith, T.wide)) q in
      let r = together v w (T.alone s s' (way_link v) (way_link w) g (omega (arith, o.0))) in
      (ap suc r.0, λ z. r.1 (omega (arith, o.1)))

-- each step halves what is left, so that 48 leave nothing of a triple
left_le : {t : List ℕ} {b s₀ key₀ d s key : ℕ} → Way t b s₀ key₀ d s key → key * 2 ^ d ≤ key₀
left_le start = omega arith
left_le (down {d} {s} {key} w h) =
    let le : key / 2 * 2 * 2 ^ d ≤ key * 2 ^ d = mul-le-mul_right (2 ^ d) (omega arith) in
    rw (pow-succ' 2 d, ← mul_assoc (key / 2) 2 (2 ^ d)) (omega (arith, left_le w))

none_left : {t : List ℕ} {b s₀ key₀ d s key : ℕ} → Way t b s₀ key₀ d s key → key₀ < 2 ^ 48 → 48 ≤ d → key ≡ 0
none_left {d = d} {key = key} w short h = elim (dec_lt 0 key) [
  | yes l ↦
      let one : 1 * 2 ^ d ≤ key * 2 ^ d = mul-le-mul_right (2 ^ d) l in
      let most : 2 ^ 48 ≤ 2 ^ d = pow-le-pow_right {n = 2} (omega arith) h in
      absurd (omega (arith, left_le w))
  | no l ↦ omega arith
]

-- so after 48 steps there is no vertex but the one with x
pub deepest : {t : List ℕ} {b n x d s key : ℕ} → Table t b n → Way t b (root_of b x) x d s key → x < 2 ^ 48 → 48 ≤ d → 0 < half_word_at t s → triple t b (half_word_at t s - 1) ≡ x
deepest {t} {b} {n} {x} {d} {s} {key} T w short h some =
    let l = T.links s (way_link t b n T w) in
    let i : half_word_at t s - 1 < n = omega (arith, l.0) in
    let a = T.stands (half_word_at t s - 1) i (omega (arith, l.1)) in
    let g = together t b n T w a.way (T.alone s a.place (way_link t b n T w) (way_link t b n T a.way) some (omega (arith, a.here))) in
    sym (g.1 (none_left w short h ∙ sym (none_left a.way (T.short (half_word_at t s - 1) i) (omega (arith, g.0)))))
