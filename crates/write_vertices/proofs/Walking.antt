-- Why the walk down a tree finds a triple, and that it ends.
use Prim.Native.Nat.{ℕ, zero, suc, ◌-◌, ◌/◌, ◌≤◌, ◌<◌, ◌^◌}
use native.Mathlib.Omega.{arith}
use native.Mathlib.Decide.{dec_lt}
use mathlib.Core.Path.{◌≡◌, ap, sym, subst, ◌∙◌}
use mathlib.Core.List.{List}
use mathlib.Core.Logic.{⊎_elim}
use Rattle.write_vertices.specs.Table.{triple, half_word_at, root_of, child_of, Way, start, down, Ahead, Table, Comes, Finds, Ends}
use Rattle.write_vertices.proofs.Ways.{first_step, way_link, deepest}

-- how far it is from a link to the last of n vertices, where 0 is none
unfoldable pub beyond : ℕ → ℕ → ℕ
beyond n zero = 0
beyond n (suc p) = n - p

pub beyond_less : (n p q : ℕ) → 0 < p → p ≤ n → (0 < q → p < q) → beyond n q < beyond n p
unfolding beyond
beyond_less n zero q h l later = absurd (omega arith)
beyond_less n (suc p) zero h l later = omega arith
beyond_less n (suc p) (suc q) h l later = omega (arith, later (omega arith))

-- the walk for x has come to half s, which holds p, with a key left; a vertex with x is still ahead
pub record Walking (t : List ℕ) (b n x s p key : ℕ) : Type 0 where
  pub here : p ≡ half_word_at t s
  pub steps : ℕ
  pub way : Way t b (root_of b x) x steps s key
  pub quick : steps ≤ 48
  pub ahead : (j : ℕ) → j < n → j < 65535 → triple t b j ≡ x → Ahead t b s key j

module _ (t : List ℕ) (b n x : ℕ) (T : Table t b n) where
  pub begin : (s p : ℕ) → s ≡ root_of b x → p ≡ half_word_at t s → Walking t b n x s p x
  begin s p es ep = record {
    here = ep;
    steps = 0;
    way = rw es start;
    quick = omega arith;
    ahead = λ j h l e. rw es (subst (λ (y : ℕ). Ahead t b (root_of b y) y j) e (T.stands j h l));
  }

  module _ (s p key : ℕ) (W : Walking t b n x s p key) where
    -- what is ahead of p stands there, or behind the link by which the walk goes on
    split : {j : ℕ} {A : Type 0} → Ahead t b s key j → (p ≡ suc j → A) → (0 < p → Ahead t b (child_of b (p - 1) key) (key / 2) j → A) → A
    split a f g =
        ⊎_elim
        (λ q. f (W.here ∙ ap (half_word_at t) q.0 ∙ a.here))
        (λ q.
        let d : 0 < p = rw W.here q.0 in
        g d (record { steps = q.1.0; place = a.place; left = a.left; way = rw W.here q.1.1; here = a.here }))
        (first_step a.way)

    pub below : p ≤ n
    below = rw W.here (T.links s (way_link t b n T W.way)).0

    -- the walk goes on from a vertex that has not x
    module _ (h : 0 < p) where
      some : 0 < half_word_at t s
      some = rw W.here at h

      pub onward : x < 2 ^ 48 → (triple t b (p - 1) ≡ x → ⊥) → (s' q k : ℕ) → s' ≡ child_of b (p - 1) key → q ≡ half_word_at t s' → k ≡ key / 2 → Walking t b n x s' q k
      onward short ne s' q k es eq ek = record {
        here = eq;
        steps = suc W.steps;
        way = rw (es, ek, W.here) (down W.way some);
        quick = elim (dec_lt W.steps 48) [
          | yes l ↦ l
          | no l ↦ absurd (ne (rw W.here (deepest T W.way short (omega arith) some)))
        ];
        ahead = λ j d l e. rw (es, ek) (split (W.ahead j d l e) (λ z. let i : p - 1 ≡ j = omega arith in absurd (ne (ap (triple t b) i ∙ e))) (λ _ a. a));
      }

      pub later : (q : ℕ) → q ≡ half_word_at t (child_of b (p - 1) key) → beyond n q < beyond n p
      later q eq = beyond_less n p q h below (λ d. rw eq (omega (arith, T.rising (p - 1) key (omega (arith, below)) (rw eq at d))))

    walked : Comes t b x s
    walked = record { steps = W.steps; left = key; way = W.way; quick = W.quick }

    -- the vertex to which half s leads has x
    pub stands_here : 0 < p → triple t b (p - 1) ≡ x → Finds t b n x (p - 1)
    stands_here h e =
        let few : p ≤ 65535 = rw W.here (T.links s (way_link t b n T W.way)).1 in
        record { place = s; walk = walked; here = sym W.here ∙ omega arith; below = omega (arith, below); equal = e }

    -- the walk is at its end, and the last vertex of a full table has x
    pub stands_last : p ≡ 0 → 65535 < n → triple t b 65535 ≡ x → Finds t b n x 65535
    stands_last z h e = record { place = s; walk = walked; here = sym W.here ∙ z; below = h; equal = e }

    pub ended : p ≡ 0 → (65535 < n → triple t b 65535 ≡ x → ⊥) → Ends t b n x s
    ended z last = record { walk = walked; free = sym W.here ∙ z; none = none }
      where
        none : (j : ℕ) → j < n → triple t b j ≡ x → ⊥
        none j l e = elim (dec_lt j 65535) [
          | yes h ↦ split (W.ahead j l h e) (λ q. omega arith) (λ d _. omega arith)
          | no h ↦ let i : 65535 ≡ j = omega (arith, T.few) in last (omega arith) (ap (triple t b) i ∙ e)
        ]
