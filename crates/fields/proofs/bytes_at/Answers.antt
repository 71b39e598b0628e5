-- `fields::bytes_at` meets its contract: byte by byte it is what stands there.
use Rattle.std.proofs.Common.{rules, refl, subst, zero, suc, arith, ◌≡◌, ◌∙◌, sym, ap, ℕ, ◌+◌, ◌-◌, ◌<◌, List, length, get_or, take, drop, replicate}
use native.Mathlib.Nat.{zero-add, add-zero}
use lib.ListN.{get_or-eq_default}
use lib.Seq.{get_or-take, get_or-drop}
use Rattle.std.proofs.lemmas.List.{get_or-replicate}
use Rattle.std.specs.Array.{IsFromFnResultFrom}
use denote.Param.Members.{Mut, Called}
use Rattle.fields.specs.Bytes.{le_at}
use Rattle.fields.proofs.Bytes.{same, le_one}
use Rattle.fields.proofs.Puts.{lent}
use Rattle.fields.proofs.bytes_at.Goals as goal

-- of what stands from off on
rest_at : (b : List ℕ) (off k : ℕ) → get_or (take (length b - off) (drop off b)) k 0 ≡ get_or b (off + k) 0
rest_at b off k = rw (lent off b) (get_or-drop off b k 0)

-- what calls give that leave their closure as it was
module _ {F : Type 0} (g : Mut F (ℕ × Unit {0}) ℕ) (f : F) (v : ℕ → ℕ) (gives : (i y : ℕ) (q : F) → Called g f (i, tt) y q → (q ≡ f) × (y ≡ v i)) where
  given : (n i : ℕ) (ys : List ℕ) (p : F) → p ≡ f → IsFromFnResultFrom g p ys i n → (k : ℕ) → k < n → get_or ys (i + k) 0 ≡ v (i + k)
  given zero i ys p e h k l = absurd (omega arith)
  given (suc n) i ys p e (q, y, stands, called, rest) zero l =
      rw add-zero (stands.1 0 ∙ (gives i y q (subst (λ s. Called g s (i, tt) y q) e called)).1)
  given (suc n) i ys p e (q, y, stands, called, rest) (suc k) l =
      let same' : q ≡ f = (gives i y q (subst (λ s. Called g s (i, tt) y q) e called)).0 in
      let next : i + suc k ≡ i + 1 + k = omega arith in
      rw next (given n (i + 1) ys q same' rest k (omega arith))

pub returns-then-b-off : goal.returns-then-b-off
returns-then-b-off g c =
    let a = c.args in
    same g.row.N (replicate g.row.N 0) 0 a.b.now a.off (λ k l.
    rw zero-add (get_or-replicate g.row.N k 0 0 l ∙ sym (get_or-eq_default a.b.now 0 (omega arith))))

pub returns-in-Some : goal.returns-in-Some
returns-in-Some g c =
    let a = c.args in
    let rest = take (length a.b.now - a.off) (drop a.off a.b.now) in
    same g.row.N c.in-Some.whole.now 0 a.b.now a.off (λ k l.
    rw zero-add (ap (λ s. get_or s k 0) c.in-Some.ensures.cases.same ∙ get_or-take g.row.N rest k 0 l ∙ rest_at a.b.now a.off k))

pub returns : goal.returns
returns g c =
    let a = c.args in
    let rest = take (length a.b.now - a.off) (drop a.off a.b.now) in
    same g.row.N c.from_fn.result 0 a.b.now a.off (λ k l.
    let w = given _ _ (λ j. le_at 1 rest j) (λ j y q called. search rules) g.row.N 0 c.from_fn.result _ refl c.from_fn.ensures.items.each k l in
    w ∙ le_one rest (0 + k) ∙ rw zero-add (rest_at a.b.now a.off k))
