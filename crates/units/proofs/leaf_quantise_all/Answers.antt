-- `units::leaf_quantise_all` meets its contract. The loop's invariant: the shorts of the vertices passed are stored over the output.
use Prim.Native.Nat.{ℕ, zero, suc, ◌≤◌, ◌*◌, ◌+◌, min}
use native.Mathlib.Nat.{zero-add, min-le_left, min-le_right}
use native.Mathlib.Numerals.{add-one}
use native.Mathlib.Omega.{arith}
use mathlib.Core.Path.{◌≡◌, refl, ap, sym, ◌∙◌}
use mathlib.Core.List.{List, [], ◌∷◌}
use lib.ListN.{length, length-append}
use Rattle.math.specs.declared.vec3.Vec3.{Vec3}
use Rattle.quantise.specs.Short.{shorts}
use Rattle.quantise.specs.declared.short.Shorts.{Shorts}
use Rattle.fields.specs.Put.{put}
use Rattle.fields.proofs.Puts.{put_nil, put_next}
use Rattle.math.specs.Floats.{floats_at}
use Rattle.units.specs.Entries.{shorts_to}
use Rattle.units.proofs.leaf_quantise_all.Goals as goal

length_shorts : (ws : List ℕ) (bb-min bb-size : Vec3) (n : ℕ) → length (shorts_to ws bb-min bb-size n) ≡ 3 * n
unfolding shorts_to
length_shorts ws bb-min bb-size zero = refl
length_shorts ws bb-min bb-size (suc n) = simp length-append (omega (arith, length_shorts ws bb-min bb-size n))

-- the shorts of one vertex more, behind those that stand
one_more : (ws : List ℕ) (bb-min bb-size : Vec3) (i : ℕ) (out : List ℕ) (q : Shorts) → q ≡ shorts (floats_at ws (3 * i)) bb-min bb-size → put (3 * i) (q.x ∷ q.y ∷ q.z ∷ []) (put 0 (shorts_to ws bb-min bb-size i) out) ≡ put 0 (shorts_to ws bb-min bb-size (i + 1)) out
unfolding shorts_to
one_more ws bb-min bb-size i out q e =
    let v = shorts (floats_at ws (3 * i)) bb-min bb-size in
    let h = put_next (3 * i) 0 (shorts_to ws bb-min bb-size i) (v.x ∷ v.y ∷ v.z ∷ []) out (length_shorts ws bb-min bb-size i) in
    rw (e, add-one i) (rw zero-add at h)

both : (n a b : ℕ) → n ≡ min a b → (n ≤ a) × (n ≤ b)
both n a b e = (rw e (min-le_left a b), rw e (min-le_right a b))

pub loop-i-init : goal.loop-i-init
unfolding shorts_to
loop-i-init c = (refl, sym (put_nil 0 _))

pub overflow_mul-i : goal.overflow_mul-i
overflow_mul-i c = let h = both _ _ _ c.min-n.ensures in omega arith

pub floats_at-requires-in-loop-i : goal.floats_at-requires-in-loop-i
floats_at-requires-in-loop-i c = let h = both _ _ _ c.min-n.ensures in omega arith

pub overflow_mul-i-in-loop-i : goal.overflow_mul-i-in-loop-i
overflow_mul-i-in-loop-i c = let h = both _ _ _ c.min-n.ensures in omega arith

pub store-requires : goal.store-requires
store-requires c = let h = both _ _ _ c.min-n.ensures in omega arith

pub loop-i-preserved : goal.loop-i-preserved
loop-i-preserved c =
    let l = c.loop-i in
    let a = c.args in
    let q = c.shorts_of-q in (
      omega arith,
      c.store.ensures ∙ ap (put (3 * l.i) (q.result.x ∷ q.result.y ∷ q.result.z ∷ [])) l.invariant.1 ∙ one_more a.vertices.now c.floats_at.result c.floats_at-2.result l.i a.out.now q.result (cc),
    )

pub returns : goal.returns
unfolding put
returns c =
    let l = c.loop-i in
    let e : l.i ≡ c.min-n.result = omega arith in
    record {
      count = c.min-n.ensures;
      content = cc;
    }
