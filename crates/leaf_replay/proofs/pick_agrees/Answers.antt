-- `leaf_replay::pick_agrees` meets its contract: what the entry ensures of its number and its answer, on the words behind the spot.
use Prim.Native.Nat.{ℕ, ◌-◌}
use mathlib.Core.Bool.{false≢true}
use mathlib.Core.Path.{◌≡◌, sym, subst, ◌∙◌}
use mathlib.Core.List.{List}
use native.Mathlib.Omega.{arith}
use lib.ListN.{length, take, drop, length-drop}
use lib.Seq.{take_all}
use Rattle.leaf_replay.specs.Agreement.{FirstThree}
use Rattle.leaf_replay.proofs.pick_agrees.Goals as goal

pub returns-then-input-lt2 : goal.returns-then-input-lt2
returns-then-input-lt2 c = λ h. absurd (false≢true h)

pub returns : goal.returns
returns c =
    let i = c.args.input.now in
    let all : take (length i - 2) (drop 2 i) ≡ drop 2 i = take_all (length i - 2) (drop 2 i) (omega (arith, length-drop 2 i)) in
    λ h. (
      sym (rw all at c.pick_entry-number.ensures.number) ∙ (c.answer_agrees.ensures h).0,
      subst (λ (l : List ℕ). FirstThree l c.args.output.now) (rw all at c.pick_entry-number.ensures.words) (c.answer_agrees.ensures h).1,
    )
