-- `leaf_replay::seams_agree` meets its contract: what the entry ensures of its number and its answer.
use Prim.Native.Nat.{ℕ}
use mathlib.Core.Path.{sym, subst, ◌∙◌}
use mathlib.Core.List.{List}
use Rattle.leaf_replay.specs.Agreement.{FirstThree}
use Rattle.leaf_replay.proofs.seams_agree.Goals as goal

pub returns : goal.returns
returns c =
    λ h. (
      sym c.seams_entry-number.ensures.number ∙ (c.answer_agrees.ensures h).0,
      subst (λ (l : List ℕ). FirstThree l c.args.output.now) c.seams_entry-number.ensures.words (c.answer_agrees.ensures h).1,
    )
