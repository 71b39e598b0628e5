-- `units::leaf_check_strip` meets its contract: the words of what its callee answers.
use mathlib.Core.Path.{sym, ap, ◌∙◌}
use Rattle.fields.specs.Bytes.{over}
use Rattle.fields.specs.Put.{put}
use Rattle.fields.proofs.Puts.{put_one}
use Rattle.strip.specs.Outcome.{Paper, paper}
use Rattle.strip.specs.declared.Counts.{Counts}
use Rattle.units.specs.Entries.{number_of, answer_of}
use Rattle.fields.proofs.Puts.{put_three}
use Rattle.units.proofs.leaf_check_strip.Goals as goal

pub returns-in-Ok : goal.returns-in-Ok
unfolding put
returns-in-Ok c =
    let n = c.in-Ok.n in
    let old = c.args.answer.now in
    let e = sym (ap paper c.in-Ok.is) ∙ c.check_strip.ensures in
    record {
      number = ap number_of e;
      words = put_three 0 n.polys n.portals n.points old ∙ ap (λ (o : Paper Counts). over (answer_of o) old) e;
    }

pub returns-in-Err : goal.returns-in-Err
unfolding put
returns-in-Err c =
    let r = c.in-Err.r in
    let old = c.args.answer.now in
    let e = sym (ap paper c.in-Err.is) ∙ c.check_strip.ensures in
    record {
      number = c.from.ensures ∙ ap number_of e;
      words = sym (put_one 0 r.place old) ∙ ap (λ (o : Paper Counts). over (answer_of o) old) e;
    }
