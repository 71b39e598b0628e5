-- `cellsum_line::cellsum_line` meets its contract: the line is that of what the reader decides, or of an input that is too long.
use native.Mathlib.Omega.{arith}
use mathlib.Core.Path.{refl, sym, ap, ◌∙◌}
use mathlib.Core.List.{[]}
use lib.ListN.{length, get_or}
use Rattle.strip.specs.Outcome.{paper}
use Rattle.strip.specs.Reasons.{reason_number}
use Rattle.ynv_read.specs.Parse.{parse_outcome}
use Rattle.cellsum_line.specs.Line.{accepted_text}
use Rattle.cellsum_line.proofs.Outcomes.{short_input, long_input, accepted_line, refused_line, promised}
use Rattle.cellsum_line.proofs.cellsum_line.Goals as goal

pub returns-then-input-gt-MOST_INPUT : goal.returns-then-input-gt-MOST_INPUT
returns-then-input-gt-MOST_INPUT c =
    let start = c.args in
    let line = c.put_refusal.ensures in
    let strip = start.strip.now in
    let stored = rw c.from.ensures at line.stored in
    let w = promised strip strip (long_input start.input.now (length strip) (omega (arith, c.if-input-gt-MOST_INPUT.true))) refl stored refl in
    record { bound = line.bound; size = w.0; line = w.1.0; strip = w.1.1 }

pub slice_bounds-parse_ynv-end : goal.slice_bounds-parse_ynv-end
slice_bounds-parse_ynv-end c = refl

pub bounds-strip-2 : goal.bounds-strip-2
bounds-strip-2 c =
    let p = c.in-Ok.p in
    let start = c.args in
    let answer = c.parse_ynv.ensures in
    let told = accepted_line start.input.now [] start.strip.now p (sym (ap paper c.in-Ok.is) ∙ answer.answer) in
    omega (arith, told.0, ap length answer.strip)

pub returns-in-Ok : goal.returns-in-Ok
returns-in-Ok c =
    let line = c.put_cell.ensures in
    let p = c.in-Ok.p in
    let start = c.args in
    let strip = start.strip.now in
    let answer = c.parse_ynv.ensures in
    let told = accepted_line start.input.now [] strip p (sym (ap paper c.in-Ok.is) ∙ answer.answer) in
    let text = ap (λ s. accepted_text (get_or s 2 0) p) answer.strip ∙ told.1 in
    let w = promised strip _ (short_input start.input.now (length strip) c.if-input-gt-MOST_INPUT.false) text line.stored answer.strip in
    record { bound = line.bound; size = w.0; line = w.1.0; strip = w.1.1 }

pub returns-in-Err : goal.returns-in-Err
returns-in-Err c =
    let line = c.put_refusal-in-Err.ensures in
    let r = c.in-Err.r in
    let start = c.args in
    let strip = start.strip.now in
    let answer = c.parse_ynv.ensures in
    let decided = parse_outcome start.input.now [] (length strip) in
    let text = refused_line decided (reason_number r.reason) r.place (sym (ap paper c.in-Err.is) ∙ answer.answer) in
    let w = promised strip _ (short_input start.input.now (length strip) c.if-input-gt-MOST_INPUT.false) text line.stored answer.strip in
    record { bound = line.bound; size = w.0; line = w.1.0; strip = w.1.1 }
