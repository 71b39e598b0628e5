-- `resource::is_good` meets its contract: `inside` answers in the section that is named.
use mathlib.Core.Path.{sym, ap, ◌∙◌}
use Rattle.resource.proofs.Lookup.{named, good_by, good_by_lem}
use Rattle.resource.proofs.is_good.Goals as goal

pub returns-in-Some-Graphics-default : goal.returns-in-Some-Graphics-default
returns-in-Some-Graphics-default c =
    let a = c.args in
    let h = c.in-Some-Graphics-default in
    c.inside.ensures ∙ ap (good_by a.system.now a.graphics.now a.len) (named h.is h.field-0-0-is ∙ c.locate.ensures) ∙ good_by_lem _ _ a.va _

pub returns-in-Some-System-default : goal.returns-in-Some-System-default
returns-in-Some-System-default c =
    let a = c.args in
    let h = c.in-Some-System-default in
    c.inside-in-Some-System-default.ensures ∙ ap (good_by a.system.now a.graphics.now a.len) (named h.is h.field-0-0-is ∙ c.locate.ensures) ∙ good_by_lem _ _ a.va _

pub returns-in-None : goal.returns-in-None
returns-in-None c =
    let a = c.args in
    ap (good_by a.system.now a.graphics.now a.len) (sym c.in-None.is ∙ c.locate.ensures) ∙ good_by_lem _ _ a.va _
