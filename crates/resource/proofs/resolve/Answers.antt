-- `resource::resolve` meets its contract: `part_of` answers in the section that is named.
use mathlib.Core.Path.{refl, sym, subst, ◌∙◌}
use Rattle.resource.proofs.Lookup.{named, FoundAt, found}
use Rattle.resource.proofs.resolve.Goals as goal

pub returns-in-Some-Graphics-default : goal.returns-in-Some-Graphics-default
returns-in-Some-Graphics-default c =
    let a = c.args in
    let h = c.in-Some-Graphics-default in
    let part = c.part_of.ensures in
    let w = found a.system a.graphics a.va a.len _ _ (subst (FoundAt a.system a.graphics a.va a.len _ _) (named h.is h.field-0-0-is ∙ c.locate.ensures) (part.content, part.place)) in record { content = w.0; place = w.1 }

pub returns-in-Some-System-default : goal.returns-in-Some-System-default
returns-in-Some-System-default c =
    let a = c.args in
    let h = c.in-Some-System-default in
    let part = c.part_of-in-Some-System-default.ensures in
    let w = found a.system a.graphics a.va a.len _ _ (subst (FoundAt a.system a.graphics a.va a.len _ _) (named h.is h.field-0-0-is ∙ c.locate.ensures) (part.content, part.place)) in record { content = w.0; place = w.1 }

pub returns-in-None : goal.returns-in-None
returns-in-None c =
    let a = c.before.args in
    let w = found a.system a.graphics a.va a.len _ _ (subst (FoundAt a.system a.graphics a.va a.len _ _) (sym c.in-None.is ∙ c.locate.ensures) refl) in record { content = w.0; place = w.1 }
