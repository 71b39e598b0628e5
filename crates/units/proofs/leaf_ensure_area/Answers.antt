-- `units::leaf_ensure_area` meets its contract: the number of what its callee answers.
use mathlib.Core.Path.{sym, ap, ◌∙◌}
use Rattle.std.specs.Prelude.{ℕ, Option}
use Rattle.areas.specs.Tables.{paper}
use Rattle.units.specs.Entries.{index_or_32}
use Rattle.units.proofs.leaf_ensure_area.Goals as goal

pub returns-in-Some : goal.returns-in-Some
returns-in-Some c =
    record {
      answer = sym (ap index_or_32 (sym (c.ensure_id-e.ensures.answer.answer 0) ∙ ap (λ (a : Option ℕ). paper a 0) c.in-Some.is));
      table = c.ensure_id-e.ensures.table;
    }

pub returns-in-None : goal.returns-in-None
returns-in-None c =
    record {
      answer = sym (ap index_or_32 (sym (c.ensure_id-e.ensures.answer.answer 0) ∙ ap (λ (a : Option ℕ). paper a 0) c.in-None.is));
      table = c.ensure_id-e.ensures.table;
    }
