use Rattle.std.proofs.Common.{◌-◌, ap, ◌∙◌}
use Rattle.certificate_model.proofs.FamilyTables.{name_here}
use Rattle.certificate_model.proofs.family.family_name_in.Goals as goal

pub returns-in-Some : goal.returns-in-Some
returns-in-Some c = name_here c.args.names.now c.saturating_sub.result c.args.family c.in-Some.name.now _ c.in-Some.ensures.lookup.0 c.in-Some.ensures.lookup.1
    (c.saturating_sub.ensures ∙ ap (λ n. n - 1) c.from.ensures)
