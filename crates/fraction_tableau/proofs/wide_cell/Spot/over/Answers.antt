use Rattle.std.proofs.Common.{Ok, ap, refl, ◌∙◌}
use Rattle.fraction_tableau.proofs.Refusals.{refused_none, refused_some}
use Rattle.fraction_tableau.proofs.wide_cell.Spot.over.Goals as goal

pub returns-in-Ok-clause-outcome : goal.returns-in-Ok-clause-outcome
returns-in-Ok-clause-outcome c = rw (refused_none _ _ _ c.args.self.row c.args.self.col c.in-Ok.ensures.value.0) (ap Ok (c.fitting.ensures.same ∙ c.in-Ok.ensures.value.1))

pub returns-in-Err-clause-outcome : goal.returns-in-Err-clause-outcome
returns-in-Err-clause-outcome c = rw (refused_some _ _ _ c.args.self.row c.args.self.col _ c.in-Err.ensures.wide) refl
