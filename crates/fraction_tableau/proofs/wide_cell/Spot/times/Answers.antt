use Rattle.std.proofs.Common.{Ok, ap, refl}
use Rattle.fraction_tableau.proofs.Refusals.{refused_none, refused_some}
use Rattle.fraction_tableau.proofs.wide_cell.Spot.times.Goals as goal

pub returns-in-Ok : goal.returns-in-Ok
returns-in-Ok c = rw (refused_none _ _ _ c.args.self.row c.args.self.col c.in-Ok.ensures.value.0) (ap Ok c.in-Ok.ensures.value.1)

pub returns-in-Err : goal.returns-in-Err
returns-in-Err c = rw (refused_some _ _ _ c.args.self.row c.args.self.col _ c.in-Err.ensures.wide) refl
