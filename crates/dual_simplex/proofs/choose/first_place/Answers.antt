use Rattle.std.proofs.Common.{sym, ap}
use Rattle.narrow_fraction.specs.Attempt.{attempt}
use Rattle.fraction_tableau.proofs.Refusals.{refused_none}
use Rattle.dual_simplex.proofs.choose.first_place.Goals as goal

pub returns-in-Some : goal.returns-in-Some
returns-in-Some c =
    let f = refused_none _ _ _ c.args.row c.args.first.place c.in-Some.ensures.fits in
    sym (ap (λ o. attempt o c.args.first) f)
