use Rattle.std.proofs.Common.{◌≡◌, pos, rules}
use Rattle.rational_theory.specs.Rational.{over}
use Rattle.speed_steps.proofs.Numbers.{over_least}
use Rattle.speed_steps.proofs.steps.share.Goals as goal

pub returns-clause-least : goal.returns-clause-least
returns-clause-least c =
    let e : c.reduced.result ≡ over (pos c.args.top) c.args.bottom = search rules in
    rw e (over_least c.args.top c.args.bottom c.requires.above)
