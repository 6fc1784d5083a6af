use Rattle.std.proofs.Common.{arith}
use Rattle.progression.specs.declared.parts.Dir.TheVariants.{Outbound, Inbound}
use Rattle.street_words.specs.Warnings.{with_runs}
use Rattle.street_words.proofs.Multiples.{runs_above, runs_more}
use Rattle.street_words.proofs.fractions.with_link.Goals as goal

pub with_runs-requires-in-Some-clause-above : goal.with_runs-requires-in-Some-clause-above
with_runs-requires-in-Some-clause-above c =
    let one = runs_above c.args.artery.now c.args.ticks Outbound c.args.link c.requires.above in omega (arith, one, c.in-Some.ensures.1)

pub returns-in-None : goal.returns-in-None
returns-in-None c =
    let a = c.args.artery.now in
    let one = runs_above a c.args.ticks Outbound c.args.link c.requires.above in
    let more = runs_more a (with_runs a c.args.ticks Outbound c.args.link) Inbound c.args.link one in
    λ h. c.in-None.ensures (omega (arith, more, h))
