use Rattle.street_words.specs.Warnings.{most_ticks}
use Rattle.progression.specs.Speeds.{run_high}
use Rattle.street_words.proofs.Multiples.{first_short, one_above}
use Rattle.street_words.proofs.fractions.with_runs.Goals as goal

pub with_denominator-requires-in-Some-clause-above : goal.with_denominator-requires-in-Some-clause-above
with_denominator-requires-in-Some-clause-above c = one_above c.args.ticks c.in-Some.ticks c.run_low.result c.requires.above c.in-Some.ensures.1

pub returns-in-None : goal.returns-in-None
returns-in-None c =
    λ h. c.in-None.ensures (first_short c.args.ticks most_ticks c.run_low.result _ (run_high c.args.artery.now c.args.dir c.args.link) c.requires.above c.run_low.ensures.value h)
