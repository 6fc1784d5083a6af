use Rattle.run_laws.proofs.TimingBounded.{timing_bounded}
use Rattle.run_laws.proofs.plans.law_timing_is_bounded.Goals as goal

pub returns : goal.returns
returns c = timing_bounded (record { street = c.law_one_answer.ensures; plan = c.law_one_typed.ensures }) c.law_accepted_or_refused.ensures.refused
