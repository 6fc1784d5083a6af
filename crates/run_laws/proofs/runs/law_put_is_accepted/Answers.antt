use Rattle.run_laws.proofs.PutAccepted.{put_accepted}
use Rattle.run_laws.proofs.runs.law_put_is_accepted.Goals as goal

pub returns : goal.returns
returns c = put_accepted (record { street = c.law_one_answer.ensures; plan = c.law_one_typed.ensures }) c.law_accepted_or_refused.ensures.refused
