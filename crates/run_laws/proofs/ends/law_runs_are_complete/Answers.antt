use Rattle.run_laws.proofs.Complete.{runs_complete}
use Rattle.run_laws.proofs.ends.law_runs_are_complete.Goals as goal

pub returns : goal.returns
returns c = runs_complete (record { street = c.law_one_answer.ensures; plan = c.law_one_typed.ensures })
