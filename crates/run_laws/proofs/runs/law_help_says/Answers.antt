use Rattle.run_laws.proofs.Helping.{help_says}
use Rattle.run_laws.proofs.runs.law_help_says.Goals as goal

pub returns : goal.returns
returns c = help_says
