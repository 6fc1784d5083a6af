use Rattle.run_laws.proofs.Kept.{refusals_keep}
use Rattle.run_laws.proofs.runs.law_refusals_keep_files.Goals as goal

pub returns : goal.returns
returns c = refusals_keep
