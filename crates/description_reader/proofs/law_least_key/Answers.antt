use Rattle.description_reader.proofs.LeastKeys.{keys_are_judged}
use Rattle.description_reader.proofs.law_least_key.Goals as goal

pub returns : goal.returns
returns c = keys_are_judged
