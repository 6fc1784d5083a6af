use Rattle.run_laws.proofs.Statuses.{words_are_told}
use Rattle.run_laws.proofs.stops.law_words_are_told.Goals as goal

pub returns : goal.returns
returns c = words_are_told
