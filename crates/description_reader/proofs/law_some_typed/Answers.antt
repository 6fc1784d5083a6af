use Rattle.description_reader.proofs.AnswerAlways.{some_typed}
use Rattle.description_reader.proofs.law_some_typed.Goals as goal

pub returns : goal.returns
returns c = some_typed
