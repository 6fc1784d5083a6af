use Rattle.description_reader.proofs.AnswerOnce.{one_typed}
use Rattle.description_reader.proofs.law_one_typed.Goals as goal

pub returns : goal.returns
returns c = one_typed
