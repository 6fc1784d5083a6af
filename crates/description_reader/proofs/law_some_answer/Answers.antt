use Rattle.description_reader.proofs.AnswerAlways.{some_answer}
use Rattle.description_reader.proofs.law_some_answer.Goals as goal

pub returns : goal.returns
returns c x = some_answer x
