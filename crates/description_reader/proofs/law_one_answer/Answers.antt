use Rattle.description_reader.proofs.AnswerOnce.{one_answer}
use Rattle.description_reader.proofs.law_one_answer.Goals as goal

pub returns : goal.returns
returns c = one_answer
