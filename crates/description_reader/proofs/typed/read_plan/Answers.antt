use Rattle.std.proofs.Common.{arith}
use Rattle.description_reader.proofs.Answers.{read_of, refused_of, unread_by}
use Rattle.std.proofs.lemmas.Grind.{common_steps}
use Rattle.description_reader.proofs.typed.read_plan.Goals as goal

pub returns-in-Err : goal.returns-in-Err
returns-in-Err c = grind (arith, read_of, refused_of, unread_by)

pub returns-in-Ok : goal.returns-in-Ok
returns-in-Ok c = grind (arith, common_steps)
