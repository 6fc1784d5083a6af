use Rattle.plan_text.proofs.ExactWords.{some_exact, none_exact}
use Rattle.plan_text.proofs.fraction.exact.Goals as goal

pub returns-in-Ok : goal.returns-in-Ok
returns-in-Ok c = some_exact c.args.word.now c.in-Ok.value c.in-Ok.ensures

pub returns-in-Err : goal.returns-in-Err
returns-in-Err c = none_exact c.args.word.now c.in-Err.ensures
