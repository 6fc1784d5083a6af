use Rattle.time_space.proofs.RulesOut.{rules_out}
use Rattle.run_commands.proofs.whole.is_good.Goals as goal

pub returns-in-Err-clause-bad : goal.returns-in-Err-clause-bad
returns-in-Err-clause-bad c = λ f g. rules_out c.args.artery.now c.args.timing.now c.in-Err.field-0 c.in-Err.ensures.first.fails g
