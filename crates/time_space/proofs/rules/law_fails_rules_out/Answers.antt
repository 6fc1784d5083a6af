use Rattle.time_space.proofs.RulesOut.{rules_out}
use Rattle.time_space.proofs.rules.law_fails_rules_out.Goals as goal

pub returns : goal.returns
returns c = rules_out
