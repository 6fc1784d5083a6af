use Rattle.plan_text.proofs.Divisors.{divisor_rule}
use Rattle.plan_text.proofs.divisor_law.law_divisor_rule.Goals as goal

pub returns : goal.returns
returns c = divisor_rule
