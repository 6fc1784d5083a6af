use Rattle.std.proofs.Common.{◌-◌, length, arith}
use Rattle.plan_text.proofs.WeightLines.{last_at}
use Rattle.plan_text.proofs.row.cut_last.Goals as goal

pub returns-in-len1-up : goal.returns-in-len1-up
returns-in-len1-up c = last_at c.args.words.now (length c.args.words.now - 1) _ (omega (arith, c.in-len1-up.len_at_least))
