use Rattle.std.proofs.Common.{◌≤◌, pos, ◌+◌, arith}
use Rattle.free_band.proofs.Same.{same_back, same_late}
use Rattle.free_band.proofs.rows.late_by.Goals as goal

pub returns-then-late-slack : goal.returns-then-late-slack
returns-then-late-slack c = (c.if-late-slack.true, same_back c.args.cycle (pos c.args.to) (pos (c.args.left + c.ahead-late.result)) c.ahead-late.ensures.is)

pub returns-else-late-slack : goal.returns-else-late-slack
returns-else-late-slack c = λ more l s. let h : c.ahead-late.result ≤ more = same_late c.args.cycle c.ahead-late.result more (pos c.args.left) (pos c.args.to) c.ahead-late.ensures.below
    c.ahead-late.ensures.is s in omega arith
