use Rattle.std.proofs.Common.{rules}
use Rattle.run_inputs.proofs.Next.{next_read, later_unread}
use Rattle.run_inputs.proofs.inputs.read_next.Goals as goal

pub returns-in_err-more-clause-unread : goal.returns-in_err-more-clause-unread
returns-in_err-more-clause-unread g c = let all = later_unread _ c.in_ok-one.ensures.read c.in_ok-one.ensures.kept c.in_err-more.ensures.unread in search (rules, all)

pub returns-clause-read : goal.returns-clause-read
returns-clause-read g c = next_read c.in_ok-one.ensures.read c.in_ok-one.ensures.kept c.in_ok-more.ensures.read
