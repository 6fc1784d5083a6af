use Rattle.std.proofs.Common.{refl}
use Rattle.branch_and_bound.proofs.Waiting.{all_settled}
use Rattle.branch_and_bound.proofs.greatest.next_waiting.Goals as goal

pub returns-then-is_reached-clause-none : goal.returns-then-is_reached-clause-none
returns-then-is_reached-clause-none g c =
    all_settled c.args.nodes.now c.args.incumbent.now c.in-Some.greatest c.in-Some.ensures (c.if-is_reached.ensures.yes refl)
