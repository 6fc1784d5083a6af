use Rattle.std.proofs.Common.{ap, ◌∙◌, sym, ◌%◌}
use Rattle.workload_maker.specs.Draws.{next_state, high_bits}
use Rattle.workload_maker.proofs.Steps.{wraps_once, one_step}
use Rattle.workload_maker.proofs.draws.Draws.next.Goals as goal

pub returns-clause-drawn : goal.returns-clause-drawn
returns-clause-drawn c = wraps_once c.self.inside.state ∙ ap next_state c.self.view_is ∙ sym (one_step c.args.self.now)

pub returns-clause-value : goal.returns-clause-value
returns-clause-value c = ap (λ x. high_bits x % c.args.below) (returns-clause-drawn c)
