use Rattle.simplex_theory.proofs.Promises.{step_keeps}
use Rattle.simplex_theory.proofs.laws.law_step_keeps.Goals as goal

pub returns : goal.returns
returns c = step_keeps
