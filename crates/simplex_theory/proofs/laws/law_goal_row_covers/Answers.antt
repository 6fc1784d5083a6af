use Rattle.simplex_theory.proofs.Promises.{goal_row_covers}
use Rattle.simplex_theory.proofs.laws.law_goal_row_covers.Goals as goal

pub returns : goal.returns
returns c = goal_row_covers
