use Rattle.simplex_theory.proofs.Promises.{negative_row_refutes}
use Rattle.simplex_theory.proofs.laws.law_negative_row_refutes.Goals as goal

pub returns : goal.returns
returns c = negative_row_refutes
