use Rattle.simplex_theory.proofs.Promises.{loading_starts}
use Rattle.simplex_theory.proofs.laws.law_loading_starts.Goals as goal

pub returns : goal.returns
returns c = loading_starts
