use Rattle.simplex_theory.proofs.Promises.{exchange_keeps}
use Rattle.simplex_theory.proofs.laws.law_exchange_keeps.Goals as goal

pub returns : goal.returns
returns c = exchange_keeps
