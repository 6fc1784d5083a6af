use Rattle.fraction_tableau.proofs.Named.{first_is_refused}
use Rattle.fraction_tableau.proofs.laws.law_first_refused.Goals as goal

pub returns : goal.returns
returns c = first_is_refused
