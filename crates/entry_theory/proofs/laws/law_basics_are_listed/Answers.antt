use Rattle.entry_theory.proofs.Promises.{basics_are_listed}
use Rattle.entry_theory.proofs.laws.law_basics_are_listed.Goals as goal

pub returns : goal.returns
returns c = basics_are_listed
