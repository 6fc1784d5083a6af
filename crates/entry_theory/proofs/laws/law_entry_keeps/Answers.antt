use Rattle.entry_theory.proofs.Promises.{entry_keeps_all}
use Rattle.entry_theory.proofs.laws.law_entry_keeps.Goals as goal

pub returns : goal.returns
returns c = entry_keeps_all
