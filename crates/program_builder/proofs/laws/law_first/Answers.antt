use Rattle.program_builder.proofs.First.{first_is}
use Rattle.program_builder.proofs.laws.law_first.Goals as goal

pub returns : goal.returns
returns c = first_is
