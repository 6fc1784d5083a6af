use Rattle.std.proofs.Common.{arith}
use Rattle.branch_and_bound.proofs.Volumes.{choices_some, choices_split}
use Rattle.branch_and_bound.proofs.laws.law_choices_are_shared.Goals as goal

pub returns : goal.returns
returns c = grind (arith, choices_some, choices_split)
