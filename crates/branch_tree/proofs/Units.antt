-- A box of an artery is finished within as many units as there are sets of basic variables, at most.
use Rattle.progression.specs.Street.{Street}
use Rattle.branch_and_bound.specs.Enough.{IsShort}
use Rattle.branch_tree.specs.ArteryProgram.{program_of}
use Rattle.branch_tree.specs.Enough.{sets_of}
use Rattle.branch_tree.specs.laws.Lineage.{searchable}
use Rattle.branch_tree.specs.ArteryRules.{meaning_of, rules_of}
use Rattle.box_search.proofs.Units.{program_short}

pub boxes_short : (a : Street) → IsShort (rules_of a) (sets_of a)
boxes_short a = program_short (program_of a) (meaning_of a) (λ line l. (searchable a line l).valid)
