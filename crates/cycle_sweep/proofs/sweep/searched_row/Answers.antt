use Rattle.std.proofs.Common.{refl, subst}
use Rattle.progression.specs.Street.{Street}
use Rattle.branch_tree.specs.Searched.{IsSearched}
use Rattle.cycle_sweep.proofs.sweep.searched_row.Goals as goal

pub returns-clause-row : goal.returns-clause-row
returns-clause-row c =
    (refl, c.requires.allowed, subst (λ (street : Street). IsSearched street c.args.limit c.in_ok-searched.searched.found) c.in_ok-street.ensures c.in_ok-searched.ensures.searched)
