use Rattle.std.proofs.Common.{subst}
use Rattle.std.specs.List.Sorted.{IsPermutation}
use Rattle.entry_theory.proofs.Sorted.{sorted_is}
use Rattle.fraction_tableau.proofs.tableau.Tableau.basis.Goals as goal

pub returns-clause-listed : goal.returns-clause-listed
returns-clause-listed c =
    λ placed. sorted_is c.args.self.now.table c.sort.new.self.items c.known_named.ensures.shaped placed
    (subst (λ basic. IsPermutation basic c.sort.new.self.items) c.in_ok-list.ensures c.in_ok-sort.ensures.permutation) c.in_ok-sort.ensures.sorted
