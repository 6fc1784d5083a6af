use Rattle.std.proofs.Common.{subst, sym}
use Rattle.fraction_tableau.specs.Loading.{IsUnpivoted}
use Rattle.fraction_tableau.proofs.LoadingLaws.{unpivoted-goal}
use Rattle.fraction_tableau.specs.NamedTableaus.{NamedTableau}
use Rattle.engine_tests.proofs.tests.two_columns.load_goal.Goals as goal

pub returns : goal.returns
returns c = λ u. subst (λ (t : NamedTableau). IsUnpivoted t.table) (sym c.load_goal.ensures) (unpivoted-goal _ _ u.count u.slacks)
