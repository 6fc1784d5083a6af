use Rattle.std.proofs.Common.{subst, sym}
use Rattle.fraction_tableau.specs.Loading.{IsUnpivoted}
use Rattle.fraction_tableau.proofs.LoadingLaws.{unpivoted-blank}
use Rattle.fraction_tableau.specs.NamedTableaus.{NamedTableau}
use Rattle.engine_tests.proofs.tests.two_columns.blank.Goals as goal

pub returns-in-Ok : goal.returns-in-Ok
returns-in-Ok c = subst (λ (t : NamedTableau). IsUnpivoted t.table) (sym c.in-Ok.ensures) (unpivoted-blank _ _)
