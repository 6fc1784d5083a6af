use Rattle.std.proofs.Common.{subst, sym, arith}
use Rattle.fraction_tableau.specs.Loading.{IsUnpivoted}
use Rattle.fraction_tableau.proofs.LoadingLaws.{unpivoted-row}
use Rattle.fraction_tableau.specs.NamedTableaus.{NamedTableau}
use Rattle.engine_tests.proofs.tests.two_columns.load.Goals as goal

pub returns : goal.returns
returns c = λ u. subst (λ (t : NamedTableau). IsUnpivoted t.table) (sym c.load.ensures) (unpivoted-row _ _ _ _ (omega (arith, c.rows.ensures.count, c.if-number-rows.false)) u)
