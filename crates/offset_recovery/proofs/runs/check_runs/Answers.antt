use Rattle.std.proofs.Common.{◌∙◌, Option, ap, arith}
use Rattle.progression.specs.Street.{count}
use Rattle.progression.specs.Columns.{RunOf}
use Rattle.narrow_fraction.specs.Attempt.{attempt}
use Rattle.linear_theory.specs.Places.{place}
use Rattle.offset_recovery.specs.declared.outcome.WideTiming.{WideTiming}
use Rattle.offset_recovery.specs.ByLink.{from_first}
use Rattle.offset_recovery.proofs.ByLink.{tests_same}
use Rattle.offset_recovery.proofs.TicksOf.{runs_placed, runs_few, runs_end}
use Rattle.offset_recovery.proofs.runs.check_runs.Goals as goal

pub run_column-requires : goal.run_column-requires
run_column-requires c = let few = c.known_valid.ensures.few in record { link = (omega arith, omega arith) }

pub check_by_link-requires-clause-columns : goal.check_by_link-requires-clause-columns
check_by_link-requires-clause-columns c =
    let e = runs_end c.args.artery.now c.args.dir c.run_column.result c.run_column.ensures.value c.known_valid.ensures.few in let r = c.requires.ready.columns in omega (arith, e, r)

pub check_by_link-requires-clause-ticks : goal.check_by_link-requires-clause-ticks
check_by_link-requires-clause-ticks c =
    runs_few c.args.artery.now c.args.point.now.values.items c.args.dir c.run_column.result c.known_valid.ensures c.requires.ready c.run_column.ensures.value

pub check_by_link-requires-clause-numbers : goal.check_by_link-requires-clause-numbers
check_by_link-requires-clause-numbers c = let many = c.known_valid.ensures.many in let inside = c.run_column.ensures.inside in omega (arith, many, inside)

pub returns : goal.returns
returns c =
    let a = c.args.artery.now in let x = c.args.point.now.values.items in
    c.check_by_link.ensures ∙ ap (λ (o : Option WideTiming). attempt o tt)
    (tests_same a x (from_first c.run_column.result) (λ i. place (count a) (RunOf c.args.dir i)) (runs_placed a c.args.dir c.run_column.result c.run_column.ensures.value))
