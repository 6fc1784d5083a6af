use Rattle.std.proofs.Common.{◌∙◌, Option, ap, arith}
use Rattle.progression.specs.Street.{count}
use Rattle.narrow_fraction.specs.Attempt.{attempt}
use Rattle.link_theory.specs.LinkColumns.{half_place}
use Rattle.offset_recovery.specs.declared.outcome.WideTiming.{WideTiming}
use Rattle.offset_recovery.specs.ByLink.{from_first}
use Rattle.offset_recovery.proofs.ByLink.{tests_same}
use Rattle.multi_band.proofs.LinkNumbers.{halves_placed, halves_few, halves_end}
use Rattle.multi_band.proofs.recovery.check_halves.Goals as goal

pub half_column-requires : goal.half_column-requires
half_column-requires c = let few = c.known_valid.ensures.few in record { link = (omega arith, omega arith) }

pub check_by_link-requires-clause-columns : goal.check_by_link-requires-clause-columns
check_by_link-requires-clause-columns c =
    let e = halves_end c.args.artery.now c.args.dir c.half_column.result c.half_column.ensures.value c.known_valid.ensures.few in let r = c.requires.ready.columns in omega (arith, e, r)

pub check_by_link-requires-clause-ticks : goal.check_by_link-requires-clause-ticks
check_by_link-requires-clause-ticks c =
    halves_few c.args.artery.now c.args.point.now.values.items c.args.dir c.half_column.result c.requires.ready c.half_column.ensures.value

pub check_by_link-requires-clause-numbers : goal.check_by_link-requires-clause-numbers
check_by_link-requires-clause-numbers c = let many = c.known_valid.ensures.many in let inside = c.half_column.ensures.inside in omega (arith, many, inside)

pub returns : goal.returns
returns c =
    let a = c.args.artery.now in let x = c.args.point.now.values.items in
    c.check_by_link.ensures ∙ ap (λ (o : Option WideTiming). attempt o tt)
    (tests_same a x (from_first c.half_column.result) (half_place (count a) c.args.dir) (halves_placed a c.args.dir c.half_column.result c.half_column.ensures.value))
