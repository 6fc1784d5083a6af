use Rattle.std.proofs.Common.{◌≡◌, IfOk, arith, subst}
use Rattle.progression.specs.Street.{count}
use Rattle.link_theory.specs.LinkColumns.{half_place}
use Rattle.offset_recovery.specs.ByLink.{from_first}
use Rattle.offset_recovery.proofs.ByLink.{ticks_same}
use Rattle.multi_band.proofs.LinkNumbers.{halves_placed, halves_few, halves_end}
use Rattle.multi_band.proofs.recovery.halves.Goals as goal

pub half_column-requires : goal.half_column-requires
half_column-requires c = let few = c.known_valid.ensures.few in record { link = (omega arith, omega arith) }

pub ticks_by_link-requires-clause-columns : goal.ticks_by_link-requires-clause-columns
ticks_by_link-requires-clause-columns c =
    let e = halves_end c.args.artery.now c.args.dir c.half_column.result c.half_column.ensures.value c.known_valid.ensures.few in let r = c.requires.ready.columns in omega (arith, e, r)

pub ticks_by_link-requires-clause-ticks : goal.ticks_by_link-requires-clause-ticks
ticks_by_link-requires-clause-ticks c =
    halves_few c.args.artery.now c.args.point.now.values.items c.args.dir c.half_column.result c.requires.ready c.half_column.ensures.value

pub ticks_by_link-requires-clause-numbers : goal.ticks_by_link-requires-clause-numbers
ticks_by_link-requires-clause-numbers c = let many = c.known_valid.ensures.many in let inside = c.half_column.ensures.inside in omega (arith, many, inside)

pub returns : goal.returns
returns c =
    let a = c.args.artery.now in let x = c.args.point.now.values.items in
    subst (λ halves. IfOk c.ticks_by_link.result (λ ticks. ticks.items ≡ halves))
    (ticks_same a x (from_first c.half_column.result) (half_place (count a) c.args.dir) (halves_placed a c.args.dir c.half_column.result c.half_column.ensures.value))
    c.ticks_by_link.ensures
