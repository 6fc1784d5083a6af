use Rattle.std.proofs.Common.{List, length, set, get_or, take, ◌-◌, ◌+◌, sym, subst, arith}
use Rattle.rational_theory.specs.Rational.{ℚ}
use Rattle.fraction_tableau.specs.KeptCells.{number_in}
use Rattle.fraction_tableau.specs.Marks.{AreMarked}
use Rattle.fraction_tableau.specs.Scales.{CanRescale}
use Rattle.fraction_tableau.specs.declared.kept.Kept.{Kept}
use Rattle.fraction_tableau.proofs.KeptCells.{both_written, next_in}
use Rattle.fraction_tableau.proofs.Keeps.{Keeping, keeping_none, keeping_room, keeping_next, keeping_stop, keeping_end}
use Rattle.fraction_tableau.proofs.Marking.{marked_put}
use Rattle.fraction_tableau.proofs.merging.keep_some.Goals as goal

pub returns-then-next-place-clause-taken : goal.returns-then-next-place-clause-taken
returns-then-next-place-clause-taken c =
    (keeping_stop _ _ _ _ _ _ _ _ (length c.args.row.now - 1) c.kept-kept.result.now c.index-kept-taken.result c.loop-taken.invariant.0 (omega arith)
    c.kept-kept.ensures c.index-kept-taken.is (omega arith) (omega arith)).count

pub returns-then-next-place-clause-cells : goal.returns-then-next-place-clause-cells
returns-then-next-place-clause-cells c =
    (keeping_stop _ _ _ _ _ _ _ _ (length c.args.row.now - 1) c.kept-kept.result.now c.index-kept-taken.result c.loop-taken.invariant.0 (omega arith)
    c.kept-kept.ensures c.index-kept-taken.is (omega arith) (omega arith)).cells

pub rescaled-requires : goal.rescaled-requires
rescaled-requires c =
    let k = c.index-kept-taken.result in
    let f = number_in c.args.row.now in
    let i = c.loop-taken.invariant.0 in
    let w = length c.args.row.now - 1 in
    let a = i.low in
    let x = next_in f i.at w c.loop-taken.taken c.kept-kept.result.now k c.kept-kept.ensures c.index-kept-taken.is (omega arith) i.count (omega arith) in
    subst (CanRescale c.args.rescaling) x.is (c.requires.rescaling k.place)

pub loop-taken-preserved : goal.loop-taken-preserved
loop-taken-preserved c =
    let k = c.index-kept-taken.result in
    let f = number_in c.args.row.now in
    let room = keeping_room _ _ _ _ _ _ _ _ (length c.args.row.now - 1) c.kept-kept.result.now k c.loop-taken.invariant.0 (omega arith) (omega arith)
    c.kept-kept.ensures c.index-kept-taken.is (omega arith) (omega arith) in
    let old = c.loop-taken.cells in
    let made = c.loop-taken.made in
    let new = both_written old made (record { place = k.place; cell = (get_or old made c.index-cells-made.result).cell }) c.index-cells-made-in-loop-taken.result c.rescaled.result room in (
      subst (λ (l : List Kept). Keeping f c.args.done.below c.args.place c.args.done.made c.args.cells.now l (c.loop-taken.taken + 1) (c.loop-taken.made + 1)) (sym new)
          (subst (λ (x : ℚ). Keeping f c.args.done.below c.args.place c.args.done.made c.args.cells.now (set c.loop-taken.cells c.loop-taken.made (record { place = k.place; cell = x }))
          (c.loop-taken.taken + 1) (c.loop-taken.made + 1)) (sym c.rescaled.ensures)
          (keeping_next _ _ _ _ _ _ _ _ (length c.args.row.now - 1) c.kept-kept.result.now k c.loop-taken.invariant.0 (omega arith) (omega arith)
          c.kept-kept.ensures c.index-kept-taken.is (omega arith) (omega arith))),
      λ m. subst (λ (l : List Kept). AreMarked c.with_mark-marks.result (take (c.loop-taken.made + 1) l)) (sym new)
          (marked_put _ _ _ _ (record { place = k.place; cell = c.rescaled.result }) room (c.loop-taken.invariant.1 m) c.with_mark-marks.ensures.set c.with_mark-marks.ensures.others),
    )

pub returns-clause-taken : goal.returns-clause-taken
returns-clause-taken c =
    (keeping_end _ _ _ _ _ _ _ _ (length c.args.row.now - 1) c.kept-kept.result.now c.loop-taken.invariant.0 (omega arith) c.kept-kept.ensures (omega arith)).count

pub returns-clause-cells : goal.returns-clause-cells
returns-clause-cells c =
    (keeping_end _ _ _ _ _ _ _ _ (length c.args.row.now - 1) c.kept-kept.result.now c.loop-taken.invariant.0 (omega arith) c.kept-kept.ensures (omega arith)).cells

pub loop-taken-init : goal.loop-taken-init
loop-taken-init c = (keeping_none _ _ _ _ _ _ c.requires.order c.requires.taken c.requires.made, λ m. m)

pub returns-then-next-place-clause-marked : goal.returns-then-next-place-clause-marked
returns-then-next-place-clause-marked c = c.loop-taken.invariant.1

pub returns-clause-marked : goal.returns-clause-marked
returns-clause-marked c = c.loop-taken.invariant.1
