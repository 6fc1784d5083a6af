use Rattle.std.proofs.Common.{length, refl, ◌∙◌, ap, arith}
use Rattle.simplex_theory.specs.Lines.{cleared}
use Rattle.fraction_tableau.specs.KeptCells.{number_in, kept_below}
use Rattle.fraction_tableau.proofs.KeptCells.{same_count, same_width}
use Rattle.fraction_tableau.proofs.Marking.{none_marked}
use Rattle.fraction_tableau.proofs.Scales.{quiet_is}
use Rattle.std.proofs.lemmas.Grind.{common_steps}
use Rattle.fraction_tableau.proofs.joining.join.Goals as goal

pub returns-clause-cells : goal.returns-clause-cells
returns-clause-cells c =
    let e = c.args.divided.now in
    let d = c.args.row.now in
    let j = c.args.joining.now in
    let t = c.loop-index.invariant.joined in
    let below = t.inside in
    let s = ap length (c.kept-index-end.ensures ∙ ap (kept_below (number_in e)) (same_width _ _ _ c.requires.width c.requires.widths)) in
    let u = c.loop-index.invariant.index in
    let z = same_count (number_in e) c.loop-index.done.below (length c.args.cells.now) (omega (arith, c.loop-index.auto.cells)) (omega arith) in
    c.keep_before.ensures.cells (number_in (cleared j.place e d)) (λ m a b. quiet_is j.place m e d c.requires.own (z m a (omega arith))) t.joined

pub loop-index-init : goal.loop-index-init
loop-index-init c = record {
  joined = record { inside = omega arith; taken = refl; made = omega arith; joined = refl; marked = none_marked 0 };
  index = refl;
}

pub returns-clause-marked : goal.returns-clause-marked
returns-clause-marked c = c.keep_before.ensures.marked c.loop-index.invariant.joined.marked

pub join_next-done-requires : goal.join_next-done-requires
join_next-done-requires c = grind (arith, common_steps)

pub keep_before-requires : goal.keep_before-requires
keep_before-requires c = grind (arith, common_steps)
