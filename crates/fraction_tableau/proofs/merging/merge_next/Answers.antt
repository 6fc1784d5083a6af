use Rattle.std.proofs.Common.{length, ◌+◌, ◌<◌, sym, ◌∙◌, ap, subst, arith}
use Rattle.narrow_fraction.specs.Fraction.{FitsFrac}
use Rattle.narrow_fraction.proofs.Attempt.{attempt_ok, attempt_err, first_is}
use Rattle.fraction_tableau.specs.Refusals.{clear_at}
use Rattle.fraction_tableau.specs.KeptCells.{number_in, kept_below, merged_at}
use Rattle.fraction_tableau.proofs.KeptCells.{IsNext, next_in, step_count, same_width}
use Rattle.fraction_tableau.proofs.Merges.{quiet_number, merge_passed, merge_fits, same_refusal, same_number, merge_next_is}
use Rattle.fraction_tableau.proofs.merging.merge_next.Goals as goal
use Rattle.fraction_tableau.proofs.merging.merge_next.Goals.{After-index-others-index}

-- the next cell of the divided row that isn't 0
next : (c : After-index-others-index) → IsNext (number_in c.args.divided.now) c.args.done.below (length c.args.cells.now) c.index-others-index.result
next c =
    let f = number_in c.args.divided.now in
    let s = c.kept-others.ensures ∙ ap (kept_below f) (same_width _ _ _ c.requires.width c.requires.widths) in
    next_in f c.args.done.below (length c.args.cells.now) c.args.index c.kept-others.result.now c.index-others-index.result s c.index-others-index.is
    c.requires.merged.inside c.requires.index (subst (λ t. c.args.index < length t) (sym s) c.requires.inside)

pub keep_before-done-requires-clause-place : goal.keep_before-done-requires-clause-place
keep_before-done-requires-clause-place c =
    let x = next (goal.at.keep_before-done-requires-clause-place c).After-index-others-index in
    let y = x.inside in
    omega arith

pub keep_before-done-requires-clause-order : goal.keep_before-done-requires-clause-order
keep_before-done-requires-clause-order c =
    let x = next (goal.at.keep_before-done-requires-clause-order c).After-index-others-index in
    x.after

pub take_at-own-requires-clause-place : goal.take_at-own-requires-clause-place
take_at-own-requires-clause-place c =
    let x = next (goal.at.take_at-own-requires-clause-place c).After-index-others-index in
    let y = x.inside in
    omega (arith, c.requires.width)

pub returns-in-Err-clause-refused : goal.returns-in-Err-clause-refused
returns-in-Err-clause-refused c =
    let e = c.args.divided.now in
    let d = c.args.row.now in
    let k = c.index-others-index.result in
    let x = next (goal.at.returns-in-Err-clause-refused c).After-index-others-index in
    let i = c.args.clearing.now.number in
    let j = c.args.clearing.now.own.place in
    let f = c.args.clearing.now.factor in
    let r = sym (same_refusal i j e d k c.fraction.result f c.requires.factor x.is (c.fraction.ensures.value ∙ c.take_at-own.ensures.cell)) ∙ attempt_err _ _ _ c.in-Err.ensures.outcome in
    first_is (clear_at i j e d) k.place (length c.args.cells.now) c.in-Err.wide (merge_passed i j e d c.args.done.below k.place c.requires.narrow x.after c.requires.merged.passed x.zeros) r x.inside

pub put-made-requires : goal.put-made-requires
put-made-requires c =
    let x = next (goal.at.put-made-requires c).After-index-others-index in
    let y = x.inside in
    omega (arith, c.keep_before-done.auto.cells, c.keep_before-done.ensures.made)

pub overflow_add-result : goal.overflow_add-result
overflow_add-result c =
    let x = next (goal.at.overflow_add-result c).After-index-others-index in
    let y = x.inside in
    omega (arith, c.requires.width, c.requires.short)

pub returns-clause-merged : goal.returns-clause-merged
returns-clause-merged c =
    let e = c.args.divided.now in
    let d = c.args.row.now in
    let k = c.index-others-index.result in
    let x = next (goal.at.returns-clause-merged c).After-index-others-index in
    let i = c.args.clearing.now.number in
    let j = c.args.clearing.now.own.place in
    let v = c.args.clearing.now.own.cell in
    let f = c.args.clearing.now.factor in
    let o = attempt_ok _ _ _ c.in-Ok.ensures.outcome in
    let y = x.inside in
    merge_next_is i j v e d c.keep_before-done.new.cells c.put-made.new.cells c.take_at-own.result.taken c.keep_before-done.result.made c.put-made.result
    c.keep_before-done.result.marks k c.of_fraction.result c.put-made.auto.cells (omega (arith, c.keep_before-done.auto.cells))
    c.take_at-own.ensures.taken c.keep_before-done.ensures.made (c.keep_before-done.ensures.cells (merged_at j v e d) (λ m a b. quiet_number j v e d m (x.zeros m a b) c.requires.own)
    c.requires.merged.merged)
    (c.of_fraction.ensures ∙ o.1 ∙ same_number j v e d k c.fraction.result f c.requires.factor x.is (c.fraction.ensures.value ∙ c.take_at-own.ensures.cell))
    c.put-made.ensures.count c.put-made.ensures.cells
    (merge_passed i j e d c.args.done.below k.place c.requires.narrow x.after c.requires.merged.passed x.zeros)
    (sym (same_refusal i j e d k c.fraction.result f c.requires.factor x.is (c.fraction.ensures.value ∙ c.take_at-own.ensures.cell)) ∙ o.0)
    (merge_fits j v e d c.args.done.below k.place c.requires.narrow c.requires.own c.requires.merged.fits x.zeros) (subst FitsFrac (sym c.of_fraction.ensures) c.in-Ok.ensures.fits)

pub returns-clause-index : goal.returns-clause-index
returns-clause-index c =
    let e = c.args.divided.now in
    let k = c.index-others-index.result in
    let x = next (goal.at.returns-clause-index c).After-index-others-index in
    ap (λ n. n + 1) c.requires.index ∙ sym (step_count (number_in e) c.args.done.below (length c.args.cells.now) k x)
