use Rattle.std.proofs.Common.{length, ◌+◌, ◌<◌, cond, eqb, pos, sym, ◌∙◌, ap, subst, arith, lt-ltb, le-ltb}
use Rattle.std.proofs.lemmas.Int.{to_z-of_z}
use Rattle.rational_theory.specs.Rational.{whole, neg_ℚ, ◌+ℚ◌, ◌*ℚ◌}
use Rattle.simplex_theory.specs.Lines.{cleared}
use Rattle.fraction_tableau.specs.KeptCells.{number_in, kept_below}
use Rattle.fraction_tableau.specs.Scales.{numerator, IsOver, factor_of}
use Rattle.narrow_fraction.proofs.Fitting.{fits_i64}
use Rattle.fraction_tableau.proofs.KeptCells.{IsNext, next_in, step_count, same_width}
use Rattle.fraction_tableau.specs.Marks.{AreMarked}
use Rattle.fraction_tableau.proofs.Marking.{marked_where}
use Rattle.fraction_tableau.proofs.Scales.{quiet_is, cleared_number, joined_next}
use Rattle.std.proofs.lemmas.Grind.{common_steps}
use Rattle.fraction_tableau.proofs.joining.join_next.Goals as goal
use Rattle.fraction_tableau.proofs.joining.join_next.Goals.{After-index-others-index}

-- the next cell of the divided row that isn't 0
next : (c : After-index-others-index) → IsNext (number_in c.args.divided.now) c.args.done.below (length c.args.cells.now) c.index-others-index.result
next c =
    let f = number_in c.args.divided.now in
    let s = c.kept-others.ensures ∙ ap (kept_below f) (same_width _ _ _ c.requires.width c.requires.widths) in
    next_in f c.args.done.below (length c.args.cells.now) c.args.index c.kept-others.result.now c.index-others-index.result s c.index-others-index.is
    c.requires.joined.inside c.requires.index (subst (λ t. c.args.index < length t) (sym s) c.requires.inside)

pub keep_before-done-requires-clause-place : goal.keep_before-done-requires-clause-place
keep_before-done-requires-clause-place c =
    let x = next (goal.at.keep_before-done-requires-clause-place c).After-index-others-index in
    let y = x.inside in
    omega arith

pub keep_before-done-requires-clause-order : goal.keep_before-done-requires-clause-order
keep_before-done-requires-clause-order c =
    let x = next (goal.at.keep_before-done-requires-clause-order c).After-index-others-index in
    let y = x.inside in
    x.after

pub take_numerator-own-requires-clause-place : goal.take_numerator-own-requires-clause-place
take_numerator-own-requires-clause-place c =
    let x = next (goal.at.take_numerator-own-requires-clause-place c).After-index-others-index in
    let y = x.inside in
    omega (arith, c.requires.width)

pub take_numerator-own-requires-clause-same : goal.take_numerator-own-requires-clause-same
take_numerator-own-requires-clause-same c =
    (c.requires.row.numbers c.index-others-index.result.place).same

pub take_numerator-own-requires-clause-size : goal.take_numerator-own-requires-clause-size
take_numerator-own-requires-clause-size c =
    let o = c.requires.row.numbers c.index-others-index.result.place in
    omega (arith, o.size, c.requires.row.short)

pub joined-cell-requires-clause-own : goal.joined-cell-requires-clause-own
joined-cell-requires-clause-own c =
    let o = c.requires.row.numbers c.index-others-index.result.place in
    let f = fits_i64 (numerator c.args.joining.now.row.denominator (number_in c.args.row.now c.index-others-index.result.place)) (omega (arith, o.size, c.requires.row.short)) in
    simp (c.take_numerator-own.ensures.numerator, f, to_z-of_z) o.size

pub joined-cell-requires-clause-divided : goal.joined-cell-requires-clause-divided
joined-cell-requires-clause-divided c =
    let j = c.args.joining.now in
    let k = c.index-others-index.result in
    let x = next (goal.at.joined-cell-requires-clause-divided c).After-index-others-index in
    let y = x.inside in
    subst (IsOver j.divided.denominator j.divided.most) x.is (c.requires.divided.numbers k.place)

pub put-made-requires : goal.put-made-requires
put-made-requires c =
    let x = next (goal.at.put-made-requires c).After-index-others-index in
    let y = x.inside in
    omega (arith, c.keep_before-done.auto.cells, c.keep_before-done.ensures.made)

pub overflow_add-result : goal.overflow_add-result
overflow_add-result c =
    let x = next (goal.at.overflow_add-result c).After-index-others-index in
    let y = x.inside in
    omega (arith, c.requires.width, c.requires.short)

pub returns-clause-joined : goal.returns-clause-joined
returns-clause-joined c =
    let e = c.args.divided.now in
    let d = c.args.row.now in
    let j = c.args.joining.now in
    let k = c.index-others-index.result in
    let x = next (goal.at.returns-clause-joined c).After-index-others-index in
    let y = x.inside in
    let t = cleared j.place e d in
    let n = c.keep_before-done.ensures.cells (number_in t) (λ m a b. quiet_is j.place m e d c.requires.own (x.zeros m a b)) c.requires.joined.joined in
    let o = c.requires.row.numbers k.place in
    let f = fits_i64 (numerator j.row.denominator (number_in d k.place)) (omega (arith, o.size, c.requires.row.short)) in
    let v = (simp (c.take_numerator-own.ensures.numerator, f, to_z-of_z) at c.joined-cell.ensures) ∙ ap (λ u. cond (eqb k.place j.place) (whole (pos 0)) u +ℚ neg_ℚ (factor_of j *ℚ k.cell)) o.same
    ∙ ap (λ u. cond (eqb k.place j.place) (whole (pos 0)) (number_in d k.place) +ℚ neg_ℚ (u *ℚ k.cell)) c.requires.factor
    ∙ ap (λ u. cond (eqb k.place j.place) (whole (pos 0)) (number_in d k.place) +ℚ neg_ℚ (number_in d j.place *ℚ u)) (sym x.is)
    ∙ cleared_number j.place k.place e d (omega (arith, c.requires.width, c.requires.place)) in
    joined_next t d c.keep_before-done.new.cells c.put-made.new.cells c.take_numerator-own.result.taken c.keep_before-done.result.made c.put-made.result
    c.with_mark_where.result (record { place = k.place; cell = c.joined-cell.result }) c.put-made.auto.cells (omega (arith, c.keep_before-done.auto.cells))
    c.take_numerator-own.ensures.taken c.keep_before-done.ensures.made n v c.put-made.ensures.count c.put-made.ensures.cells
    (subst (AreMarked c.with_mark_where.result) (sym c.put-made.ensures.cells) (marked_where _ _ _ _ _ _ _ (c.keep_before-done.ensures.marked c.requires.joined.marked)
    c.put-made.ensures.count (λ l. c.with_mark_where.ensures.set (lt-ltb _ _ l)) c.with_mark_where.ensures.others (λ l. c.with_mark_where.ensures.same (le-ltb _ _ l))))

pub returns-clause-index : goal.returns-clause-index
returns-clause-index c =
    let e = c.args.divided.now in
    let k = c.index-others-index.result in
    let x = next (goal.at.returns-clause-index c).After-index-others-index in
    let y = x.inside in
    ap (λ n. n + 1) c.requires.index ∙ sym (step_count (number_in e) c.args.done.below (length c.args.cells.now) k x)

pub keep_before-done-requires-clause-rescaling : goal.keep_before-done-requires-clause-rescaling
keep_before-done-requires-clause-rescaling c = grind (arith, common_steps)
