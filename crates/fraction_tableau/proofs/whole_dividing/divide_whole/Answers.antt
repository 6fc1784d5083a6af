use Rattle.std.proofs.Common.{◌≡◌, length, cond, eqb, pos, refl, sym, ◌∙◌, ap, subst, arith}
use Rattle.rational_theory.specs.Rational.{whole, inverse_ℚ, ◌*ℚ◌}
use Rattle.narrow_fraction.specs.Fraction.{FitsFrac}
use Rattle.simplex_theory.specs.Lines.{divided}
use Rattle.fraction_tableau.specs.KeptCells.{number_in, kept_below}
use Rattle.fraction_tableau.specs.Scales.{IsOver}
use Rattle.fraction_tableau.proofs.KeptCells.{IsNext, next_in, same_width, kept_same}
use Rattle.fraction_tableau.proofs.Merges.{dividing_next, dividing_end, divided_number}
use Rattle.fraction_tableau.proofs.Divisions.{pivot_some, whole_passes, whole_fits}
use Rattle.fraction_tableau.proofs.whole_dividing.divide_whole.Goals as goal
use Rattle.fraction_tableau.proofs.whole_dividing.divide_whole.Goals.{After-index-kept-index}

-- the next cell of the row that isn't 0
next : (c : After-index-kept-index) → IsNext (number_in c.args.row.now) c.loop-index.invariant.at (length c.args.cells.now) c.index-kept-index.result
next c =
    let f = number_in c.args.row.now in
    let t = c.loop-index.invariant in
    let e = c.kept-kept.ensures ∙ ap (kept_below f) (same_width _ _ _ c.requires.width refl) in
    next_in f t.at (length c.args.cells.now) c.loop-index.index c.kept-kept.result.now c.index-kept-index.result e c.index-kept-index.is t.inside t.count (omega arith)

pub divided-cell-requires-clause-over : goal.divided-cell-requires-clause-over
divided-cell-requires-clause-over c =
    let s = c.args.dividing.now in
    let x = next (goal.at.divided-cell-requires-clause-over c).After-index-kept-index in
    subst (IsOver s.row.denominator s.row.most) x.is (c.requires.row.numbers c.index-kept-index.result.place)

pub loop-index-preserved : goal.loop-index-preserved
loop-index-preserved c =
    let d = c.args.row.now in
    let s = c.args.dividing.now in
    let v = inverse_ℚ (number_in d s.place) in
    let n : number_in d s.place ≡ whole (pos 0) → ⊥ = λ e. pivot_some s c.requires.dividing (c.requires.pivot ∙ e) in
    let k = c.index-kept-index.result in
    let x = next (goal.at.loop-index-preserved c).After-index-kept-index in
    let o = subst (IsOver s.row.denominator s.row.most) x.is (c.requires.row.numbers k.place) in
    let y = c.divided-cell.ensures ∙ ap (λ p. cond (eqb k.place s.place) (inverse_ℚ p) (k.cell *ℚ inverse_ℚ p)) c.requires.pivot ∙ ap (λ u. cond (eqb k.place s.place) v (u *ℚ v)) (sym x.is) in
    dividing_next 0 s.place v d (length c.args.cells.now) _ c.put-made.new.cells c.loop-index.index c.loop-index.made c.put-made.result k c.divided-cell.result
    n c.loop-index.invariant x c.put-made.auto.cells y c.put-made.ensures.count c.put-made.ensures.cells
    (whole_passes 0 s.place s d k.place c.requires.row n) (subst FitsFrac (sym c.divided-cell.ensures) (whole_fits s d k.place (eqb k.place s.place) k.cell c.requires.dividing o))

pub returns-clause-cells : goal.returns-clause-cells
returns-clause-cells c =
    let d = c.args.row.now in
    let s = c.args.dividing.now in
    let v = inverse_ℚ (number_in d s.place) in
    let w = length c.args.cells.now in
    let q = same_width _ _ _ c.requires.width refl in
    let t = c.loop-index.invariant in
    let n : number_in d s.place ≡ whole (pos 0) → ⊥ = λ e. pivot_some s c.requires.dividing (c.requires.pivot ∙ e) in
    let a = ap length (c.kept-kept.ensures ∙ ap (kept_below (number_in d)) q) in
    let u = t.count in
    let r = dividing_end 0 s.place v d w c.loop-index.cells c.loop-index.index c.loop-index.made n t (omega arith) in
    r.cells ∙ kept_same _ (number_in (divided s.place d)) w (λ m h. divided_number s.place v d m (omega (arith, c.requires.width, c.requires.place)) refl)
