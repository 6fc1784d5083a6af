use Rattle.std.proofs.Common.{◌≡◌, pos, None, List, [], get_or, set, eqb, sym, ◌∙◌, ap, arith}
use Rattle.std.proofs.lemmas.List.{get_or_default, set-get_or}
use Rattle.std.proofs.lemmas.Bool.{cond-false, ne_eqb}
use Rattle.rational_theory.specs.Rational.{ℚ, whole}
use Rattle.narrow_fraction.specs.Attempt.{attempt}
use Rattle.fraction_tableau.specs.KeptCells.{number_in}
use Rattle.fraction_tableau.proofs.Zeros.{zero_row, zero_row_kept}
use Rattle.std.proofs.lemmas.Grind.{common_steps}
use Rattle.fraction_tableau.proofs.exchanging.clear_one.Goals as goal

pub returns-then-is_zero-clause-outcome : goal.returns-then-is_zero-clause-outcome
returns-then-is_zero-clause-outcome c =
    let e = get_or_default c.args.sparse_rows.now c.args.index c.index-sparse_rows-index.result [] c.requires.inside in
    let z : number_in (get_or c.args.sparse_rows.now c.args.index []) c.args.pivot.now.place ≡ whole (pos 0) = ap (λ (t : List ℚ). number_in t c.args.pivot.now.place) (sym e)
    ∙ sym c.held-factor.ensures ∙ c.is_zero.ensures.0 c.if-is_zero.true in
    sym (ap (λ o. attempt o tt) (cond-false (eqb c.args.index c.args.pivot.now.row) None _ (ne_eqb c.args.index c.args.pivot.now.row c.if-index-pivot.false)
    ∙ zero_row _ _ _ _ _ (c.requires.narrow.narrow c.args.index) z))

pub clear-requires : goal.clear-requires
clear-requires c = grind (arith, common_steps)

pub returns-then-is_zero-clause-cleared : goal.returns-then-is_zero-clause-cleared
returns-then-is_zero-clause-cleared c =
    let e = get_or_default c.args.sparse_rows.now c.args.index c.index-sparse_rows-index.result [] c.requires.inside in
    let z : number_in (get_or c.args.sparse_rows.now c.args.index []) c.args.pivot.now.place ≡ whole (pos 0) = ap (λ (t : List ℚ). number_in t c.args.pivot.now.place) (sym e)
    ∙ sym c.held-factor.ensures ∙ c.is_zero.ensures.0 c.if-is_zero.true in
    sym
    (cond-false (eqb c.args.index c.args.pivot.now.row) c.args.sparse_rows.now _ (ne_eqb c.args.index c.args.pivot.now.row c.if-index-pivot.false)
    ∙ ap (set c.args.sparse_rows.now c.args.index)
    (sym (zero_row_kept c.args.pivot.now.place c.args.divided.now (get_or c.args.sparse_rows.now c.args.index []) c.requires.width (omega (arith, c.requires.width, c.requires.pivot.place)) z))
    ∙ set-get_or c.args.sparse_rows.now c.args.index [])

pub held-factor-requires : goal.held-factor-requires
held-factor-requires c = grind (arith, common_steps)

pub returns-in-Err : goal.returns-in-Err
returns-in-Err c = grind (arith, common_steps)

pub returns : goal.returns
returns c = grind (arith, common_steps)
