use Rattle.std.proofs.Common.{◌≡◌, Ok, sym, ◌∙◌, ap, ap₂}
use Rattle.rational_theory.specs.Rational.{neg_ℚ, ◌/ℚ◌}
use Rattle.simplex_theory.proofs.Signs.{negative_nonzero}
use Rattle.narrow_fraction.specs.Attempt.{attempt}
use Rattle.narrow_fraction.specs.declared.wide.Op.TheVariants.{Div}
use Rattle.fraction_tableau.specs.Refusals.{refused}
use Rattle.fraction_tableau.proofs.Refusals.{refused_none, refused_some}
use Rattle.dual_simplex.proofs.Choices.{neg_not_zero}
use Rattle.dual_simplex.proofs.choose.ratio_of.Goals as goal

pub over-requires : goal.over-requires
over-requires c = neg_not_zero c.args.chosen.now.cell c.neg.result (negative_nonzero c.args.chosen.now.cell c.requires) (c.neg.ensures ∙ ap neg_ℚ c.fraction-2.ensures.value)

pub returns-in-Ok : goal.returns-in-Ok
returns-in-Ok c =
    let x = c.args.chosen.now in
    let g = c.fraction.ensures.value in
    let n : c.neg.result ≡ neg_ℚ x.cell = c.neg.ensures ∙ ap neg_ℚ c.fraction-2.ensures.value in
    let f = ap₂ (λ u v. refused Div u v c.args.row x.place) (sym g) (sym n) ∙ refused_none _ _ _ c.args.row x.place c.in-Ok.ensures.value.0 in
    ap Ok (c.in-Ok.ensures.value.1 ∙ ap₂ (λ u v. u /ℚ v) g n) ∙ sym (ap (λ o. attempt o (x.goal /ℚ neg_ℚ x.cell)) f)

pub returns-in-Err : goal.returns-in-Err
returns-in-Err c =
    let x = c.args.chosen.now in
    let g = c.fraction.ensures.value in
    let n : c.neg.result ≡ neg_ℚ x.cell = c.neg.ensures ∙ ap neg_ℚ c.fraction-2.ensures.value in
    let f = ap₂ (λ u v. refused Div u v c.args.row x.place) (sym g) (sym n) ∙ refused_some _ _ _ c.args.row x.place _ c.in-Err.ensures.wide in
    sym (ap (λ o. attempt o (x.goal /ℚ neg_ℚ x.cell)) f)
