use Rattle.std.proofs.Common.{Some, Ok, sym, ◌∙◌, ap, ap₂, ltb, arith}
use Rattle.rational_theory.specs.Rational.{neg_ℚ, ◌/ℚ◌}
use Rattle.rational_theory.specs.Compare.{cmp_ℚ}
use Rattle.simplex_theory.specs.BlandRule.{is_negative, less_by}
use Rattle.narrow_fraction.proofs.Attempt.{attempt_ok}
use Rattle.dual_simplex.proofs.Choices.{next_place}
use Rattle.rational_theory.proofs.Compare.{lt_true, lt_false}
use Rattle.dual_simplex.proofs.choose.better_place.Goals as goal

pub returns-in-Ok-compare_ratios : goal.returns-in-Ok-compare_ratios
returns-in-Ok-compare_ratios c =
    let o = attempt_ok _ _ _ c.in-Ok-compare_ratios.ensures in
    let b = c.in-Some.other in
    ap (λ p. Ok (Some p)) c.either.ensures
    ∙ next_place c.args.tableau.now.table c.args.row c.args.entry.now.place c.copied.result c.goal_row_cell.result c.args.best b _
    (record { entry = c.copied.ensures ∙ c.requires.cell; negative = c.if-not-is_negative.ensures ∙ ap is_negative (sym c.copied.ensures); goal = c.goal_row_cell.ensures; fits = o.0 })
    c.in-Some.is c.requires.best
    (c.is_before-before.ensures ∙ ap (λ k. less_by k (ltb c.standing.result c.standing-in-Some.result)) o.1
    ∙ ap₂ (λ a d. less_by (cmp_ℚ (c.goal_row_cell.result /ℚ neg_ℚ c.copied.result) (b.goal /ℚ neg_ℚ b.cell)) (ltb a d)) c.standing.ensures c.standing-in-Some.ensures)

pub first_place-requires : goal.first_place-requires
first_place-requires c = grind (arith, lt_true, lt_false)

pub compare_ratios-requires : goal.compare_ratios-requires
compare_ratios-requires c = grind (arith, lt_true, lt_false)
