use Rattle.std.proofs.Common.{◌≡◌, ◌*◌, ◌≤◌, ◌∙◌, ap, subst, sym, unsigned_abs, pos}
use Rattle.rational_theory.specs.Rational.{ℚ, ◌/ℚ◌}
use Rattle.narrow_fraction.specs.Fraction.{FitsFrac}
use Rattle.artery_model.specs.Valid.{IsQuantity}
use Rattle.progression.specs.Speeds.{seconds}
use Rattle.typed_plan.proofs.AtSpeed.{one_quantity, not_zero, at_one, seconds_fit, seconds_short}
use Rattle.typed_plan.proofs.seconds.at_speed.Goals as goal

pub seconds-requires-clause-speed : goal.seconds-requires-clause-speed
seconds-requires-clause-speed c = subst (λ q. IsQuantity (pos 1) (pos 300) q) (sym c.whole.ensures) one_quantity

pub over-requires : goal.over-requires
over-requires c = not_zero c.args.speed c.requires.speed

pub unreachable-requires : goal.unreachable-requires
unreachable-requires c =
    let is : c.seconds.result /ℚ c.args.speed ≡ seconds c.args.units c.args.distance c.args.speed =
    ap (λ x. x /ℚ c.args.speed) (c.seconds.ensures.value ∙ ap (seconds c.args.units c.args.distance) c.whole.ensures) ∙ at_one c.args.units c.args.distance c.args.speed c.requires.speed in
    c.in-Err.ensures.wide.1 (subst FitsFrac (sym is) (seconds_fit c.args.units c.args.distance c.args.speed c.requires.most c.requires.speed))

pub returns-clause-value : goal.returns-clause-value
returns-clause-value c =
    c.in-Ok.ensures.value.1
    ∙ ap (λ x. x /ℚ c.args.speed) (c.seconds.ensures.value ∙ ap (seconds c.args.units c.args.distance) c.whole.ensures) ∙ at_one c.args.units c.args.distance c.args.speed c.requires.speed

pub returns-clause-num : goal.returns-clause-num
returns-clause-num c =
    let is : c.in-Ok.taken ≡ seconds c.args.units c.args.distance c.args.speed =
    c.in-Ok.ensures.value.1
    ∙ ap (λ x. x /ℚ c.args.speed) (c.seconds.ensures.value ∙ ap (seconds c.args.units c.args.distance) c.whole.ensures) ∙ at_one c.args.units c.args.distance c.args.speed c.requires.speed in
    subst (λ (x : ℚ). unsigned_abs x.num ≤ 540000000 * x.den) (sym is) (seconds_short c.args.units c.args.distance c.args.speed c.requires.most c.requires.speed)
