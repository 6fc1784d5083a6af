use Rattle.std.proofs.Common.{◌≡◌, ◌∙◌, ap₂, subst}
use Rattle.rational_theory.specs.Rational.{ℚ, over, neg_ℚ, ◌*ℚ◌}
use Rattle.narrow_fraction.specs.Fraction.{FitsFrac}
use Rattle.narrow_fraction.specs.Past128.{SumFits}
use Rattle.narrow_fraction.proofs.LessProducts.{parts_small}
use Rattle.narrow_fraction.proofs.Small.{product_fits, difference_fits}
use Rattle.narrow_fraction.proofs.quotient.Quotient.less_times.Goals as goal

pub returns-clause-product : goal.returns-clause-product
returns-clause-product c =
    let p = c.in_ok-factor.ensures in
    let q = c.in_ok-times.ensures in
    subst FitsFrac (ap₂ (λ x y. x *ℚ y) p.value (q.value ∙ c.of_fraction.ensures)) (product_fits _ _ (parts_small _ p.small) (parts_small _ q.small))

pub returns-clause-difference : goal.returns-clause-difference
returns-clause-difference c =
    let p = c.in_ok-factor.ensures in
    let q = c.in_ok-times.ensures in
    let r = c.in_ok-whole.ensures in
    let w = c.in_ok-whole.whole in
    let e : over w.top w.bottom ≡ c.args.from = r.value ∙ c.of_fraction-2.ensures in
    let f = ap₂ (λ x y. x *ℚ y) p.value (q.value ∙ c.of_fraction.ensures) in
    subst (λ (t : ℚ). SumFits t (neg_ℚ (c.args.self.now *ℚ c.args.other))) e
    (subst (λ (t : ℚ). SumFits (over w.top w.bottom) (neg_ℚ t)) f (difference_fits _ _ _ (parts_small w r.small) (parts_small _ p.small) (parts_small _ q.small)))
