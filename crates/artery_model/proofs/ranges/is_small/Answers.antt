use Rattle.std.proofs.Common.{◌≡◌, ◌∙◌, refl, rules, unsigned_abs, FitsSigned}
use Rattle.std.specs.Int.{w128}
use Rattle.std.proofs.lemmas.Int.{to_z-of_z}
use Rattle.std.proofs.lemmas.Bool.{le-leb, lt-leb}
use Rattle.artery_model.proofs.Chains.{and_then, and_else}
use Rattle.artery_model.proofs.ranges.is_small.Goals as goal

pub returns-then-unsigned_abs-le-MOST_NUMERATOR : goal.returns-then-unsigned_abs-le-MOST_NUMERATOR
returns-then-unsigned_abs-le-MOST_NUMERATOR c =
    let fits : FitsSigned w128 c.num.result = search rules in
    let size : c.unsigned_abs.result ≡ unsigned_abs c.args.value.num = c.unsigned_abs.ensures.value ∙ rw (to_z-of_z w128 c.num.result fits, c.num.ensures.value) refl in
    let den_fits : FitsSigned w128 c.den.result = search rules in
    let den = c.unsigned_abs-then-unsigned_abs-le-MOST_NUMERATOR.ensures.value in
    and_then _ _ _ (rw size at (le-leb _ _ c.if-unsigned_abs-le-MOST_NUMERATOR.true)) (rw (den, to_z-of_z w128 c.den.result den_fits, c.den.ensures.value) refl)

pub returns-else-unsigned_abs-le-MOST_NUMERATOR : goal.returns-else-unsigned_abs-le-MOST_NUMERATOR
returns-else-unsigned_abs-le-MOST_NUMERATOR c =
    let fits : FitsSigned w128 c.num.result = search rules in
    let size : c.unsigned_abs.result ≡ unsigned_abs c.args.value.num = c.unsigned_abs.ensures.value ∙ rw (to_z-of_z w128 c.num.result fits, c.num.ensures.value) refl in
    and_else _ _ _ (rw size at (lt-leb _ _ c.if-unsigned_abs-le-MOST_NUMERATOR.false)) (rw size refl)
