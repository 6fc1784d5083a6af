use Rattle.std.proofs.Common.{◌≡◌, Bool, true, false, IsTrue, refl, sym, pos}
use Rattle.std.specs.Ordering.{is_lt}
use Rattle.rational_theory.specs.Rational.{whole}
use Rattle.rational_theory.specs.Compare.{cmp_ℚ}
use Rattle.rational_theory.proofs.Compare.{lt_says}
use Rattle.dual_simplex.proofs.choose.is_negative.Goals as goal

same_test : (b c : Bool) → (IsTrue b → IsTrue c) → (IsTrue c → IsTrue b) → b ≡ c
same_test true true f g = refl
same_test true false f g = sym (f refl)
same_test false true f g = g refl
same_test false false f g = refl

pub returns : goal.returns
returns c =
    let says = lt_says c.args.number.now (whole (pos 0)) (is_lt (cmp_ℚ c.args.number.now (whole (pos 0)))) refl in
    same_test _ _ (λ t. says.1 (c.is_negative.ensures.0 t)) (λ t. c.is_negative.ensures.1 (says.0 t))
