use Rattle.std.proofs.Common.{◌≡◌, Bool, true, false, IsTrue, refl, sym, pos}
use Rattle.rational_theory.specs.Rational.{whole}
use Rattle.rational_theory.proofs.Compare.{eq_says}
use Rattle.entry_theory.specs.Entry.{is_zero}
use Rattle.program_builder.proofs.choosing.is_zero.Goals as goal

same_test : (b c : Bool) → (IsTrue b → IsTrue c) → (IsTrue c → IsTrue b) → b ≡ c
same_test true true f g = refl
same_test true false f g = sym (f refl)
same_test false true f g = g refl
same_test false false f g = refl

pub returns : goal.returns
returns c =
    let says = eq_says c.args.number.now (whole (pos 0)) (is_zero c.args.number.now) refl in
    same_test _ _ (λ t. says.1 (c.is_zero.ensures.0 t)) (λ t. c.is_zero.ensures.1 (says.0 t))
