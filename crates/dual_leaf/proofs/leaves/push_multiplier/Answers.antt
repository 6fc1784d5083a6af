use Rattle.std.proofs.Common.{◌≡◌, Bool, true, false, true≢false, cond, ◌++◌, ◌∷◌, [], pos, refl, sym, ◌∙◌, ap, append-nil}
use Rattle.std.specs.Ordering.{eq_by_cmp}
use Rattle.rational_theory.specs.Rational.{ℚ, whole}
use Rattle.rational_theory.specs.Compare.{cmp_ℚ}
use Rattle.rational_theory.proofs.Compare.{eq_says}
use Rattle.dual_leaf.proofs.leaves.push_multiplier.Goals as goal

-- both tests say whether the multiplier is 0
is_true : (x : ℚ) → x ≡ whole (pos 0) → eq_by_cmp cmp_ℚ x (whole (pos 0)) ≡ true
is_true x h = (eq_says x (whole (pos 0)) (eq_by_cmp cmp_ℚ x (whole (pos 0))) refl).1 h

is_false : (x : ℚ) (b : Bool) → b ≡ eq_by_cmp cmp_ℚ x (whole (pos 0)) → (x ≡ whole (pos 0) → ⊥) → b ≡ false
is_false x true e n = absurd (n ((eq_says x (whole (pos 0)) true e).0 refl))
is_false x false e n = refl

pub returns-then-is_zero : goal.returns-then-is_zero
returns-then-is_zero c =
    let e = is_true c.args.by (c.is_zero.ensures.0 c.if-is_zero.true) in
    sym (ap (λ b. c.args.list.now.items ++ cond b [] (record { row = c.args.name; by = c.args.by } ∷ [])) e ∙ append-nil c.args.list.now.items)

pub returns : goal.returns
returns c =
    let n : c.args.by ≡ whole (pos 0) → ⊥ = λ h. true≢false (sym (c.is_zero.ensures.1 h) ∙ c.if-is_zero.false) in
    let e = is_false c.args.by (eq_by_cmp cmp_ℚ c.args.by (whole (pos 0))) refl n in
    c.in_ok-push.ensures.items ∙ sym (ap (λ b. c.args.list.now.items ++ cond b [] (record { row = c.args.name; by = c.args.by } ∷ [])) e)
