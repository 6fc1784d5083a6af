-- Lemmas on the definitions of `Past128`.
use Rattle.std.proofs.Common.{◌≡◌, Bool, true, false, Some, None, Result, Ok, Err, OkIff, IfErr, not, refl, sym, ◌∙◌, ap}
use Rattle.std.proofs.lemmas.Bool.{ltb-true, lt-ltb, and_parts, and_from}
use Rattle.rational_theory.specs.Rational.{ℚ, neg_ℚ, ◌*ℚ◌, ◌/ℚ◌}
use Rattle.narrow_fraction.specs.Fraction.{FitsFrac}
use Rattle.narrow_fraction.specs.Attempt.{attempt, refusal_if}
use Rattle.narrow_fraction.specs.declared.wide.Op.{Op}
use Rattle.narrow_fraction.specs.declared.wide.Op.TheVariants.{Add, Sub, Mul, Div}
use Rattle.narrow_fraction.specs.declared.wide.Wide.{Wide}
use Rattle.narrow_fraction.specs.Past128.{SumFits, Fits128, Past128, fits, steps_fit, is_past, past_wide}

fits_from : (x : ℚ) → FitsFrac x → fits x ≡ true
unfolding fits
fits_from x h = and_from _ _ (lt-ltb _ _ h.num_fits) (lt-ltb _ _ h.den_fits)

fits_to : (x : ℚ) → fits x ≡ true → FitsFrac x
unfolding fits
fits_to x e = let p = and_parts _ _ e in record { num_fits = ltb-true _ _ p.0; den_fits = ltb-true _ _ p.1 }

steps_from : (x y : ℚ) → SumFits x y → steps_fit x y ≡ true
unfolding steps_fit
steps_from x y h = and_from _ _ (and_from _ _ (lt-ltb _ _ h.left) (lt-ltb _ _ h.right)) (and_from _ _ (lt-ltb _ _ h.top) (lt-ltb _ _ h.bottom))

steps_to : (x y : ℚ) → steps_fit x y ≡ true → SumFits x y
unfolding steps_fit
steps_to x y e =
    let p = and_parts _ _ e in
    let q = and_parts _ _ p.0 in
    let r = and_parts _ _ p.1 in
    record { left = ltb-true _ _ q.0; right = ltb-true _ _ q.1; top = ltb-true _ _ r.0; bottom = ltb-true _ _ r.1 }

not_from : (b : Bool) → b ≡ true → not b ≡ false
not_from true e = refl
not_from false e = sym e

not_to : (b : Bool) → (b ≡ true → ⊥) → not b ≡ true
not_to true n = absurd (n refl)
not_to false n = refl

not_out : (b : Bool) → not b ≡ false → b ≡ true
not_out true e = refl
not_out false e = sym e

-- what fits is not past
pub within : (op : Op) (x y : ℚ) → Fits128 op x y → is_past op x y ≡ false
unfolding is_past
within Add x y h = not_from _ (steps_from x y h)
within Sub x y h = not_from _ (steps_from x (neg_ℚ y) h)
within Mul x y h = not_from _ (fits_from (x *ℚ y) h)
within Div x y h = not_from _ (fits_from (x /ℚ y) h)

-- what does not fit is
pub past : (op : Op) (x y : ℚ) → Past128 op x y → is_past op x y ≡ true
unfolding is_past
past Add x y n = not_to _ (λ e. n (steps_to x y e))
past Sub x y n = not_to _ (λ e. n (steps_to x (neg_ℚ y) e))
past Mul x y n = not_to _ (λ e. n (fits_to (x *ℚ y) e))
past Div x y n = not_to _ (λ e. n (fits_to (x /ℚ y) e))

-- and back
pub fits_within : (op : Op) (x y : ℚ) → is_past op x y ≡ false → Fits128 op x y
unfolding is_past
fits_within Add x y e = steps_to x y (not_out _ e)
fits_within Sub x y e = steps_to x (neg_ℚ y) (not_out _ e)
fits_within Mul x y e = fits_to (x *ℚ y) (not_out _ e)
fits_within Div x y e = fits_to (x /ℚ y) (not_out _ e)

-- the clauses of an operation as one equation
pub answered : (op : Op) (x y v : ℚ) (r : Result ℚ Wide) → OkIff r (Fits128 op x y) v → IfErr r (λ w. (w ≡ record { op = op; left = x; right = y }) × Past128 op x y) → r ≡ attempt (past_wide op x y) v
unfolding past_wide
answered op x y v (Ok z) h k = ap Ok h.1 ∙ ap (λ b. attempt (refusal_if b (record { op = op; left = x; right = y })) v) (sym (within op x y h.0))
answered op x y v (Err w) h k = ap Err k.0 ∙ ap (λ b. attempt (refusal_if b (record { op = op; left = x; right = y })) v) (sym (past op x y k.1))

-- the refusal, from either clause
pub past_none : (op : Op) (x y : ℚ) → Fits128 op x y → past_wide op x y ≡ None
unfolding past_wide
past_none op x y h = ap (λ b. refusal_if b (record { op = op; left = x; right = y })) (within op x y h)

pub past_some : (op : Op) (x y : ℚ) → Past128 op x y → past_wide op x y ≡ Some (record { op = op; left = x; right = y })
unfolding past_wide
past_some op x y n = ap (λ b. refusal_if b (record { op = op; left = x; right = y })) (past op x y n)
