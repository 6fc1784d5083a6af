-- A whole cycle is at least a second and at most an hour.
use Rattle.std.proofs.Common.{ℕ, zero, suc, pos, ◌*ℤ◌, ◌≤ℤ◌, ◌*◌, ◌≤◌, arith}
use Rattle.std.proofs.lemmas.Int.{ints}
use Rattle.std.proofs.Math.Nat.{le_of_mul-le-mul_right}
use Rattle.rational_theory.specs.Rational.{ℚ, whole, ◌≤ℚ◌}
use Rattle.progression.specs.Street.{Street}
use Rattle.progression.specs.Speeds.{number}
use Rattle.artery_model.specs.Valid.{IsValid}
use Rattle.second_plan.specs.Seconds.{IsWholeCycle}

least_out : (x : ℚ) (k : ℕ) → x ≤ℚ number k → x.num ≤ℤ (pos k *ℤ pos x.den)
unfolding whole
least_out x k h = let c = h.cross in omega (arith, ints, c)

most_out : (x : ℚ) (k : ℕ) → number k ≤ℚ x → (pos k *ℤ pos x.den) ≤ℤ x.num
unfolding whole
most_out x k h = let c = h.cross in omega (arith, ints, c)

some_by : (x : ℚ) (k : ℕ) → (pos 1 *ℤ pos x.den) ≤ℤ x.num → x.num ≤ℤ (pos k *ℤ pos x.den) → 1 ≤ k
some_by x zero l h = let p = x.positive in absurd (omega (arith, ints, l, h, p))
some_by x (suc k) l h = omega arith

pub cycle_some : (a : Street) (k : ℕ) → IsValid a → IsWholeCycle a k → 1 ≤ k
cycle_some a k valid w = some_by a.head.cycle.least k valid.cycle.least.least (least_out a.head.cycle.least k w.least)

pub cycle_small : (a : Street) (k : ℕ) → IsValid a → IsWholeCycle a k → k ≤ 3600
cycle_small a k valid w =
    let x = a.head.cycle.most in
    let h = most_out x k w.most in
    let m = valid.cycle.most.most in
    let c : k * x.den ≤ 3600 * x.den = omega (arith, ints, h, m) in le_of_mul-le-mul_right c x.positive
