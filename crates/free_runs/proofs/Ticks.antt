-- Quotients, rounded down and up, and limits in seconds as ticks.
use Rattle.std.proofs.Common.{◌≡◌, ℕ, suc, pos, ◌*ℤ◌, ◌+◌, ◌-◌, ◌*◌, ◌/◌, ◌%◌, ◌<◌, ◌≤◌, arith, inl, inr}
use Rattle.std.specs.Prelude.{◌↔◌}
use Rattle.std.proofs.Math.Nat.{mul-le-mul_right}
use Rattle.std.proofs.lemmas.Nat.{div-add-mod'}
use Rattle.std.proofs.lemmas.Bool.{cases_lt}
use Rattle.std.proofs.lemmas.Int.{ints}
use Rattle.rational_theory.specs.Rational.{ℚ, ◌*ℚ◌, ◌≤ℚ◌}
use Rattle.progression.specs.Speeds.{number}
use Rattle.time_space.proofs.GridLimits.{least_is, most_is}

pub most_quotient : (top bottom : ℕ) → 0 < bottom → (n : ℕ) → (bottom * n ≤ top) ↔ (n ≤ top / bottom)
most_quotient top bottom h n =
    let e = div-add-mod' top bottom in
    let l : top % bottom < bottom = omega arith in (
      (λ k. elim (cases_lt (top / bottom) n) [
        | inr le ↦ le
        | inl lt ↦ let m : suc (top / bottom) * bottom ≤ n * bottom = mul-le-mul_right bottom lt in absurd (omega (arith, e, m, l, k))
      ]),
      (λ k. let m : n * bottom ≤ top / bottom * bottom = mul-le-mul_right bottom k in omega (arith, e, m)),
    )

pub least_quotient : (top bottom : ℕ) → 0 < bottom → (n : ℕ) → (top ≤ bottom * n) ↔ ((top + (bottom - 1)) / bottom ≤ n)
least_quotient top bottom h n =
    let up = top + (bottom - 1) in
    let e = div-add-mod' up bottom in
    let l : up % bottom < bottom = omega arith in (
      (λ k. elim (cases_lt n (up / bottom)) [
        | inr le ↦ le
        | inl lt ↦ let m : suc n * bottom ≤ up / bottom * bottom = mul-le-mul_right bottom lt in absurd (omega (arith, e, m, k))
      ]),
      (λ k. let m : up / bottom * bottom ≤ n * bottom = mul-le-mul_right bottom k in omega (arith, e, m, l)),
    )

pub least_seconds : (x : ℚ) (g top bottom r : ℕ) → pos top ≡ x.num *ℤ pos g → bottom ≡ x.den → ((n : ℕ) → (top ≤ bottom * n) ↔ (r ≤ n)) → (n : ℕ) → ((x *ℚ number g) ≤ℚ number n) ↔ (r ≤ n)
least_seconds x g top bottom r e f q n = (
  (λ h. (q n).0 (let k = (least_is x g n).1 h in rw f (omega (arith, ints, e, k)))),
  (λ h. (least_is x g n).0 (let k = rw f at ((q n).1 h) in omega (arith, ints, e, k))),
)

pub most_seconds : (x : ℚ) (g top bottom r : ℕ) → pos top ≡ x.num *ℤ pos g → bottom ≡ x.den → ((n : ℕ) → (bottom * n ≤ top) ↔ (n ≤ r)) → (n : ℕ) → (number n ≤ℚ (x *ℚ number g)) ↔ (n ≤ r)
most_seconds x g top bottom r e f q n = (
  (λ h. (q n).0 (let k = (most_is x g n).1 h in rw f (omega (arith, ints, e, k)))),
  (λ h. (most_is x g n).0 (let k = rw f at ((q n).1 h) in omega (arith, ints, e, k))),
)
