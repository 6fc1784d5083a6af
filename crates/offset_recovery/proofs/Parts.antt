-- Numerators, and one step of the least common denominator.
use Rattle.std.proofs.Common.{◌≡◌, ℕ, suc, ◌+◌, ◌<◌, ◌^◌, List, length, Option, Some, None, Ok, Err, refl, sym, ◌∙◌, ap, ap₂, subst, arith, add-one}
use Rattle.rational_theory.specs.Gcd.{lcm}
use Rattle.std.specs.Prelude.{nat_le, ◌==◌, if◌then◌else◌, SomeIff}
use Rattle.std.proofs.lemmas.Bool.Decides.{nat_tests}
use Rattle.std.proofs.Common.{true, false}
use Rattle.rational_theory.specs.Rational.{ℚ}
use Rattle.narrow_fraction.specs.Attempt.{attempt, earlier, first_below, refusal_if}
use Rattle.narrow_fraction.proofs.Attempt.{attempt_ok, attempt_err, first_stays}
use Rattle.progression.specs.Street.{Street}
use Rattle.recovery_theory.specs.Ticks.{in_parts, common, unit_of}
use Rattle.offset_recovery.specs.declared.outcome.WideTiming.{WideTiming}
use Rattle.offset_recovery.specs.declared.outcome.WideTiming.TheVariants as wide
use Rattle.offset_recovery.specs.Tests.{product_test, unit_test}
use Rattle.offset_recovery.specs.Recovered.{unit_tests}
use Rattle.offset_recovery.specs.Numbers.{IsCommon}

-- ---- below the limit or not
small : (n : ℕ) → n < 2 ^ 80 → nat_le (2 ^ 80) n ≡ false
small n h = grind (arith, nat_tests)

great : (n : ℕ) → (n < 2 ^ 80 → ⊥) → nat_le (2 ^ 80) n ≡ true
great n h = grind (arith, nat_tests)

pub passes : (n m : ℕ) (w : WideTiming) → n < 2 ^ 80 → m ≡ n → Ok m ≡ attempt (refusal_if (nat_le (2 ^ 80) n) w) n
passes n m w h e = rw (small n h, e) refl

pub fails : (n : ℕ) (v w : WideTiming) → (n < 2 ^ 80 → ⊥) → v ≡ w → Err v ≡ attempt (refusal_if (nat_le (2 ^ 80) n) w) n
fails n v w h e = rw (great n h, e) refl

pub passed : (n : ℕ) (w : WideTiming) → refusal_if (nat_le (2 ^ 80) n) w ≡ None → n < 2 ^ 80
passed n w = elim (nat_le (2 ^ 80) n) as (λ b. b ≡ nat_le (2 ^ 80) n → refusal_if b w ≡ None → n < 2 ^ 80) [
  | true ↦ λ e h. cc
  | false ↦ λ e h. grind (arith, nat_tests)
] refl

-- ---- one more column
common_is : (a : Street) (x : List ℚ) (j c b : ℕ) → c ≡ common a x j → b ≡ (in_parts a x j).den → lcm c b ≡ common a x (suc j)
unfolding common
common_is a x j c b e f = rw (e, f) refl

pub common_first : (a : Street) (x : List ℚ) → 1 ≡ common a x 0
unfolding common
common_first a x = refl

none_common : (a : Street) (x : List ℚ) (j c : ℕ) → IsCommon a x j (Ok c) → (first_below (unit_test a x) j ≡ None) × (c ≡ common a x j)
none_common a x j c h = attempt_ok (first_below (unit_test a x) j) (common a x j) c h.value

pub first_common : (a : Street) (x : List ℚ) → IsCommon a x 0 (Ok 1)
first_common a x = record { value = ap Ok (common_first a x); small = omega arith }

pub refused_common : (a : Street) (x : List ℚ) (j : ℕ) (w : WideTiming) → IsCommon a x j (Err w) → IsCommon a x (j + 1) (Err w)
refused_common a x j w h =
    let refused = attempt_err (first_below (unit_test a x) j) (common a x j) w h.value in
    record { value = sym (ap (λ o. attempt o (common a x (j + 1))) (first_stays (unit_test a x) w j (j + 1) (omega arith) refused)); small = tt }

pub more_common : (a : Street) (x : List ℚ) (j c m : ℕ) (y : ℚ) → IsCommon a x j (Ok c) → y ≡ in_parts a x j → SomeIff (Some m) (lcm c y.den < 2 ^ 80) (lcm c y.den) → IsCommon a x (j + 1) (Ok m)
more_common a x j c m y h f s =
    let (none, value) = none_common a x j c h in
    let n : lcm c y.den ≡ common a x (suc j) = common_is a x j c y.den value (ap (λ (z : ℚ). z.den) f) in
    let less : common a x (suc j) < 2 ^ 80 = subst (λ k. k < 2 ^ 80) n s.0 in
    let is : m ≡ common a x (suc j) = s.1 ∙ n in
    let w = wide.Unit (common a x j) (in_parts a x j).den in
    let here = attempt_ok (unit_test a x j) (common a x (suc j)) m (passes (common a x (suc j)) m w less is) in
    let all : first_below (unit_test a x) (suc j) ≡ None = ap₂ earlier none here.0 in
    let at_next : IsCommon a x (suc j) (Ok m) = record { value = rw (all, is) refl; small = subst (λ k. k < 2 ^ 80) (sym is) less } in
    subst (λ k. IsCommon a x k (Ok m)) (sym (add-one j)) at_next

pub great_common : (a : Street) (x : List ℚ) (j c : ℕ) (y : ℚ) → IsCommon a x j (Ok c) → y ≡ in_parts a x j → (lcm c y.den < 2 ^ 80 → ⊥) → IsCommon a x (j + 1) (Err (wide.Unit c y.den))
great_common a x j c y h f s =
    let (none, value) = none_common a x j c h in
    let den : y.den ≡ (in_parts a x j).den = ap (λ (z : ℚ). z.den) f in
    let n : lcm c y.den ≡ common a x (suc j) = common_is a x j c y.den value den in
    let w = wide.Unit (common a x j) (in_parts a x j).den in
    let v = wide.Unit c y.den in
    let here = attempt_err (unit_test a x j) (common a x (suc j)) v (fails (common a x (suc j)) v w (λ l. s (subst (λ k. k < 2 ^ 80) (sym n) l)) (rw (value, den) refl)) in
    let all : first_below (unit_test a x) (suc j) ≡ Some v = ap₂ earlier none here in
    let at_next : IsCommon a x (suc j) (Err v) = record { value = rw all refl; small = tt } in
    subst (λ k. IsCommon a x k (Err v)) (sym (add-one j)) at_next

-- ---- the unit
pub unit_is : (a : Street) (x : List ℚ) (d n : ℕ) → d ≡ common a x n → n ≡ length x → (if d == 1 then 2 else d) ≡ unit_of a x
unfolding unit_of
unit_is a x d n e f = rw (e, f) refl

pub two_small : (d : ℕ) → d < 2 ^ 80 → (if d == 1 then 2 else d) < 2 ^ 80
two_small d h = elim (d == 1) as (λ b. (if b then 2 else d) < 2 ^ 80) [ true ↦ omega arith | false ↦ h ]

pub unit_answered : {A : Type 0} (test : Option WideTiming) (n m : A) → test ≡ None → n ≡ m → Ok n ≡ attempt test m
unit_answered test n m e f = rw (e, f) refl

-- where all products fit, the unit is told, or the first denominator that is too great
pub unit_found : (a : Street) (x : List ℚ) (n c d : ℕ) → first_below (product_test a x) n ≡ None → IsCommon a x n (Ok c) → n ≡ length x → d ≡ (if c == 1 then 2 else c)
    → (Ok d ≡ attempt (unit_tests a x) (unit_of a x)) × (unit_of a x < 2 ^ 80)
unit_found a x n c d products h e f =
    let (none, value) = none_common a x n c h in
    let is = unit_is a x c n value e in
    let tests : unit_tests a x ≡ None = subst (λ m. earlier (first_below (product_test a x) m) (first_below (unit_test a x) m) ≡ None) e (ap₂ earlier products none) in
    (unit_answered (unit_tests a x) d (unit_of a x) tests (f ∙ is), subst (λ m. m < 2 ^ 80) is (two_small c h.small))

pub unit_refused : (a : Street) (x : List ℚ) (n : ℕ) (w : WideTiming) → first_below (product_test a x) n ≡ None → IsCommon a x n (Err w) → n ≡ length x → Err w ≡ attempt (unit_tests a x) (unit_of a x)
unit_refused a x n w products h e =
    let refused = attempt_err (first_below (unit_test a x) n) (common a x n) w h.value in
    let tests : unit_tests a x ≡ Some w = subst (λ m. earlier (first_below (product_test a x) m) (first_below (unit_test a x) m) ≡ Some w) e (ap₂ earlier products refused) in
    rw tests refl
