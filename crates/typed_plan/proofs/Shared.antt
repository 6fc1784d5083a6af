-- The least common multiple of the denominators of a plan's times.
use Rattle.std.proofs.Common.{◌≡◌, ◌⊎◌, inl, inr, ℕ, zero, suc, ◌+◌, ◌-◌, ◌/◌, ◌<◌, ◌≤◌, sym, ◌∙◌, ap, subst, arith, unsigned_abs}
use Prim.Native.Nat.{◌∣◌}
use Rattle.std.proofs.Math.Nat.{dvd-mul_left, one-dvd}
use Rattle.rational_theory.specs.Rational.{over}
use Rattle.rational_theory.specs.Gcd.{gcd, lcm}
use Rattle.rational_theory.specs.laws.Fractions.{times_part}
use Rattle.rational_theory.proofs.Multiples.{IsMultiple, multiple_on, lcm_first, lcm_second, lcm_above, lcm_least}
use Rattle.std.specs.Prelude.{ℤ}
use Rattle.progression.specs.Street.{Street, count}
use Rattle.progression.specs.declared.parts.Dir.{Dir}
use Rattle.progression.specs.declared.parts.Dir.TheVariants.{Outbound, Inbound}
use Rattle.description_reader.specs.Typed.{Typed}
use Rattle.typed_plan.specs.Asked.{after, travel}
use Rattle.typed_plan.specs.Grid.{time, common, with_part, with_offsets, with_out, shared}
use Rattle.typed_plan.specs.declared.times.Times.{Times}
use Rattle.typed_plan.specs.declared.times.Times.TheVariants.{Part, After, Run}

pub divides : {n d : ℕ} → IsMultiple n d → d ∣ n
divides {n} {d} h = subst (λ m. d ∣ m) (sym h.is) (dvd-mul_left d h.times)

-- the denominator of a quotient divides that under which it is written
pub over_divides : (z : ℤ) (d : ℕ) → 0 < d → (over z d).den ∣ d
unfolding over
over_divides z zero h = absurd (omega arith)
over_divides z (suc d) h =
    subst (λ n. suc d / gcd (unsigned_abs z) (suc d) ∣ n) (times_part (unsigned_abs z) (suc d) h).1 (dvd-mul_left (suc d / gcd (unsigned_abs z) (suc d)) (gcd (unsigned_abs z) (suc d)))

module _ (a : Street) (p : Typed) (times : Times) (m : ℕ) (above : 0 < m) where
  pub common_above : (k : ℕ) → 0 < common a p times m k
  unfolding common
  common_above zero = above
  common_above (suc k) = lcm_above (common a p times m k) (time a p times (suc k)).den (common_above k) (time a p times (suc k)).positive

  pub common_keeps : (k : ℕ) → IsMultiple (common a p times m k) m
  unfolding common
  common_keeps zero = record { times = 1; is = omega arith }
  common_keeps (suc k) = multiple_on (lcm_first (common a p times m k) (time a p times (suc k)).den (time a p times (suc k)).positive) (common_keeps k)

  at_last : (i k : ℕ) → i ≤ suc k → (i ≡ suc k) ⊎ (i ≤ k)
  at_last i k h = grind arith

  pub common_has : (k i : ℕ) → 1 ≤ i → i ≤ k → IsMultiple (common a p times m k) (time a p times i).den
  unfolding common
  common_has zero i h l = absurd (omega arith)
  common_has (suc k) i h l = elim (at_last i k l) [
    | inl e ↦ subst (λ j. IsMultiple (lcm (common a p times m k) (time a p times (suc k)).den) (time a p times j).den) (sym e) (lcm_second (common a p times m k) (time a p times (suc k)).den)
    | inr f ↦ multiple_on (lcm_first (common a p times m k) (time a p times (suc k)).den (time a p times (suc k)).positive) (common_has k i h f)
  ]

  pub common_least : (k n : ℕ) → m ∣ n → ((i : ℕ) → 1 ≤ i → i ≤ k → (time a p times i).den ∣ n) → common a p times m k ∣ n
  unfolding common
  common_least zero n h each = h
  common_least (suc k) n h each =
      lcm_least (common a p times m k) (time a p times (suc k)).den n (time a p times (suc k)).positive
      (common_least k n h (λ i l r. each i l (omega arith))) (each (suc k) (omega arith) (omega arith))

-- ---- all times
module _ (a : Street) (p : Typed) where
  part_above : 0 < with_part a p
  unfolding with_part
  part_above = common_above a p Part 1 (omega arith) 1

  offsets_above : 0 < with_offsets a p
  unfolding with_offsets
  offsets_above = common_above a p After (with_part a p) part_above (count a)

  out_above : 0 < with_out a p
  unfolding with_out
  out_above = common_above a p (Run Outbound) (with_offsets a p) offsets_above (count a - 1)

  pub shared_above : 0 < shared a p
  unfolding shared
  shared_above = common_above a p (Run Inbound) (with_out a p) out_above (count a - 1)

  shared_out : IsMultiple (shared a p) (with_out a p)
  unfolding shared
  shared_out = common_keeps a p (Run Inbound) (with_out a p) out_above (count a - 1)

  shared_offsets : IsMultiple (shared a p) (with_offsets a p)
  unfolding with_out
  shared_offsets = multiple_on shared_out (common_keeps a p (Run Outbound) (with_offsets a p) offsets_above (count a - 1))

  shared_part : IsMultiple (shared a p) (with_part a p)
  unfolding with_offsets
  shared_part = multiple_on shared_offsets (common_keeps a p After (with_part a p) part_above (count a))

  -- each time is whole
  pub has_part : IsMultiple (shared a p) (time a p Part 1).den
  unfolding with_part
  has_part = multiple_on shared_part (common_has a p Part 1 (omega arith) 1 1 (omega arith) (omega arith))

  pub has_after : (i : ℕ) → 1 ≤ i → i ≤ count a → IsMultiple (shared a p) (after p i).den
  unfolding with_offsets
  has_after i h l = multiple_on shared_offsets (common_has a p After (with_part a p) part_above (count a) i h l)

  pub has_run : (d : Dir) (i : ℕ) → 1 ≤ i → i < count a → IsMultiple (shared a p) (travel a p d i).den
  unfolding with_out shared
  has_run Outbound i h l = multiple_on shared_out (common_has a p (Run Outbound) (with_offsets a p) offsets_above (count a - 1) i h (omega arith))
  has_run Inbound i h l = common_has a p (Run Inbound) (with_out a p) out_above (count a - 1) i h (omega arith)

  -- and where each time is whole, so many ticks a second are a multiple
  pub shared_least : (n : ℕ) → (time a p Part 1).den ∣ n → ((i : ℕ) → 1 ≤ i → i ≤ count a → (after p i).den ∣ n)
      → ((d : Dir) (i : ℕ) → 1 ≤ i → i < count a → (travel a p d i).den ∣ n) → shared a p ∣ n
  unfolding with_part with_offsets with_out shared
  shared_least n part later run =
      let one = common_least a p Part 1 (omega arith) 1 n (one-dvd n) (λ i l r. part) in
      let two = common_least a p After (with_part a p) part_above (count a) n one later in
      let three = common_least a p (Run Outbound) (with_offsets a p) offsets_above (count a - 1) n two (λ i l r. run Outbound i l (omega arith)) in
      common_least a p (Run Inbound) (with_out a p) out_above (count a - 1) n three (λ i l r. run Inbound i l (omega arith))

pub common_next : (a : Street) (p : Typed) (times : Times) (m k : ℕ) → common a p times m (k + 1) ≡ lcm (common a p times m k) (time a p times (k + 1)).den
unfolding common
common_next a p times m k =
    let e : k + 1 ≡ suc k = omega arith in
    ap (common a p times m) e ∙ ap (λ i. lcm (common a p times m k) (time a p times i).den) (sym e)
