-- Lemmas on the definitions of `RowNumbers`.
use Rattle.std.proofs.Common.{◌≡◌, ℕ, ℤ, pos, ◌-ℤ◌, ◌*ℤ◌, ◌+◌, ◌-◌, ◌*◌, ◌<◌, ap, arith}
use Rattle.std.proofs.lemmas.Int.{ints}
use borrow.Author.Differences.{up, down}
use Rattle.rational_theory.specs.Rational.{whole, over, ◌-ℚ◌}
use Rattle.rational_theory.proofs.Arithmetic.{IsRatio, rebase, over_ratio, whole_ratio, same_ratio, sum_ratio, neg_ratio}
use Rattle.rational_theory.proofs.Shares.{one_cycle, less_ticks}
use Rattle.progression.specs.Street.{Street, signal_of, clearance, red_parts}
use Rattle.progression.specs.declared.parts.Dir.{Dir}
use Rattle.progression.specs.declared.parts.Dir.TheVariants.{Outbound, Inbound}
use Rattle.linear_theory.specs.Blocks.{green_part}
use Rattle.linear_theory.specs.Rows.{constant}
use Rattle.linear_theory.proofs.Shares.{quotient_ratio, part_ratio}
use Rattle.linear_theory.specs.RowNumbers.{constant_parts}

-- the green is the parts that the red leaves
pub green_part_is : (a : Street) (d : Dir) (i : ℕ) → red_parts a d i < a.head.parts → green_part a d i ≡ over (pos (a.head.parts - red_parts a d i)) a.head.parts
green_part_is a d i h =
    let n = a.head.parts in
    let p : 0 < n = omega arith in
    let e : n - red_parts a d i + red_parts a d i ≡ n = omega arith in
    same_ratio _ _ _ _ _ _ _ _ (less_ticks n p _ _ _ _ _ _ (one_cycle n p) (quotient_ratio (red_parts a d i) n p)) (over_ratio (pos (n - red_parts a d i)) n p)
    (omega (arith, ap (λ m. m * n) e))

-- a difference of parts, times n
scaled_parts : (r s k l n : ℕ) → (r + 0 + 0 + 0) * n + down (pos r -ℤ pos (s + k + l)) * n ≡ (0 + s + k + l) * n + up (pos r -ℤ pos (s + k + l)) * n
scaled_parts r s k l n =
    let e : r + down (pos r -ℤ pos (s + k + l)) ≡ s + k + l + up (pos r -ℤ pos (s + k + l)) = omega (arith, ints) in
    let f = ap (λ m. m * n) e in
    omega (arith, f)

-- a difference with a whole number, times n
scaled_low : (c z : ℤ) (n : ℕ) → (up c * 1 + down z * n) * n + down (c -ℤ z *ℤ pos n) * (n * 1) ≡ (down c * 1 + up z * n) * n + up (c -ℤ z *ℤ pos n) * (n * 1)
scaled_low c z n =
    let e : up (c -ℤ z *ℤ pos n) + (down c + up z * n) ≡ down (c -ℤ z *ℤ pos n) + (up c + down z * n) = omega (arith, ints) in
    let f = ap (λ m. m * n) e in
    omega (arith, f)

module _ (a : Street) (p : 0 < a.head.parts) where
  -- the constant over the parts
  constant_ratio : (i : ℕ) → IsRatio (constant a i) (up (constant_parts a i)) (down (constant_parts a i)) a.head.parts
  constant_ratio i =
      let n = a.head.parts in
      rebase _ _ _ _ _ _ _
      (less_ticks n p _ _ _ _ _ _ (less_ticks n p _ _ _ _ _ _ (less_ticks n p _ _ _ _ _ _ (part_ratio a p (signal_of a i).red) (part_ratio a p (signal_of a (i + 1)).red))
      (part_ratio a p (clearance a Outbound (i + 1)))) (part_ratio a p (clearance a Inbound i)))
      p (scaled_parts (signal_of a i).red (signal_of a (i + 1)).red (clearance a Outbound (i + 1)) (clearance a Inbound i) n)

  -- the bound of a block sum's row below, for a number z of the box
  pub loop_low_bound_is : (i : ℕ) (z : ℤ) → constant a i -ℚ whole z ≡ over (constant_parts a i -ℤ z *ℤ pos a.head.parts) a.head.parts
  loop_low_bound_is i z =
      same_ratio _ _ _ _ _ _ _ _ (sum_ratio _ _ _ _ _ _ _ _ (constant_ratio i) (neg_ratio _ _ _ _ (whole_ratio z))) (over_ratio (constant_parts a i -ℤ z *ℤ pos a.head.parts) a.head.parts p)
      (scaled_low (constant_parts a i) z a.head.parts)
