-- What whole block sums, ranked shifts and the rows of the waits say of a vertex, in ticks.
use Rattle.std.proofs.Common.{◌≡◌, ℕ, ℤ, pos, ◌+ℤ◌, ◌*ℤ◌, ◌+◌, ◌*◌, ◌<◌, ◌≤◌, List, refl, subst, arith, mul-pos}
use Rattle.std.proofs.lemmas.Int.{ints}
use native.Mathlib.Nat.{le_of_mul-le-mul_right}
use Rattle.rational_theory.proofs.Integers.{up-mul, down-mul}
use Rattle.rational_theory.specs.Rational.{ℚ, whole, ◌+ℚ◌, ◌-ℚ◌, ◌*ℚ◌, ◌/ℚ◌, ◌≤ℚ◌}
use Rattle.rational_theory.proofs.Arithmetic.{IsRatio, rebase, whole_ratio, ≤ℚ_out}
use Rattle.rational_theory.proofs.Order.{≤ℚ_refl}
use Rattle.rational_theory.proofs.Shares.{nothing, one_cycle, joined_ticks, less_ticks, once}
use Rattle.progression.specs.Street.{Street, count, signal_of, clearance, red_parts, HasSignal, HasLink}
use Rattle.progression.specs.Speeds.{number}
use Rattle.progression.specs.Columns.{Column, BandOf, WaitOf, RunOf, ShiftOf}
use Rattle.progression.specs.declared.parts.Dir.{Dir}
use Rattle.progression.specs.declared.parts.Dir.TheVariants.{Outbound, Inbound}
use Rattle.linear_theory.specs.Places.{place, value_at}
use Rattle.linear_theory.proofs.Places.{IsColumn}
use Rattle.linear_theory.proofs.Points.{place_below}
use Rattle.linear_theory.specs.Blocks.{part, block_sum}
use Rattle.linear_theory.specs.Boxes.{Area}
use Rattle.linear_theory.specs.Rows.{wait_form}
use Rattle.linear_theory.specs.Names.{WaitRow}
use Rattle.linear_theory.proofs.SparseSums.{line_total}
use Rattle.linear_theory.specs.Counts.{IsStreet}
use Rattle.linear_theory.proofs.Shares.{quotient_ratio}
use Rattle.linear_theory.proofs.Ranges.{parts_above, some_signal}
use Rattle.recovery_theory.specs.Ticks.{unit_of, ticks_of}
use Rattle.recovery_theory.specs.Vertices.{IsLongVertex, HasWholeBlock}
use Rattle.recovery_theory.proofs.Multiples.{unit_least}
use Rattle.recovery_theory.proofs.Wholes.{value_is}
use Rattle.recovery_theory.proofs.Waits.{WholeTicks}

-- fractions with one denominator, in their numerators
at_most : (x y : ℚ) (p n q m c : ℕ) → IsRatio x p n c → IsRatio y q m c → x ≤ℚ y → p + m ≤ n + q
at_most x y p n q m c h k l = le_of_mul-le-mul_right {m = p + m} {n = n + q} {k = c} (let e = ≤ℚ_out _ _ _ _ _ _ _ _ h k l in omega arith) h.above

-- a fraction that is a whole number
whole_cycles : (x : ℚ) (z : ℤ) (p n c : ℕ) → IsRatio x p n c → x ≡ whole z → pos p ≡ z *ℤ pos c +ℤ pos n
whole_cycles x z p n c h e =
    let l = ≤ℚ_out _ _ _ _ _ _ _ _ h (whole_ratio z) (rw e (≤ℚ_refl (whole z))) in
    let m = ≤ℚ_out _ _ _ _ _ _ _ _ (whole_ratio z) h (rw e (≤ℚ_refl (whole z))) in
    let u = up-mul z (pos c) in
    let d = down-mul z (pos c) in
    omega (arith, ints, u, d)

-- a whole number's numerator and denominator
pub num_whole : (z : ℤ) → (whole z).num ≡ z
unfolding whole
num_whole z = refl

pub den_whole : (z : ℤ) → (whole z).den ≡ 1
unfolding whole
den_whole z = refl

module _ (a : Street) (box : Area) (x : List ℚ) (h : IsStreet a) (v : IsLongVertex a box x) where
  abbrev cycle_of : ℕ
  cycle_of = a.head.parts * unit_of a x

  pub some_cycle : 0 < cycle_of
  some_cycle = mul-pos (parts_above a h) (let u = unit_least a x in omega arith)

  -- each column is its ticks over the cycle
  pub column_is : (c : Column) → IsColumn (count a) c → value_at (count a) x c ≡ number (ticks_of a x c) /ℚ number cycle_of
  column_is c k = value_is a x (parts_above a h) v.not_negative (place (count a) c) (let l = place_below (count a) c (some_signal a h) k in omega (arith, l, v.columns))

  column_ratio : (c : Column) → IsColumn (count a) c → IsRatio (value_at (count a) x c) (ticks_of a x c) 0 cycle_of
  column_ratio c k = rw (column_is c k) (quotient_ratio (ticks_of a x c) cycle_of some_cycle)

  -- so are some parts
  part_ratio : (r : ℕ) → IsRatio (part a r) (r * unit_of a x) 0 cycle_of
  part_ratio r = rebase _ _ _ _ _ _ _ (quotient_ratio r a.head.parts (parts_above a h)) some_cycle (omega arith)

  plus : {y z : ℚ} {p n q m : ℕ} → IsRatio y p n cycle_of → IsRatio z q m cycle_of → IsRatio (y +ℚ z) (p + q) (n + m) cycle_of
  plus {y} {z} {p} {n} {q} {m} k l = joined_ticks cycle_of some_cycle y z p n q m k l

  less : {y z : ℚ} {p n q m : ℕ} → IsRatio y p n cycle_of → IsRatio z q m cycle_of → IsRatio (y -ℚ z) (p + m) (n + q) cycle_of
  less {y} {z} {p} {n} {q} {m} k l = less_ticks cycle_of some_cycle y z p n q m k l

  -- a whole block sum, in ticks
  pub block_ticks : (i : ℕ) → HasLink a i → HasWholeBlock a x i → WholeTicks a (unit_of a x) (ticks_of a x) i
  block_ticks i k w =
      let l = k.1 in
      let here : (1 ≤ i) × (i ≤ count a) = (k.0, omega arith) in
      let next : (1 ≤ i + 1) × (i + 1 ≤ count a) = (omega arith, omega arith) in
      let r = less (less (less (plus (less (plus (plus (plus (less (less (plus
      (column_ratio (WaitOf Outbound i) here) (column_ratio (WaitOf Inbound i) here)) (column_ratio (WaitOf Outbound (i + 1)) next)) (column_ratio (WaitOf Inbound (i + 1)) next))
      (column_ratio (RunOf Outbound i) k)) (column_ratio (RunOf Inbound i) k)) (column_ratio (ShiftOf i) here)) (column_ratio (ShiftOf (i + 1)) next))
      (part_ratio (signal_of a i).red)) (part_ratio (signal_of a (i + 1)).red)) (part_ratio (clearance a Outbound (i + 1)))) (part_ratio (clearance a Inbound i)) in
      let e = whole_cycles (block_sum a x i) w.turns _ _ cycle_of r w.is in
      record { cycles = w.turns; is = omega (arith, ints, e) }

  -- a wait and its band fit into the green
  wait_row : (d : Dir) (i : ℕ) → HasSignal a i → (number 1 *ℚ value_at (count a) x (BandOf d) +ℚ (number 1 *ℚ value_at (count a) x (WaitOf d i) +ℚ number 0)) ≤ℚ (number 1 -ℚ part a (red_parts a d i))
  wait_row Outbound i s =
      let m = v.rows (WaitRow Outbound i) s in
      subst (λ y. y ≤ℚ (number 1 -ℚ part a (red_parts a Outbound i))) (line_total a (wait_form a Outbound i) x (some_signal a h) (omega arith, tt, (omega arith, s, tt))) m.met
  wait_row Inbound i s =
      let m = v.rows (WaitRow Inbound i) s in
      subst (λ y. y ≤ℚ (number 1 -ℚ part a (red_parts a Inbound i))) (line_total a (wait_form a Inbound i) x (some_signal a h) (omega arith, tt, (omega arith, s, tt))) m.met

  pub wait_ticks : (d : Dir) (i : ℕ) → HasSignal a i → ticks_of a x (WaitOf d i) + ticks_of a x (BandOf d) + red_parts a d i * unit_of a x ≤ cycle_of
  wait_ticks d i s =
      let l = at_most _ _ _ _ _ _ cycle_of
      (plus (once cycle_of some_cycle _ _ _ (column_ratio (BandOf d) tt)) (plus (once cycle_of some_cycle _ _ _ (column_ratio (WaitOf d i) (of_signal d i s))) (nothing cycle_of some_cycle)))
      (less (one_cycle cycle_of some_cycle) (part_ratio (red_parts a d i))) (wait_row d i s) in
      omega arith
    where
      of_signal : (d : Dir) (i : ℕ) → HasSignal a i → IsColumn (count a) (WaitOf d i)
      of_signal d i s = s

  -- so a wait is shorter than the cycle
  pub wait_less : (d : Dir) (i : ℕ) → HasSignal a i → ticks_of a x (WaitOf d i) < cycle_of
  wait_less d i s =
      let e = wait_ticks d i s in
      let u = unit_least a x in
      let r : 0 < red_parts a d i * unit_of a x = mul-pos (h.red d i s) (omega arith) in
      omega arith
