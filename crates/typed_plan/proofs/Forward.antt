-- A part takes some time, and a link no less than none.
use Rattle.std.proofs.Common.{◌≡◌, ℕ, ◌*◌, ◌-◌, ◌<◌, ◌≤◌, pos, ℤ, sym, subst, arith, unsigned_abs, mul-pos}
use Rattle.std.specs.Prelude.{◌≤ℤ◌}
use Rattle.std.proofs.lemmas.Int.{ints}
use Rattle.rational_theory.specs.Rational.{ℚ, whole, over, ◌/ℚ◌, ◌*ℚ◌}
use Rattle.progression.specs.Speeds.{number}
use Rattle.progression.specs.Street.{Street, HasLink, distance}
use Rattle.progression.specs.declared.parts.Units.{Units}
use Rattle.progression.specs.declared.parts.Units.TheVariants.{Metric, English}
use Rattle.progression.specs.declared.parts.Dir.{Dir}
use Rattle.progression.specs.declared.parts.Dir.TheVariants.{Outbound, Inbound}
use Rattle.artery_model.proofs.Quotients.{over_times, over_whole, over_positive}
use Rattle.time_space.proofs.Quotients.{over_least}
use Rattle.description_reader.specs.Typed.{Typed, IsWritten, IsTyped, IsMeasured}
use Rattle.description_reader.specs.declared.measure.Measure.{Measure}
use Rattle.description_reader.specs.declared.measure.Measure.TheVariants.{Speed, Travel}
use Rattle.typed_plan.specs.Asked.{time_by, travel}
use Rattle.typed_plan.specs.Counts.{HasCounts}
use Rattle.typed_plan.specs.Grid.{time}
use Rattle.typed_plan.specs.declared.times.Times.TheVariants.{Part}
use Rattle.typed_plan.proofs.AtSpeed.{above_zero}

at_speed : (n k : ℕ) (v : ℚ) → 0 < k → IsWritten (pos 1) (pos 300) v → pos 0 ≤ℤ (number n /ℚ (number k *ℚ v)).num
at_speed n k v some h =
    let up = above_zero v h in
    let P : ℚ → Type 0 = λ x. pos 0 ≤ℤ x.num in
    subst P (over_times n k (unsigned_abs v.num) v up.0 up.1 some) (over_least (n * v.den) (k * unsigned_abs v.num))

forward_by : (m : Measure) (u : Units) (n : ℕ) (q : ℚ) → IsMeasured m q → pos 0 ≤ℤ (time_by m u n q).num
forward_by Speed Metric n q h = at_speed (18 * n) 5 q (omega arith) h
forward_by Speed English n q h = at_speed (15 * n) 22 q (omega arith) h
forward_by Travel u n q h = let l = h.least in omega (arith, ints, l)

pub forward : (a : Street) (p : Typed) → IsTyped p → HasCounts a p → (d : Dir) (i : ℕ) → HasLink a i → pos 0 ≤ℤ (travel a p d i).num
forward a p typed counts Outbound i h =
    let c = counts.links Outbound in
    forward_by p.measure_out a.head.units (distance a Outbound i) _ (typed.out (i - 1) (whole (pos 0)) (omega (arith, c, h.0, h.1)))
forward a p typed counts Inbound i h =
    let c = counts.links Inbound in
    forward_by p.measure_in a.head.units (distance a Inbound i) _ (typed.back (i - 1) (whole (pos 0)) (omega (arith, c, h.0, h.1)))

begun_by : (c : ℚ) (parts n : ℕ) → 1 ≤ parts → c.num ≡ pos n → 0 < n → pos 1 ≤ℤ (c /ℚ number parts).num
begun_by c parts n some e h =
    let P : ℚ → Type 0 = λ x. pos 1 ≤ℤ x.num in
    let Q : ℤ → Type 0 = λ z. pos 1 ≤ℤ (over z (parts * c.den)).num in
    subst P (over_whole c parts some) (subst Q (sym e) (over_positive n (parts * c.den) h (mul-pos some c.positive)))

pub begun : (a : Street) (p : Typed) → IsTyped p → 1 ≤ a.head.parts → pos 1 ≤ℤ (time a p Part 1).num
begun a p typed some =
    let least = typed.cycle.least in
    let den = p.cycle.positive in
    begun_by p.cycle a.head.parts (unsigned_abs p.cycle.num) some (omega (arith, ints, least, den)) (omega (arith, ints, least, den))
