-- A typed speed comes back from the time that it makes.
use Rattle.std.proofs.Common.{◌≡◌, ℕ, ◌*◌, ◌-◌, ◌<◌, pos, sym, ◌∙◌, ap, subst, arith, unsigned_abs, mul-pos}
use Rattle.std.specs.Prelude.{◌≤ℤ◌, slice_index_or}
use Rattle.std.proofs.lemmas.Int.{ints}
use Rattle.rational_theory.specs.Rational.{ℚ, whole, over, ◌/ℚ◌, ◌*ℚ◌}
use Rattle.rational_theory.proofs.Arithmetic.{IsRatio, same_ratio}
use Rattle.progression.specs.Speeds.{number, seconds}
use Rattle.progression.specs.TimingRecord.{base}
use Rattle.progression.specs.BaseRecord.{run}
use Rattle.progression.specs.Street.{Street, HasLink, distance, no_link}
use Rattle.progression.specs.declared.parts.Dir.{Dir}
use Rattle.progression.specs.declared.parts.Dir.TheVariants.{Outbound, Inbound}
use Rattle.progression.specs.declared.parts.Units.{Units}
use Rattle.progression.specs.declared.parts.Units.TheVariants.{Metric, English}
use Rattle.artery_model.specs.Valid.{IsValid}
use Rattle.artery_model.proofs.Quotients.{over_times, over_positive}
use Rattle.description_reader.specs.Typed.{Typed, IsWritten, IsTyped, IsMeasured, measure, measured}
use Rattle.description_reader.specs.declared.measure.Measure.{Measure}
use Rattle.typed_plan.specs.Asked.{time_by, in_seconds}
use Rattle.typed_plan.specs.Counts.{HasCounts}
use Rattle.typed_plan.specs.Ends.{SpeedsComeBack}
use Rattle.typed_plan.proofs.Counted.{has_counts}
use Rattle.typed_plan.proofs.AtSpeed.{above_zero}
use Rattle.typed_plan.proofs.Ticks.{cross_of, nat_ratio}

-- a number above 0 in its own terms
own : (x : ℚ) (n : ℕ) → x.num ≡ pos n → IsRatio x n 0 x.den
own x n e = record { above = x.positive; ratio = rw e (omega arith) }

back_at : (n k a : ℕ) (v : ℚ) → 0 < n → 0 < k → v.num ≡ pos a → 0 < a → number n /ℚ (number k *ℚ (number n /ℚ (number k *ℚ v))) ≡ v
back_at n k a v some under e h =
    let x = number n /ℚ (number k *ℚ v) in
    let is : over (pos (n * v.den)) (k * a) ≡ x = over_times n k a v e h under in
    let below : 0 < k * a = mul-pos under h in
    let Above : ℚ → Type 0 = λ y. pos 1 ≤ℤ y.num in
    let up : pos 1 ≤ℤ x.num = subst Above is (over_positive (n * v.den) (k * a) (mul-pos some v.positive) below) in
    let b = unsigned_abs x.num in
    let f : x.num ≡ pos b = omega (arith, ints, up) in
    let g : 0 < b = omega (arith, ints, up) in
    let c = cross_of _ _ _ _ _ _ _ _ (nat_ratio (n * v.den) (k * a) below) (own x b f) is in
    sym (over_times n k b x f g under)
    ∙ same_ratio _ _ _ _ _ _ _ _ (nat_ratio (n * x.den) (k * b) (mul-pos under g)) (own v a e) (omega (arith, c))

pub seconds_back : (u : Units) (d : ℕ) (v : ℚ) → 0 < d → IsWritten (pos 1) (pos 300) v → seconds u d (seconds u d v) ≡ v
seconds_back Metric d v h q = let up = above_zero v q in back_at (18 * d) 5 (unsigned_abs v.num) v (omega (arith, h)) (omega arith) up.0 up.1
seconds_back English d v h q = let up = above_zero v q in back_at (15 * d) 22 (unsigned_abs v.num) v (omega (arith, h)) (omega arith) up.0 up.1

-- ---- on an artery
long : (a : Street) → IsValid a → (d : Dir) (i : ℕ) → HasLink a i → 0 < distance a d i
long a valid Outbound i l = let n = valid.one_fewer in let k = valid.each_link (i - 1) no_link (omega (arith, n, l.0, l.1)) in let m = k.least_out in omega (arith, m)
long a valid Inbound i l = let n = valid.one_fewer in let k = valid.each_link (i - 1) no_link (omega (arith, n, l.0, l.1)) in let m = k.least_in in omega (arith, m)

typed_at : (a : Street) (p : Typed) → IsTyped p → HasCounts a p → (d : Dir) (i : ℕ) → HasLink a i → IsMeasured (measure p d) (slice_index_or (measured p d) (i - 1) (whole (pos 0)))
typed_at a p typed counts Outbound i l = let c = counts.links Outbound in typed.out (i - 1) (whole (pos 0)) (omega (arith, c, l.0, l.1))
typed_at a p typed counts Inbound i l = let c = counts.links Inbound in typed.back (i - 1) (whole (pos 0)) (omega (arith, c, l.0, l.1))

pub speeds_come_back : SpeedsComeBack
speeds_come_back a p m d i valid typed h l e =
    let t = base m.timing in
    let few = valid.few in
    let q = slice_index_or (measured p d) (i - 1) (whole (pos 0)) in
    let n = distance a d i in
    let AtSpeed : Measure → Type 0 = λ k. IsMeasured k q in
    let given : IsWritten (pos 1) (pos 300) q = subst AtSpeed e (typed_at a p typed (has_counts a p (omega (arith, few)) h.counts) d i l) in
    let took : in_seconds t (pos (run t d i)) ≡ seconds a.head.units n q = h.least.as_typed.runs d i l ∙ ap (λ k. time_by k a.head.units n q) e in
    ap (seconds a.head.units n) took ∙ seconds_back a.head.units n q (long a valid d i l) given
