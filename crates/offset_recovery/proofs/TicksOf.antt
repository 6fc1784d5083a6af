-- A column's ticks, from its product with the number of parts, and how many they are.
use Rattle.std.proofs.Common.{◌≡◌, ℕ, ℤ, pos, negsuc, ◌+◌, ◌-◌, ◌*◌, ◌/◌, ◌<◌, ◌≤◌, ◌^◌, List, length, sym, subst, ◌∙◌, ap, arith, unsigned_abs, mul-pos}
use Rattle.std.proofs.Math.Nat.{mul-le-mul}
use native.Mathlib.Nat.{mul-div_cancel, mul-le-mul_left}
use borrow.Author.Differences.{up, down}
use Rattle.rational_theory.specs.Rational.{ℚ, ◌*ℚ◌, ◌/ℚ◌, ◌≤ℚ◌}
use Rattle.rational_theory.proofs.Lowest.{num_size}
use Rattle.rational_theory.proofs.Arithmetic.{own_ratio, whole_ratio, ≤ℚ_in}
use Rattle.progression.specs.Street.{Street, count, link_of, no_link, HasLink}
use Rattle.progression.specs.Speeds.{number, seconds, run_high}
use Rattle.progression.specs.Columns.{RunOf}
use Rattle.progression.specs.declared.parts.Dir.{Dir}
use Rattle.progression.specs.declared.parts.Dir.TheVariants.{Outbound, Inbound}
use Rattle.progression.specs.declared.parts.Units.{Units}
use Rattle.progression.specs.declared.parts.Units.TheVariants.{Metric, English}
use Rattle.artery_model.specs.Valid.{IsValid, IsLink, IsQuantity}
use Rattle.artery_model.proofs.Quotients.{over_times, above_zero}
use Rattle.linear_theory.specs.Places.{place, width}
use Rattle.recovery_theory.specs.Ticks.{in_parts, unit_of, ticks_in, ticks_of}
use Rattle.recovery_theory.proofs.Multiples.{unit_multiple}
use Rattle.recovery_theory.proofs.Wholes.{ticks_from_parts}
use Rattle.offset_recovery.specs.ByLink.{from_first}
use Rattle.offset_recovery.specs.Numbers.{IsReady}

divided : (u t d : ℕ) → 0 < d → u ≡ t * d → u / d ≡ t
divided u t d h e = ap (λ n. n / d) e ∙ mul-div_cancel t h

pub ticks_are : (a : Street) (x : List ℚ) (j n d u : ℕ) → IsReady a x → j < length x → n ≡ unsigned_abs (in_parts a x j).num → d ≡ (in_parts a x j).den → u ≡ unit_of a x → n * (u / d) ≡ ticks_in a x j
ticks_are a x j n d u r k e f g =
    let m = unit_multiple a x j k in
    let q = divided (unit_of a x) m.times (in_parts a x j).den (in_parts a x j).positive m.is in
    rw (e, f, g) (ap (λ t. unsigned_abs (in_parts a x j).num * t) q ∙ sym (ticks_from_parts a x r.parts r.not_negative j k))

-- a number whose numerator is of at most so great a size
sized : (z : ℤ) (d m : ℕ) → 0 < d → unsigned_abs z ≤ m → up z * 1 + 0 * d ≤ down z * 1 + m * d
sized (pos n) d m p h = let e = mul-le-mul_left m p in omega (arith, e)
sized (negsuc n) d m p h = omega arith

at_most_size : (q : ℚ) (m : ℕ) → unsigned_abs q.num ≤ m → q ≤ℚ number m
at_most_size q m h = ≤ℚ_in _ _ _ _ _ _ _ _ (own_ratio q) (whole_ratio (pos m)) (sized q.num q.den m q.positive h)

pub run_fits : (a : Street) (x : List ℚ) (d : Dir) (i : ℕ) → IsReady a x → HasLink a i → unsigned_abs (run_high a d i).num ≤ 540000000 → ticks_of a x (RunOf d i) < 2 ^ 127
run_fits a x d i r k h =
    let e = r.runs d i 540000000 k (at_most_size (run_high a d i) 540000000 h) in
    let g = r.grid in omega arith

-- ---- at the least speed
quotient_size : (n k : ℕ) (v : ℚ) → n ≤ 540000 → 0 < k → IsQuantity (pos 1) (pos 300) v → unsigned_abs (number n /ℚ (number k *ℚ v)).num ≤ 540000000
quotient_size n k v m p h =
    let t = above_zero v h in
    let s = num_size (pos (n * v.den)) (k * unsigned_abs v.num) (mul-pos p t.1) in
    let e = mul-le-mul m h.den in
    subst (λ (q : ℚ). unsigned_abs q.num ≤ 540000000) (over_times n k (unsigned_abs v.num) v t.0 t.1 p) (omega (arith, s, e))

seconds_size : (u : Units) (d : ℕ) (v : ℚ) → d ≤ 30000 → IsQuantity (pos 1) (pos 300) v → unsigned_abs (seconds u d v).num ≤ 540000000
seconds_size Metric d v m h = quotient_size (18 * d) 5 v (omega arith) (omega arith) h
seconds_size English d v m h = quotient_size (15 * d) 22 v (omega arith) (omega arith) h

link_valid : (a : Street) (v : IsValid a) (i : ℕ) → HasLink a i → IsLink (link_of a i)
link_valid a v i k = let l = k.0 in let m = k.1 in let n = v.one_fewer in v.each_link (i - 1) no_link (omega arith)

run_size : (a : Street) (d : Dir) (i : ℕ) → IsValid a → HasLink a i → unsigned_abs (run_high a d i).num ≤ 540000000
run_size a Outbound i v k = let l = link_valid a v i k in seconds_size a.head.units (link_of a i).distance_out (link_of a i).speed_out.least l.most_out l.speed_out.least
run_size a Inbound i v k = let l = link_valid a v i k in seconds_size a.head.units (link_of a i).distance_in (link_of a i).speed_in.least l.most_in l.speed_in.least

-- ---- runs side by side
pub runs_placed : (a : Street) (d : Dir) (first : ℕ) → first ≡ place (count a) (RunOf d 1) → (i : ℕ) → HasLink a i → from_first first i ≡ place (count a) (RunOf d i)
runs_placed a Outbound first e i k = let l = k.0 in omega arith
runs_placed a Inbound first e i k = let l = k.0 in omega arith

pub runs_few : (a : Street) (x : List ℚ) (d : Dir) (first : ℕ) → IsValid a → IsReady a x → first ≡ place (count a) (RunOf d 1) → (i : ℕ) → HasLink a i
    → ticks_in a x (from_first first i) < 2 ^ 127
runs_few a x d first v r e i k = subst (λ j. ticks_in a x j < 2 ^ 127) (sym (runs_placed a d first e i k)) (run_fits a x d i r k (run_size a d i v k))

pub runs_end : (a : Street) (d : Dir) (first : ℕ) → first ≡ place (count a) (RunOf d 1) → 2 ≤ count a → first + count a ≤ width (count a) + 1
runs_end a Outbound first e t = omega arith
runs_end a Inbound first e t = omega arith
