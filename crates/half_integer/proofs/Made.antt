-- The numbers of the base that is made, and what it is.
use Rattle.std.proofs.Common.{◌≡◌, ℕ, ℤ, pos, ◌+◌, ◌*◌, ◌<◌, ◌≤◌, ◌^◌, List, All, length, refl, ap, sym, ◌∙◌, arith}
use Rattle.progression.specs.Street.{Street, count}
use Rattle.progression.specs.TimingRecord.{TimingRecord, base, banded}
use Rattle.progression.specs.BaseRecord.{BaseRecord, cycle}
use Rattle.artery_model.specs.Valid.{IsValid}
use Rattle.time_space.specs.Timing.{AreOfBase, base_of}
use Rattle.mirror_theory.specs.EqualBands.{IsEven, HasNone, IsHalfCycleBest}
use Rattle.mirror_theory.specs.Runs.{Runs}
use Rattle.time_space.proofs.FinerGrids.{mul-le}
use Rattle.mirror_theory.proofs.Widest.{none_runs}
use Rattle.mirror_theory.proofs.Built.{half_cycle_best}
use Rattle.half_integer.specs.HalfPlan.{red_tick, first_out_tick, first_in_tick, half_base, half_plan}
use Rattle.half_integer.proofs.HalfPlan.{half_plan_built, length-numbered}
use Rattle.half_integer.specs.declared.search.OutboundBand.{OutboundBand}
use Rattle.half_integer.specs.Bands.{IsBestBand}
use Rattle.half_integer.specs.Fitting.{FitsTwice, IsListTo, twice_at}
use Rattle.half_integer.proofs.Lists.{twice_whole}

pub made_known : (a : Street) (t : TimingRecord) (x : ℤ) (grid unit : ℕ) (patterns reds ro ri run_out run_in : List ℕ)
    → grid ≡ t.grid → 1 ≤ grid → unit ≡ t.unit → 2 ≤ unit → FitsTwice a t
    → patterns ≡ t.patterns → All (λ p. (1 ≤ p) × (p ≤ 4)) patterns → 2 ≤ length patterns → length patterns ≤ 24 → length t.patterns ≡ count a
    → IsListTo (red_tick a t x) 1 (count a) reds
    → length ro + 1 ≡ length t.patterns → IsListTo (twice_at ro) 0 (length ro) run_out
    → length ri + 1 ≡ length t.patterns → IsListTo (twice_at ri) 0 (length ri) run_in
    → AreOfBase (grid * 2) (unit * 2) patterns reds run_out run_in
made_known a t x grid unit patterns reds ro ri run_out run_in g g1 u u2 f p all few many shape rs lo rol li ril = record {
  grid_least = omega arith;
  grid_most = let e = f.grid in rw g e;
  unit_least = omega arith;
  unit_most = let e = f.unit in rw u e;
  few = few;
  many = many;
  reds_count = ap length rs.value ∙ length-numbered (count a) 1 (red_tick a t x) ∙ sym shape ∙ ap length (sym p);
  run_out_count = let e = ap length rol.value ∙ length-numbered (length ro) 0 (twice_at ro) in let q = ap length p in omega (arith, e, q, lo);
  run_in_count = let e = ap length ril.value ∙ length-numbered (length ri) 0 (twice_at ri) in let q = ap length p in omega (arith, e, q, li);
  patterns_each = all;
  reds_each = rs.small;
  run_out_each = rol.small;
  run_in_each = ril.small;
}

-- a line begins before two cycles are over, which fit
pub line_fits : (a : Street) (t : TimingRecord) (n : ℕ) → FitsTwice a t → n < cycle a (base t) + cycle a (base t) → n < 2 ^ 80
line_fits a t n f h = let e = f.cycle in omega (arith, e, h)

pub made_is : (a : Street) (t : TimingRecord) (x : ℤ) (grid unit : ℕ) (patterns reds ro ri run_out run_in : List ℕ)
    → grid ≡ t.grid → unit ≡ t.unit → patterns ≡ t.patterns → IsListTo (red_tick a t x) 1 (count a) reds
    → ro ≡ t.run_out → IsListTo (twice_at ro) 0 (length ro) run_out → ri ≡ t.run_in → IsListTo (twice_at ri) 0 (length ri) run_in
    → base_of (grid * 2) (unit * 2) patterns reds run_out run_in ≡ half_base a t x
made_is a t x grid unit patterns reds ro ri run_out run_in g u p rs o rol i ril = rw (g, u, p, rs.value, twice_whole ro run_out rol, o, twice_whole ri run_in ril, i) refl

-- with its lines and bands it is the plan
pub banded_is : (a : Street) (t s : TimingRecord) (b c : BaseRecord) (x : ℤ) (first_out first_in width : ℕ)
    → s ≡ banded (pos first_out) width (pos first_in) width b → b ≡ c → c ≡ half_base a t x → first_out ≡ first_out_tick a t x → first_in ≡ first_in_tick a t x width
    → s ≡ half_plan a t x width
banded_is a t s b c x first_out first_in width e f g o i = e ∙ rw (f, g, o, i) refl

pub half_none : (a : Street) (t : TimingRecord) (unit : ℕ) → IsValid a → unit ≡ t.unit → 2 ≤ unit → IsEven a t → ((x : ℤ) → ¬ Runs a t x 0) → HasNone a t
half_none a t unit v e u even h = none_runs a t v (omega (arith, e)) even h

pub half_is : (a : Street) (t s : TimingRecord) (unit : ℕ) (band : OutboundBand) → IsValid a → unit ≡ t.unit → 2 ≤ unit → IsEven a t → length t.patterns ≡ count a → IsBestBand a t band
    → s ≡ half_plan a t band.first band.width → IsHalfCycleBest a t s
half_is a t s unit band v e u even shape best is =
    let two : 2 ≤ t.unit = omega (arith, e) in
    let long : 2 * 2 ≤ a.head.parts * t.unit = mul-le v.least_parts two in
    let some : 0 < cycle a (base t) = omega (arith, long) in
    rw is (half_cycle_best a t v two even band.first band.width (half_plan a t band.first band.width) (half_plan_built a t some shape band.first band.width) best.runs best.upright best.widest)
