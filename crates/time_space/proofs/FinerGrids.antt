-- A timing on a finer grid is good exactly where it is good here.
use Rattle.std.proofs.Common.{◌≡◌, ℕ, suc, zero, ◌+◌, ◌-◌, ◌*◌, ◌<◌, ◌≤◌, List, [], ◌∷◌, get_or, map, arith, refl, ap, sym, ◌∙◌, true, false, zero-mul}
use Rattle.std.proofs.lemmas.List.{length-map}
use Rattle.std.specs.Prelude.{ℤ, pos, ◌+ℤ◌, ◌*ℤ◌, ◌↔◌, if◌then◌else◌, IfSome, IsTrue, length}
use Rattle.std.proofs.lemmas.Int.{ints}
use Rattle.std.proofs.Math.Nat.{mul-le-mul_right, le_of_mul-le-mul_right}
use borrow.Author.Differences.{up, down}
use Rattle.progression.specs.Green.{BandIsGreen, is_early, ahead, red_start, red_ticks}
use Rattle.progression.specs.Street.{Street, no_signal, count, allows, HasSignal, red_parts, left_against, clearance, distance, least_band}
use Rattle.progression.specs.Speeds.{number, run_low, run_high, change}
use Rattle.progression.specs.Good.{Good, IsBase, HasLeastBand, HasEqualBands, pace_change}
use Rattle.artery_model.specs.Valid.{IsValid}
use Rattle.progression.specs.TimingRecord.{TimingRecord, base}
use Rattle.progression.specs.BaseRecord.{BaseRecord, IsBaseRecord, cycle, pattern_of, common_red, run}
use Rattle.progression.specs.Lines.{stop, leg, advance, crossing_from, IsGreenFrom, RunsOn, IsGreenWay}
use Rattle.progression.specs.declared.parts.Pair.{Pair}
use Rattle.time_space.specs.Finer.{finer_base, finer}
use Rattle.time_space.specs.LinkRules.{LinkHolds}
use Rattle.time_space.specs.declared.links.LinkRule.{LinkRule}
use Rattle.time_space.specs.declared.links.LinkRule.TheVariants as rule
use Rattle.time_space.proofs.Scale.{finer_grids, minus_scale}
use Rattle.time_space.proofs.Multiples.{times_le, limit_times, least_finer, most_finer, apart_times, ratio_finer, if_some_both}
use Rattle.rational_theory.specs.Rational.{ℚ, ◌*ℚ◌, ◌≤ℚ◌, inverse_ℚ}
use Rattle.progression.specs.declared.parts.Dir.{Dir}
use Rattle.progression.specs.declared.parts.Dir.TheVariants.{Outbound, Inbound}

pub plus_scale : (x a : ℤ) (m : ℕ) → x *ℤ pos m +ℤ a *ℤ pos m ≡ (x +ℤ a) *ℤ pos m
plus_scale x a m =
    let sum : up (x +ℤ a) + down x + down a ≡ up x + up a + down (x +ℤ a) = omega (arith, ints) in
    let scaled = ap (λ y. y * m) sum in
    omega (arith, ints, scaled)

pub get_or-scale : (xs : List ℕ) (i m : ℕ) → get_or (map (λ n. n * m) xs) i 0 ≡ get_or xs i 0 * m
get_or-scale [] i m = omega arith
get_or-scale (x ∷ xs) zero m = refl
get_or-scale (x ∷ xs) (suc i) m = get_or-scale xs i m

pub get_or-scale_ℤ : (xs : List ℤ) (i m : ℕ) → get_or (map (λ z. z *ℤ pos m) xs) i (pos 0) ≡ get_or xs i (pos 0) *ℤ pos m
get_or-scale_ℤ [] i m = omega (arith, ints)
get_or-scale_ℤ (x ∷ xs) zero m = refl
get_or-scale_ℤ (x ∷ xs) (suc i) m = get_or-scale_ℤ xs i m

module _ (a : Street) (t : BaseRecord) (m : ℕ) where
  pub cycle_finer : cycle a (finer_base m t) ≡ cycle a t * m
  cycle_finer = omega arith

  pub run_finer : (d : Dir) (i : ℕ) → run (finer_base m t) d i ≡ run t d i * m
  run_finer Outbound i = get_or-scale t.run_out (i - 1) m
  run_finer Inbound i = get_or-scale t.run_in (i - 1) m

  pub ahead_finer : (d : Dir) (i : ℕ) → ahead a (finer_base m t) d i ≡ ahead a t d i * m
  ahead_finer d i = elim (is_early d (pattern_of t i)) as (λ b. (if b then left_against a d i * (t.unit * m) else 0) ≡ (if b then left_against a d i * t.unit else 0) * m)
      [ true ↦ omega arith | false ↦ omega arith ]

  pub red_start_finer : (d : Dir) (i : ℕ) → red_start a (finer_base m t) d i ≡ red_start a t d i *ℤ pos m
  red_start_finer d i = rw (get_or-scale_ℤ t.reds (i - 1) m, ahead_finer d i) (minus_scale (common_red t i) (pos (ahead a t d i)) m)

  pub red_ticks_finer : (d : Dir) (i : ℕ) → red_ticks a (finer_base m t) d i ≡ red_ticks a t d i * m
  red_ticks_finer d i = omega arith

  pub advance_finer : (d : Dir) (j : ℕ) → advance a (finer_base m t) d j ≡ advance a t d j *ℤ pos m
  advance_finer d j =
      let c = clearance a d (stop d (count a) (j + 1)) in
      let assoc : c * (t.unit * m) ≡ c * t.unit * m = omega arith in
      rw (run_finer d (leg d (count a) j), assoc) (minus_scale (pos (run t d (leg d (count a) j))) (pos (c * t.unit)) m)

  pub crossing_finer : (d : Dir) (x : ℤ) (j : ℕ) → crossing_from a (finer_base m t) d (x *ℤ pos m) j ≡ crossing_from a t d x j *ℤ pos m
  crossing_finer d x zero = refl
  crossing_finer d x (suc j) = rw (crossing_finer d x j, advance_finer d j) (plus_scale (crossing_from a t d x j) (advance a t d j) m)

  -- the four numbers of a band, m times as large
  band_at_finer : (P : ℕ → ℤ → ℕ → ℤ → ℕ → Type 0) (d : Dir) (i j : ℕ) (x : ℤ) (w : ℕ)
      → P (cycle a t * m) (red_start a t d i *ℤ pos m) (red_ticks a t d i * m) (crossing_from a t d x j *ℤ pos m) (w * m)
      → P (cycle a (finer_base m t)) (red_start a (finer_base m t) d i) (red_ticks a (finer_base m t) d i) (crossing_from a (finer_base m t) d (x *ℤ pos m) j) (w * m)
  band_at_finer P d i j x w p = rw (cycle_finer, red_start_finer d i, red_ticks_finer d i, crossing_finer d x j) p

  band_from_finer : (P : ℕ → ℤ → ℕ → ℤ → ℕ → Type 0) (d : Dir) (i j : ℕ) (x : ℤ) (w : ℕ)
      → P (cycle a (finer_base m t)) (red_start a (finer_base m t) d i) (red_ticks a (finer_base m t) d i) (crossing_from a (finer_base m t) d (x *ℤ pos m) j) (w * m)
      → P (cycle a t * m) (red_start a t d i *ℤ pos m) (red_ticks a t d i * m) (crossing_from a t d x j *ℤ pos m) (w * m)
  band_from_finer P d i j x w p = rw (cycle_finer, red_start_finer d i, red_ticks_finer d i, crossing_finer d x j) at p

-- what is the same times some number of at least 1 is the same
same_factor : (a b m : ℕ) → 0 < m → a * m ≡ b * m → a ≡ b
same_factor a b m q e =
    let above : a ≤ b = le_of_mul-le-mul_right (omega (arith, e)) q in
    let below : b ≤ a = le_of_mul-le-mul_right (omega (arith, e)) q in
    omega arith

pub mul-le : {a b c d : ℕ} → a ≤ b → c ≤ d → a * c ≤ b * d
mul-le {a} {b} {c} {d} h k = grind arith

pub below : {a b c : ℕ} → a < b → 0 < c → a * c < b * c
below {a} {b} {c} h k = grind arith

-- a red has at least one part, and leaves some green
pub red_bounds : (a : Street) → IsValid a → (d : Dir) (i : ℕ) → i - 1 < count a → (1 ≤ red_parts a d i) × (red_parts a d i < a.head.parts)
red_bounds a h Outbound i l = let s = h.each_signal (i - 1) no_signal l in (omega (arith, s.red), s.green_out)
red_bounds a h Inbound i l = let s = h.each_signal (i - 1) no_signal l in (omega (arith, s.red), s.green_in)

stop_below : (d : Dir) (n j : ℕ) → j < n → stop d n j - 1 < n
stop_below Outbound n j l = omega arith
stop_below Inbound n j l = omega arith

-- the rules of a base, from those of another whose links keep each limit
base_by : (a : Street) (s t : BaseRecord) → IsBase a s → IsBaseRecord t → length t.patterns ≡ count a → ((i : ℕ) → HasSignal a i → IsTrue (allows a i (pattern_of t i)))
    → (a.head.cycle.least *ℚ number t.grid) ≤ℚ number (cycle a t) → number (cycle a t) ≤ℚ (a.head.cycle.most *ℚ number t.grid)
    → ((r : LinkRule) (d : Dir) (i : ℕ) → LinkHolds a s r d i → LinkHolds a t r d i) → IsBase a t
base_by a s t b formed shape patterns least most holds = record {
  formed = formed;
  shape = shape;
  patterns = patterns;
  cycle_least = least;
  cycle_most = most;
  fast = λ d i l. holds rule.Fast d i (b.fast d i l);
  slow = λ d i l. holds rule.Slow d i (b.slow d i l);
  rise = λ d i l. holds rule.Rise d i (b.rise d i l);
  drop = λ d i l. holds rule.Drop d i (b.drop d i l);
}

module _ (a : Street) (t : BaseRecord) (m : ℕ) (h : IsValid a) (u : 2 ≤ t.unit) (q : 1 ≤ m) where
  green_finer : (d : Dir) (x : ℤ) (w j : ℕ) → j < count a → IsGreenFrom a t d x w j ↔ IsGreenFrom a (finer_base m t) d (x *ℤ pos m) (w * m) j
  green_finer d x w j l =
      let i = stop d (count a) j in
      let r = red_bounds a h d i (stop_below d (count a) j l) in
      let some : 1 * 2 ≤ red_parts a d i * t.unit = mul-le r.0 u in
      let less : red_parts a d i * t.unit < a.head.parts * t.unit = below r.1 (omega arith) in
      let law = finer_grids (cycle a t) (red_ticks a t d i) w m (red_start a t d i) (crossing_from a t d x j) (omega arith) less q in (
        (λ g. band_at_finer a t m (λ c r s x b. BandIsGreen c r s x b) d i j x w (law.0 g)),
        (λ g. law.1 (band_from_finer a t m (λ c r s x b. BandIsGreen c r s x b) d i j x w g)),
      )

  -- a pair runs exactly where m times it runs on the finer grid
  pub pair_finer : (d : Dir) (x : ℤ) (w : ℕ) → RunsOn a t d x w ↔ RunsOn a (finer_base m t) d (x *ℤ pos m) (w * m)
  pair_finer d x w = ((λ g k l. (green_finer d x w k l).0 (g k l)), (λ g k l. (green_finer d x w k l).1 (g k l)))

  pace_change_finer : (d : Dir) (i : ℕ) → pace_change a (finer_base m t) d i ≡ pace_change a t d i *ℚ number m
  pace_change_finer d i =
      rw (run_finer a t m d (i + 1), run_finer a t m d i)
      (apart_times (run t d (i + 1)) (run t d i) (inverse_ℚ (number (distance a d (i + 1)))) (inverse_ℚ (number (distance a d i))) m)

  rise_finer : (d : Dir) (i : ℕ) (x : ℚ) → (pace_change a t d i ≤ℚ (x *ℚ number t.grid)) ↔ (pace_change a (finer_base m t) d i ≤ℚ (x *ℚ number (t.grid * m)))
  rise_finer d i x = rw (pace_change_finer d i, limit_times x t.grid m) (times_le (pace_change a t d i) (x *ℚ number t.grid) m q)

  drop_finer : (d : Dir) (i : ℕ) (x : ℚ) → ((x *ℚ number t.grid) ≤ℚ pace_change a t d i) ↔ ((x *ℚ number (t.grid * m)) ≤ℚ pace_change a (finer_base m t) d i)
  drop_finer d i x = rw (pace_change_finer d i, limit_times x t.grid m) (times_le (x *ℚ number t.grid) (pace_change a t d i) m q)

  cycle_least_finer : ((a.head.cycle.least *ℚ number t.grid) ≤ℚ number (cycle a t)) ↔ ((a.head.cycle.least *ℚ number (t.grid * m)) ≤ℚ number (cycle a (finer_base m t)))
  cycle_least_finer = rw (cycle_finer a t m) (least_finer a.head.cycle.least t.grid (cycle a t) m q)

  cycle_most_finer : (number (cycle a t) ≤ℚ (a.head.cycle.most *ℚ number t.grid)) ↔ (number (cycle a (finer_base m t)) ≤ℚ (a.head.cycle.most *ℚ number (t.grid * m)))
  cycle_most_finer = rw (cycle_finer a t m) (most_finer a.head.cycle.most t.grid (cycle a t) m q)

  fast_finer : (d : Dir) (i : ℕ) → ((run_low a d i *ℚ number t.grid) ≤ℚ number (run t d i)) ↔ ((run_low a d i *ℚ number (t.grid * m)) ≤ℚ number (run (finer_base m t) d i))
  fast_finer d i = rw (run_finer a t m d i) (least_finer (run_low a d i) t.grid (run t d i) m q)

  slow_finer : (d : Dir) (i : ℕ) → (number (run t d i) ≤ℚ (run_high a d i *ℚ number t.grid)) ↔ (number (run (finer_base m t) d i) ≤ℚ (run_high a d i *ℚ number (t.grid * m)))
  slow_finer d i = rw (run_finer a t m d i) (most_finer (run_high a d i) t.grid (run t d i) m q)

  rises_finer : (d : Dir) (i : ℕ) → IfSome (change a d i) (λ (c : Pair). pace_change a t d i ≤ℚ (c.most *ℚ number t.grid)) ↔ IfSome (change a d i)
      (λ (c : Pair). pace_change a (finer_base m t) d i ≤ℚ (c.most *ℚ number (t.grid * m)))
  rises_finer d i = if_some_both (change a d i) _ _ (λ (c : Pair). rise_finer d i c.most)

  drops_finer : (d : Dir) (i : ℕ) → IfSome (change a d i) (λ (c : Pair). (c.least *ℚ number t.grid) ≤ℚ pace_change a t d i) ↔ IfSome (change a d i)
      (λ (c : Pair). (c.least *ℚ number (t.grid * m)) ≤ℚ pace_change a (finer_base m t) d i)
  drops_finer d i = if_some_both (change a d i) _ _ (λ (c : Pair). drop_finer d i c.least)

  formed_finer : IsBaseRecord t → IsBaseRecord (finer_base m t)
  formed_finer p = record {
    grid = let e = mul-le-mul_right m p.grid in omega (arith, e);
    unit = let e = mul-le-mul_right m p.unit in omega (arith, e);
    reds = length-map t.reds (λ z. z *ℤ pos m) ∙ p.reds;
    run_out = ap (λ n. n + 1) (length-map t.run_out (λ n. n * m)) ∙ p.run_out;
    run_in = ap (λ n. n + 1) (length-map t.run_in (λ n. n * m)) ∙ p.run_in;
  }

  grid_above : (g : ℕ) → 1 ≤ g * m → 1 ≤ g
  grid_above zero e = absurd (let z = zero-mul m in omega (arith, e, z))
  grid_above (suc g) e = omega arith

  formed_coarser : IsBaseRecord (finer_base m t) → IsBaseRecord t
  formed_coarser p = record {
    grid = grid_above t.grid p.grid;
    unit = u;
    reds = sym (length-map t.reds (λ z. z *ℤ pos m)) ∙ p.reds;
    run_out = ap (λ n. n + 1) (sym (length-map t.run_out (λ n. n * m))) ∙ p.run_out;
    run_in = ap (λ n. n + 1) (sym (length-map t.run_in (λ n. n * m))) ∙ p.run_in;
  }

  link_finer : (r : LinkRule) (d : Dir) (i : ℕ) → LinkHolds a t r d i ↔ LinkHolds a (finer_base m t) r d i
  link_finer rule.Fast d i = fast_finer d i
  link_finer rule.Slow d i = slow_finer d i
  link_finer rule.Rise d i = (λ h k. (rises_finer d i).0 (h k), λ h k. (rises_finer d i).1 (h k))
  link_finer rule.Drop d i = (λ h k. (drops_finer d i).0 (h k), λ h k. (drops_finer d i).1 (h k))

  base_finer : IsBase a t → IsBase a (finer_base m t)
  base_finer b = base_by a t (finer_base m t) b (formed_finer b.formed) b.shape b.patterns (cycle_least_finer.0 b.cycle_least) (cycle_most_finer.0 b.cycle_most) (λ r d i. (link_finer r d i).0)

  base_coarser : IsBase a (finer_base m t) → IsBase a t
  base_coarser b = base_by a (finer_base m t) t b (formed_coarser b.formed) b.shape b.patterns (cycle_least_finer.1 b.cycle_least) (cycle_most_finer.1 b.cycle_most) (λ r d i. (link_finer r d i).1)

  pub base_both : IsBase a t ↔ IsBase a (finer_base m t)
  base_both = (base_finer, base_coarser)

module _ (a : Street) (t : TimingRecord) (m : ℕ) (h : IsValid a) (u : 2 ≤ t.unit) (q : 1 ≤ m) where
  way_finer : (d : Dir) → IsGreenWay a t d ↔ IsGreenWay a (finer m t) d
  way_finer Outbound = pair_finer a (base t) m h u q Outbound t.first_out t.band_out
  way_finer Inbound = pair_finer a (base t) m h u q Inbound t.first_in t.band_in

  least_band_finer : (d : Dir) → HasLeastBand a t d ↔ HasLeastBand a (finer m t) d
  least_band_finer Outbound = rw (cycle_finer a (base t) m) (least_finer (least_band a Outbound) (cycle a (base t)) t.band_out m q)
  least_band_finer Inbound = rw (cycle_finer a (base t) m) (least_finer (least_band a Inbound) (cycle a (base t)) t.band_in m q)

  equal_coarser : HasEqualBands a (finer m t) → HasEqualBands a t
  equal_coarser h e = same_factor t.band_out t.band_in m q (h e)

  pub finer_law : Good a t ↔ Good a (finer m t)
  finer_law = (
    (λ g. record {
      base = (base_both a (base t) m h u q).0 g.base;
      ratio = (ratio_finer a.head.ratio t.band_out t.band_in m q).0 g.ratio;
      least = λ d. (least_band_finer d).0 (g.least d);
      equal = λ e. ap (λ b. b * m) (g.equal e);
      outbound = (way_finer Outbound).0 g.outbound;
      inbound = (way_finer Inbound).0 g.inbound;
    }),
    (λ g. record {
      base = (base_both a (base t) m h u q).1 g.base;
      ratio = (ratio_finer a.head.ratio t.band_out t.band_in m q).1 g.ratio;
      least = λ d. (least_band_finer d).1 (g.least d);
      equal = equal_coarser g.equal;
      outbound = (way_finer Outbound).1 g.outbound;
      inbound = (way_finer Inbound).1 g.inbound;
    }),
  )
