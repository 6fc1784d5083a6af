-- What is drawn of reds and bands: places ascend with time, reds have two parts, and a green band stands beside the reds.
use Rattle.std.proofs.Common.{◌≡◌, ℕ, suc, ℤ, pos, negsuc, ◌+ℤ◌, ◌-ℤ◌, ◌*ℤ◌, ◌≤ℤ◌, ◌+◌, ◌-◌, ◌*◌, ◌/◌, ◌<◌, ◌≤◌, subst, arith, inl, inr, le-div_iff_mul-le, mul-pos}
use Rattle.std.specs.Prelude.{◌⊎◌}
use Rattle.std.specs.Int.{int_div_euclid}
use Rattle.std.proofs.lemmas.Int.{ints}
use Rattle.std.proofs.Math.Nat.{mul-le-mul_right}
use Rattle.std.proofs.lemmas.Nat.{div-add-mod'}
use Rattle.progression.specs.Street.{Street, count, red_parts, HasSignal}
use Rattle.progression.specs.TimingRecord.{TimingRecord, base, band}
use Rattle.progression.specs.BaseRecord.{BaseRecord, cycle, common_red}
use Rattle.progression.specs.Green.{BandIsGreen, mod_ℤ, red_start, red_ticks}
use Rattle.progression.specs.Lines.{line_at, IsGreenWay}
use Rattle.progression.specs.declared.parts.Dir.{Dir}
use Rattle.progression.specs.declared.parts.Dir.TheVariants.{Outbound, Inbound}
use Rattle.progression.proofs.Remainders.{quot_ℤ, split_ℤ}
use Rattle.artery_model.specs.Valid.{IsValid}
use Rattle.time_space.proofs.Scale.{minus_scale}
use Rattle.time_space.proofs.FinerGrids.{plus_scale, mul-le, red_bounds}
use Rattle.band_measure.proofs.Gaps.{Gap, gap_from_green}
use Rattle.diagram_draw.specs.declared.frame.Frame.{Frame}
use Rattle.diagram_draw.specs.Frames.{plot_width, x_at, later, IsFrame}
use Rattle.diagram_draw.specs.Bars.{first_red, first_window}
use Rattle.diagram_draw.specs.Laws.{PlacesAscend, BandsMissReds}

-- ---- places
pub div_up : (a b c : ℕ) → 0 < c → a ≤ b → a / c ≤ b / c
div_up a b c h l = (le-div_iff_mul-le h).1 (let e = div-add-mod' a c in omega (arith, e))

quotient_up : (y z : ℤ) (c : ℕ) → 0 < c → y ≤ℤ z → int_div_euclid y (pos c) ≤ℤ int_div_euclid z (pos c)
quotient_up (pos a) (pos b) c h l = let e = div_up a b c h (omega (arith, ints)) in omega (arith, ints, e)
quotient_up (negsuc a) (pos b) c h l = omega (arith, ints)
quotient_up (pos a) (negsuc b) c h l = absurd (omega (arith, ints))
quotient_up (negsuc a) (negsuc b) c h l = let e = div_up b a c h (omega (arith, ints)) in omega (arith, ints, e)

scaled_up : (y z : ℤ) (w : ℕ) → y ≤ℤ z → (y *ℤ pos w) ≤ℤ (z *ℤ pos w)
scaled_up (pos a) (pos b) w l = let e : a * w ≤ b * w = mul-le-mul_right w (let m : a ≤ b = omega (arith, ints, l) in m) in omega (arith, ints, e)
scaled_up (negsuc a) (pos b) w l = omega (arith, ints)
scaled_up (pos a) (negsuc b) w l = absurd (omega (arith, ints, l))
scaled_up (negsuc a) (negsuc b) w l = let e : suc b * w ≤ suc a * w = mul-le-mul_right w (let m : suc b ≤ suc a = omega (arith, ints, l) in m) in omega (arith, ints, e)

pub places_ascend : PlacesAscend
places_ascend f y z h l =
    let some : 0 < f.cycles * f.cycle = mul-pos (let e = h.cycles_least in omega (arith, e)) (let e = h.cycle_least in omega (arith, e)) in
    let e = quotient_up (y *ℤ pos (plot_width f)) (z *ℤ pos (plot_width f)) (f.cycles * f.cycle) some (scaled_up y z (plot_width f) l) in
    omega (arith, ints, e)

-- ---- a red and a band
-- by the whole cycles between them
apart_by : (k w r : ℤ) (c red after b : ℕ) → w ≡ r +ℤ pos after +ℤ k *ℤ pos c → red ≤ after → after + b ≤ c → ((w +ℤ pos b) ≤ℤ r) ⊎ ((r +ℤ pos red) ≤ℤ w)
apart_by (pos k) w r c red after b e l m = inr (omega (arith, ints, e, l))
apart_by (negsuc k) w r c red after b e l m =
    let far : 1 * c ≤ suc k * c = mul-le (let q : 1 ≤ suc k = omega arith in q) (let q : c ≤ c = omega arith in q) in
    inl (omega (arith, ints, e, m, far))

-- a gap, seen in any two cycles from any start
module _ (c red b : ℕ) (s x o : ℤ) (h : 0 < c) (g : Gap c s red x b) (m n : ℕ) where
  moments_apart : ((pos (mod_ℤ (x -ℤ o) c) -ℤ pos (1 * c) +ℤ pos (m * c) +ℤ pos b) ≤ℤ (pos (mod_ℤ (s -ℤ o) c) -ℤ pos (1 * c) +ℤ pos (n * c)))
      ⊎ ((pos (mod_ℤ (s -ℤ o) c) -ℤ pos (1 * c) +ℤ pos (n * c) +ℤ pos red) ≤ℤ (pos (mod_ℤ (x -ℤ o) c) -ℤ pos (1 * c) +ℤ pos (m * c)))
  moments_apart =
      let p = split_ℤ (x -ℤ o) c h in
      let q = split_ℤ (s -ℤ o) c h in
      let qx = quot_ℤ (x -ℤ o) c in
      let qs = quot_ℤ (s -ℤ o) c in
      let one = plus_scale g.turns qs c in
      let two = minus_scale (g.turns +ℤ qs) qx c in
      let three = plus_scale (g.turns +ℤ qs -ℤ qx) (pos m) c in
      let four = minus_scale (g.turns +ℤ qs -ℤ qx +ℤ pos m) (pos n) c in
      let place = g.place in
      apart_by (g.turns +ℤ qs -ℤ qx +ℤ pos m -ℤ pos n) _ _ c red g.after b (omega (arith, ints, p, q, one, two, three, four, place)) g.free g.within

-- the place of a signal in travel order
green_there : (a : Street) (t : TimingRecord) (d : Dir) (i : ℕ) → HasSignal a i → IsGreenWay a t d
    → BandIsGreen (cycle a (base t)) (red_start a (base t) d i) (red_ticks a (base t) d i) (line_at a t d i) (band t d)
green_there a t Outbound i h g =
    let e : i - 1 + 1 ≡ i = let l = h.0 in omega (arith, l) in
    let l : i - 1 < count a = let p = h.0 in let q = h.1 in omega (arith, p, q) in
    subst (λ k. BandIsGreen (cycle a (base t)) (red_start a (base t) Outbound k) (red_ticks a (base t) Outbound k) (line_at a t Outbound i) (band t Outbound)) e (g (i - 1) l)
green_there a t Inbound i h g =
    let e : count a - (count a - i) ≡ i = let l = h.1 in omega (arith, l) in
    let l : count a - i < count a = let p = h.0 in let q = h.1 in omega (arith, p, q) in
    subst (λ k. BandIsGreen (cycle a (base t)) (red_start a (base t) Inbound k) (red_ticks a (base t) Inbound k) (line_at a t Inbound i) (band t Inbound)) e (g (count a - i) l)

mul-lt : {a b c : ℕ} → a < b → 0 < c → a * c < b * c
mul-lt {a} {b} {c} h k = grind arith

-- the gap of a signal's band
pub gap_there : (a : Street) (t : TimingRecord) (d : Dir) (i : ℕ) → IsValid a → 2 ≤ t.unit → HasSignal a i → IsGreenWay a t d
    → Gap (cycle a (base t)) (red_start a (base t) d i) (red_ticks a (base t) d i) (line_at a t d i) (band t d)
gap_there a t d i v u h g =
    let r = red_bounds a v d i (let p = h.0 in let q = h.1 in omega (arith, p, q)) in
    let least : 2 ≤ red_ticks a (base t) d i = let some : 1 * 2 ≤ red_parts a d i * t.unit = mul-le r.0 u in omega (arith, some) in
    let most : red_ticks a (base t) d i < cycle a (base t) = mul-lt r.1 (omega (arith, u)) in
    gap_from_green (cycle a (base t)) (red_ticks a (base t) d i) (red_start a (base t) d i) (line_at a t d i) (band t d) least most (green_there a t d i h g)

-- a red has some tick
pub red_some : (a : Street) (b : BaseRecord) (d : Dir) (i : ℕ) → IsValid a → 2 ≤ b.unit → HasSignal a i → 1 ≤ red_ticks a b d i
red_some a b d i v u h =
    let r = red_bounds a v d i (let p = h.0 in let q = h.1 in omega (arith, p, q)) in
    let some : 1 * 2 ≤ red_parts a d i * b.unit = mul-le r.0 u in
    omega (arith, some)

-- moments that are apart stand apart
apart_drawn : (f : Frame) (w r : ℤ) (red b : ℕ) → IsFrame f → ((w +ℤ pos b) ≤ℤ r) ⊎ ((r +ℤ pos red) ≤ℤ w)
    → (x_at f (w +ℤ pos b) ≤ℤ x_at f r) ⊎ (x_at f (r +ℤ pos red) ≤ℤ x_at f w)
apart_drawn f w r red b h (inl l) = inl (places_ascend f (w +ℤ pos b) r h l)
apart_drawn f w r red b h (inr l) = inr (places_ascend f (r +ℤ pos red) w h l)

pub bands_miss_reds : BandsMissReds
bands_miss_reds f a t d i m n h e v u s g =
    let gap = gap_there a t d i v u s g in
    let some : 0 < cycle a (base t) = let l = h.cycle_least in omega (arith, l, e) in
    let moments : ((later f (first_window f a t d i) m +ℤ pos (band t d)) ≤ℤ later f (first_red f a (base t) d i) n)
    ⊎ ((later f (first_red f a (base t) d i) n +ℤ pos (red_ticks a (base t) d i)) ≤ℤ later f (first_window f a t d i) m)
    = rw e (moments_apart (cycle a (base t)) (red_ticks a (base t) d i) (band t d) (red_start a (base t) d i) (line_at a t d i) (common_red (base t) 1) some gap m n) in
    record {
      apart = apart_drawn f (later f (first_window f a t d i) m) (later f (first_red f a (base t) d i) n) (red_ticks a (base t) d i) (band t d) h moments;
    }
