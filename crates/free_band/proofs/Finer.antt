-- Finer grids bring nothing: what runs there, moved to the left, begins everywhere at whole ticks of this grid.
use Rattle.std.proofs.Common.{◌≡◌, ℕ, zero, suc, ℤ, pos, negsuc, ◌+ℤ◌, ◌-ℤ◌, ◌*ℤ◌, ◌+◌, ◌*◌, ◌<◌, ◌≤◌, refl, arith, true, false, Option, None, Some, mul-pos}
use Rattle.std.specs.Prelude.{◌≤ℤ◌, ◌<ℤ◌, nat_le, if◌then◌else◌, MatchOption}
use Rattle.std.proofs.Math.Nat.{mul-le-mul_left, mul-le-mul_right}
use Rattle.std.proofs.lemmas.Int.{ints, by_lt_z}
use Rattle.progression.specs.Green.{BandIsGreen}
use Rattle.time_space.proofs.Scale.{minus_scale}
use Rattle.time_space.proofs.FinerGrids.{plus_scale}
use Rattle.band_measure.proofs.Gaps.{times_times, gap_narrow, gap_from_green, green_from_gap}
use Rattle.band_measure.proofs.Coarse.{Enough, enough_of, coarse_gap}
use Rattle.free_band.specs.Way.{Way, IsProper, Runs, NoneRunsFiner, IsWidestFiner, finer}
use Rattle.free_band.specs.Rays.{slowest, ray, Step, Chain}
use Rattle.free_band.specs.Cells.{IsBest, NoBest, BestOf}
use Rattle.free_band.specs.declared.way.FreeBand.{FreeBand}
use Rattle.free_band.proofs.Push.{Moved, moved_left, step_of}

-- ---- a positive factor cancels
untimes : (x y : ℤ) (m : ℕ) → 0 < m → (x *ℤ pos m) ≤ℤ (y *ℤ pos m) → x ≤ℤ y
untimes x y m q h = by_lt_z y x (λ l. above (x -ℤ y) refl l (minus_scale x y m)) (λ l. l) where
  above : (z : ℤ) → x -ℤ y ≡ z → y <ℤ x → x *ℤ pos m -ℤ y *ℤ pos m ≡ z *ℤ pos m → x ≤ℤ y
  above (pos n) i l e = let p : 0 < n * m = mul-pos (let some : 0 < n = omega (arith, ints, i, l) in some) q in absurd (omega (arith, ints, e, h, p))
  above (negsuc n) i l e = absurd (omega (arith, ints, i, l))

-- ---- the finer way
module _ (w : Way) (v : IsProper w) (m : ℕ) (q : 1 ≤ m) where
  red_finer : (i : ℕ) → i < w.count → 2 ≤ w.red i * m
  red_finer i h = let two = v.inside i h in let e : w.red i * 1 ≤ w.red i * m = mul-le-mul_left (w.red i) q in omega (arith, e)

  short_finer : (i : ℕ) → i < w.count → w.red i * m < w.cycle * m
  short_finer i h = let s = v.shorter i h in grind arith

  pub finer_proper : IsProper (finer m w)
  finer_proper = record { some = v.some; inside = red_finer; shorter = short_finer; ordered = λ i h. mul-le-mul_right m (v.ordered i h) }

  slowest_finer : (j : ℕ) → slowest (finer m w) j ≡ slowest w j *ℤ pos m
  slowest_finer zero = omega (arith, ints)
  slowest_finer (suc j) =
      let e = slowest_finer j in
      let f = minus_scale (pos (w.most j)) (pos (w.clear j)) m in
      let g = plus_scale (slowest w j) (pos (w.most j) -ℤ pos (w.clear j)) m in
      omega (arith, ints, e, f, g)

  choice_finer : (j i : ℕ) → (if nat_le j i then w.least i * m else w.most i * m) ≡ (if nat_le j i then w.least i else w.most i) * m
  choice_finer j i = elim (nat_le j i) as (λ b. (if b then w.least i * m else w.most i * m) ≡ (if b then w.least i else w.most i) * m) [ true ↦ refl | false ↦ refl ]

  ray_finer : (j i : ℕ) → ray (finer m w) j i ≡ ray w j i *ℤ pos m
  ray_finer j zero =
      let e = slowest_finer j in
      let f = plus_scale (w.start j) (pos (w.red j)) m in
      let g = minus_scale (w.start j +ℤ pos (w.red j)) (slowest w j) m in
      omega (arith, ints, e, f, g)
  ray_finer j (suc i) =
      let run = if nat_le j i then w.least i else w.most i in
      let e = ray_finer j i in
      let c = choice_finer j i in
      let f = minus_scale (pos run) (pos (w.clear i)) m in
      let g = plus_scale (ray w j i) (pos run -ℤ pos (w.clear i)) m in
      omega (arith, ints, e, c, f, g)

  -- ---- the chain of the finer grid, on this one
  module _ (i b : ℕ) (on : i < w.count) (c : Moved (finer m w) i b) where
    abbrev coarse : ℕ → ℤ
    coarse k = ray w (c.by k) k +ℤ c.turns k *ℤ pos w.cycle

    coarse_times : (k : ℕ) → c.x k ≡ coarse k *ℤ pos m
    coarse_times k =
        let e = c.is k in
        let r = ray_finer (c.by k) k in
        let t = times_times (c.turns k) w.cycle m in
        let p = plus_scale (ray w (c.by k) k) (c.turns k *ℤ pos w.cycle) m in
        omega (arith, ints, e, r, t, p)

    least_width : Enough b m
    least_width = enough_of b m q

    green_coarse : (k : ℕ) → k ≤ i → BandIsGreen w.cycle (w.start k) (w.red k) (coarse k) least_width.width
    green_coarse k h =
        let l : k < w.count = omega arith in
        let g = gap_from_green (w.cycle * m) (w.red k * m) (w.start k *ℤ pos m) (c.x k) b (red_finer k l) (short_finer k l) (c.chain.green k h) in
        let e = coarse_times k in
        let r = coarse_gap w.cycle (w.red k) m b (w.start k) (coarse k) (pos 0) q (c.x k) (omega (arith, ints, e)) g in
        green_from_gap w.cycle (w.red k) (w.start k) (coarse k) least_width.width (v.inside k l) (v.shorter k l)
        (gap_narrow w.cycle (w.red k) (w.start k) (coarse k) r.width r.gap least_width.width (least_width.least r.width r.enough))

    step_coarse : (k : ℕ) → k < i → Step w k (coarse k) (coarse (suc k))
    step_coarse k h =
        let s = c.chain.step k h in
        let is = s.is in
        let least = s.least in
        let most = s.most in
        let e = coarse_times k in
        let f = coarse_times (suc k) in
        let low = minus_scale (pos (w.least k)) (pos (w.clear k)) m in
        let high = minus_scale (pos (w.most k)) (pos (w.clear k)) m in
        let from = plus_scale (coarse k) (pos (w.least k) -ℤ pos (w.clear k)) m in
        let to = plus_scale (coarse k) (pos (w.most k) -ℤ pos (w.clear k)) m in
        step_of w k (coarse k) (coarse (suc k))
        (untimes (coarse k +ℤ (pos (w.least k) -ℤ pos (w.clear k))) (coarse (suc k)) m q (omega (arith, ints, is, least, e, f, low, from)))
        (untimes (coarse (suc k)) (coarse k +ℤ (pos (w.most k) -ℤ pos (w.clear k))) m q (omega (arith, ints, is, most, e, f, high, to)))

    chain_coarse : Chain w i coarse c.by least_width.width
    chain_coarse = record {
      on = c.chain.on;
      place = λ k h. record { turns = c.turns k; is = refl };
      step = step_coarse;
      green = green_coarse;
    }

  -- a chain on this grid for what runs on the finer one
  pub record Coarse (i b : ℕ) : Type 0 where
    pub x : ℕ → ℤ
    pub by : ℕ → ℕ
    pub width : ℕ
    pub enough : b ≤ width * m
    pub chain : Chain w i x by width

  pub coarse_of : (i : ℕ) → i < w.count → (first : ℤ) (run : ℕ → ℕ) (b : ℕ) → Runs (finer m w) first run b → Coarse i b
  coarse_of i on first run b g =
      let c = moved_left (finer m w) finer_proper first run b g i on in
      record { x = coarse i b on c; by = c.by; width = (least_width i b on c).width; enough = (least_width i b on c).enough; chain = chain_coarse i b on c }

-- ---- the widest of all grids
none_finer : (w : Way) (v : IsProper w) (i : ℕ) → i + 1 ≡ w.count → NoBest w i w.count → NoneRunsFiner w
none_finer w v i e none m q first run b g =
    let c = coarse_of w v m q i (omega (arith, e)) first run b g in
    none c.x c.by c.width c.chain (c.chain.on i (omega arith))

widest_finer : (w : Way) (v : IsProper w) (i : ℕ) (f : FreeBand) → i + 1 ≡ w.count → IsBest w i w.count f → IsWidestFiner w f.band
widest_finer w v i f e h m first run b q g =
    let c = coarse_of w v m q i (omega (arith, e)) first run b g in
    let most : c.width ≤ f.band = h.most c.x c.by c.width c.chain (c.chain.on i (omega arith)) in
    let wide : c.width * m ≤ f.band * m = mul-le-mul_right m most in
    let enough = c.enough in
    omega (arith, wide, enough)

pub found_finer : (w : Way) (v : IsProper w) (i : ℕ) (best : Option FreeBand) → i + 1 ≡ w.count → BestOf w i w.count best → MatchOption best (NoneRunsFiner w) (λ f. IsWidestFiner w f.band)
found_finer w v i None e h = none_finer w v i e h
found_finer w v i (Some f) e h = widest_finer w v i f e h
