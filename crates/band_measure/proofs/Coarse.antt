-- What a line at the end of a red finds on a finer grid, it finds here.
use Rattle.std.proofs.Common.{◌≡◌, ℕ, zero, suc, ℤ, pos, negsuc, ◌+ℤ◌, ◌-ℤ◌, ◌*ℤ◌, ◌+◌, ◌-◌, ◌*◌, ◌<◌, ◌≤◌, refl, ap, arith, inl, inr, mul-pos}
use Rattle.std.proofs.Math.Nat.{le_of_mul-le-mul_right, mul-le-mul_right}
use Rattle.std.proofs.lemmas.Bool.{cases_lt}
use Rattle.std.proofs.lemmas.Int.{ints}
use Rattle.time_space.proofs.Scale.{minus_scale}
use Rattle.time_space.proofs.FinerGrids.{plus_scale}
use Rattle.band_measure.proofs.Gaps.{times_times, Gap, gap_narrow, Touch, touch}

-- ---- the least multiple that is enough
pub record Enough (b m : ℕ) : Type 0 where
  pub width : ℕ
  pub enough : b ≤ width * m
  pub least : (w : ℕ) → b ≤ w * m → width ≤ w

enough_more : (b m : ℕ) → 0 < m → Enough b m → Enough (suc b) m
enough_more b m q e = let h = e.enough in elim (cases_lt b (e.width * m)) [
  | inl l ↦ record { width = e.width; enough = omega (arith, l); least = λ w k. e.least w (omega (arith, k)) }
  | inr l ↦ record {
    width = suc e.width;
    enough = omega (arith, h);
    least = λ w k. let g : e.width ≤ w = e.least w (omega (arith, k)) in
        elim (cases_lt e.width w) [ inl o ↦ omega arith | inr o ↦ let f : w * m ≤ e.width * m = mul-le-mul_right m o in absurd (omega (arith, f, k, l)) ];
  }
]

pub enough_of : (b m : ℕ) → 0 < m → Enough b m
enough_of zero m q = record { width = 0; enough = omega arith; least = λ w k. omega arith }
enough_of (suc b) m q = enough_more b m q (enough_of b m q)

-- ---- one gap
record Whole (z : ℤ) (m v : ℕ) : Type 0 where
  pub part : ℕ
  pub is : z ≡ pos part
  pub times : part * m ≡ v

whole_part : (z : ℤ) (m v : ℕ) → 0 < m → z *ℤ pos m ≡ pos v → Whole z m v
whole_part (pos a) m v q e = record { part = a; is = refl; times = omega (arith, ints, e) }
whole_part (negsuc a) m v q e = let p : 0 < suc a * m = mul-pos (omega arith) q in absurd (omega (arith, ints, e, p))

-- a gap on the finer grid, at a line that is m times one of this grid, some cycles away
module _ (c red m b : ℕ) (s e turns : ℤ) (q : 0 < m) where
  pub record CoarseGap : Type 0 where
    pub width : ℕ
    pub enough : b ≤ width * m
    pub gap : Gap c s red e width

  abbrev parted : ℤ → ℤ
  parted own = (e -ℤ s) +ℤ (turns -ℤ own) *ℤ pos c

  parted_times : (own x : ℤ) (after : ℕ) → x ≡ e *ℤ pos m +ℤ turns *ℤ pos (c * m) → x ≡ s *ℤ pos m +ℤ own *ℤ pos (c * m) +ℤ pos after → parted own *ℤ pos m ≡ pos after
  parted_times own x after f g =
      let one = plus_scale (e -ℤ s) ((turns -ℤ own) *ℤ pos c) m in
      let two = minus_scale e s m in
      let three = times_times (turns -ℤ own) c m in
      let four = minus_scale turns own (c * m) in
      omega (arith, ints, f, g, one, two, three, four)

  coarse_from : (own : ℤ) (after : ℕ) (w : Whole (parted own) m after) → red * m ≤ after → after + b ≤ c * m → CoarseGap
  coarse_from own after w f r =
      let a = w.part in
      let t = w.times in
      let i = w.is in
      let few : a ≤ c = let y : a * m ≤ c * m = omega (arith, t, r) in le_of_mul-le-mul_right y q in
      let split : (c - a) + a ≡ c = omega arith in
      let scaled = ap (λ n. n * m) split in
      let back = minus_scale own turns c in
      let forth = minus_scale turns own c in
      record {
        width = c - a;
        enough = omega (arith, t, r, scaled);
        gap = record {
          turns = own -ℤ turns;
          after = a;
          place = omega (arith, ints, i, back, forth);
          free = let y : red * m ≤ a * m = omega (arith, t, f) in le_of_mul-le-mul_right y q;
          within = omega arith;
        };
      }

  pub coarse_gap : (x : ℤ) → x ≡ e *ℤ pos m +ℤ turns *ℤ pos (c * m) → Gap (c * m) (s *ℤ pos m) (red * m) x b → CoarseGap
  coarse_gap x f g = coarse_from g.turns g.after (whole_part (parted g.turns) m g.after q (parted_times g.turns x g.after f g.place)) g.free g.within

cancel : (b w m : ℕ) → 0 < m → b * m ≤ w * m → b ≤ w
cancel b w m q h = le_of_mul-le-mul_right h q

-- a gap m times as large
pub gap_times : (c red m b : ℕ) (s x : ℤ) → Gap c s red x b → Gap (c * m) (s *ℤ pos m) (red * m) (x *ℤ pos m) (b * m)
gap_times c red m b s x g =
    let p = ap (λ z. z *ℤ pos m) g.place in
    let one = plus_scale (s +ℤ g.turns *ℤ pos c) (pos g.after) m in
    let two = plus_scale s (g.turns *ℤ pos c) m in
    let three = times_times g.turns c m in
    record {
      turns = g.turns;
      after = g.after * m;
      place = omega (arith, ints, p, one, two, three);
      free = mul-le-mul_right m g.free;
      within = let e = mul-le-mul_right m g.within in omega (arith, e);
    }

pub gap_untimed : (c red m b : ℕ) (s x : ℤ) → 0 < m → Gap (c * m) (s *ℤ pos m) (red * m) (x *ℤ pos m) (b * m) → Gap c s red x b
gap_untimed c red m b s x q g =
    let r = coarse_gap c red m (b * m) s x (pos 0) q (x *ℤ pos m) (omega (arith, ints)) g in
    gap_narrow c red s x r.width r.gap b (cancel b r.width m q r.enough)

-- ---- all gaps
module _ (c m : ℕ) (s : ℕ → ℤ) (red : ℕ → ℕ) (x : ℤ) (b : ℕ) where
  -- Widened to the left the band begins at the end of a red of one of n signals. There, on this grid, begins a band of this
  -- width, which m times is at least as wide.
  pub record Reach (n : ℕ) : Type 0 where
    pub touch : Touch (c * m) (λ k. s k *ℤ pos m) (λ k. red k * m) x b n
    pub width : ℕ
    pub wide : b + touch.back ≤ width * m
    pub gaps : (k : ℕ) → k < n → Gap c (s k) (red k) (s touch.at +ℤ pos (red touch.at)) width

  reach_from : (n : ℕ) → 0 < m → Touch (c * m) (λ k. s k *ℤ pos m) (λ k. red k * m) x b n → Reach n
  reach_from n q t =
      let p = plus_scale (s t.at) (pos (red t.at)) m in
      let i = t.ends in
      let least = enough_of (b + t.back) m q in
      record {
        touch = t;
        width = least.width;
        wide = least.enough;
        gaps = λ k h.
            let r = coarse_gap c (red k) m (b + t.back) (s k) (s t.at +ℤ pos (red t.at)) t.turns q (x -ℤ pos t.back) (omega (arith, ints, p, i)) (t.gaps k h) in
            gap_narrow c (red k) (s k) (s t.at +ℤ pos (red t.at)) r.width r.gap least.width (least.least r.width r.enough);
      }

  pub reach : (n : ℕ) → 0 < n → 0 < m → ((k : ℕ) → k < n → Gap (c * m) (s k *ℤ pos m) (red k * m) x b) → Reach n
  reach n p q g = reach_from n q (touch (c * m) (λ k. s k *ℤ pos m) (λ k. red k * m) x b n p g)
