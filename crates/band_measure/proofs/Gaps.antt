-- A green band lies in a gap: after the end of a red, and before the start of the next.
use Rattle.std.proofs.Common.{◌≡◌, ℕ, zero, suc, ℤ, pos, ◌+ℤ◌, ◌-ℤ◌, ◌*ℤ◌, ◌+◌, ◌-◌, ◌*◌, ◌<◌, ◌≤◌, sym, subst, arith, inl, inr}
use Rattle.std.proofs.lemmas.Bool.{cases_lt}
use Rattle.std.proofs.lemmas.Int.{ints}
use Rattle.rational_theory.proofs.Integers.{*ℤ_assoc}
use Rattle.progression.specs.Green.{since, BandIsGreen}
use Rattle.progression.proofs.Remainders.{quot_ℤ, split_ℤ, mod_unique}
use Rattle.time_space.proofs.Scale.{minus_scale}
use Rattle.time_space.proofs.FinerGrids.{plus_scale}
use Rattle.progression.proofs.Fits.{Fits, fits_from_band, band_from_fits}

-- whole factors one after the other
pub times_times : (x : ℤ) (c m : ℕ) → x *ℤ pos (c * m) ≡ (x *ℤ pos c) *ℤ pos m
times_times x c m = sym (*ℤ_assoc x (pos c) (pos m))

-- ---- gaps
-- The band begins some ticks after the start of a red, which is then over, and ends before the next start.
pub record Gap (c : ℕ) (s : ℤ) (red : ℕ) (x : ℤ) (b : ℕ) : Type 0 where
  pub turns : ℤ
  pub after : ℕ
  pub place : x ≡ s +ℤ turns *ℤ pos c +ℤ pos after
  pub free : red ≤ after
  pub within : after + b ≤ c

module _ (c red : ℕ) (s x : ℤ) (b : ℕ) (h : 2 ≤ red) (k : red < c) where
  pub gap_from_green : BandIsGreen c s red x b → Gap c s red x b
  gap_from_green g =
      let f = fits_from_band c red s x b h k g in
      let e = split_ℤ (x -ℤ s) c (omega arith) in
      let one = minus_scale (quot_ℤ (x -ℤ s) c) (pos 1) c in
      let within = f.room in
      elim f.free [
        | inl z ↦ let y = z.0 in let w = z.1 in record {
          turns = quot_ℤ (x -ℤ s) c -ℤ pos 1;
          after = c;
          place = omega (arith, ints, e, one, y);
          free = omega arith;
          within = omega (arith, w);
        }
        | inr w ↦ record {
          turns = quot_ℤ (x -ℤ s) c;
          after = since c s x;
          place = omega (arith, ints, e);
          free = w;
          within = f.room;
        }
      ]

  pub green_from_gap : Gap c s red x b → BandIsGreen c s red x b
  green_from_gap g =
      let p = g.place in
      let within = g.within in
      let free = g.free in
      elim (cases_lt g.after c) [
        | inl l ↦ let e : since c s x ≡ g.after = mod_unique (x -ℤ s) g.turns c g.after (omega (arith, ints, p)) l in
            band_from_fits c red s x b h k (subst (λ r. Fits c red r b) (sym e) (record { free = inr free; room = within }))
        | inr l ↦ let one = plus_scale g.turns (pos 1) c in
            let n : g.after ≡ c = omega arith in
            let e : since c s x ≡ 0 = mod_unique (x -ℤ s) (g.turns +ℤ pos 1) c 0 (omega (arith, ints, p, one, n)) (omega arith) in
            band_from_fits c red s x b h k (subst (λ r. Fits c red r b) (sym e) (record { free = inl (let q : 0 ≡ 0 = omega arith in q, let q : b ≡ 0 = omega arith in q); room = omega arith }))
      ]

module _ (c red : ℕ) (s x : ℤ) (b : ℕ) (g : Gap c s red x b) where
  -- wider to the left, as far as the end of the red
  pub gap_back : (back : ℕ) → red + back ≤ g.after → Gap c s red (x -ℤ pos back) (b + back)
  gap_back back h = let p = g.place in let r = g.within in record {
    turns = g.turns;
    after = g.after - back;
    place = omega (arith, ints, p, h);
    free = omega (arith, h);
    within = omega (arith, r, h);
  }

  pub gap_narrow : (w : ℕ) → w ≤ b → Gap c s red x w
  gap_narrow w h = let r = g.within in record { turns = g.turns; after = g.after; place = g.place; free = g.free; within = omega arith }

  -- some cycles away
  pub gap_turn : (y k : ℤ) → y ≡ x +ℤ k *ℤ pos c → Gap c s red y b
  gap_turn y k e = let p = g.place in let q = plus_scale g.turns k c in record {
    turns = g.turns +ℤ k;
    after = g.after;
    place = omega (arith, ints, e, p, q);
    free = g.free;
    within = g.within;
  }

  -- the red and the line as much later
  pub gap_later : (r y w : ℤ) → r ≡ s +ℤ w → y ≡ x +ℤ w → Gap c r red y b
  gap_later r y w e f = let p = g.place in record { turns = g.turns; after = g.after; place = omega (arith, ints, p, e, f); free = g.free; within = g.within }

-- less wide to the left
pub gap_forth : (c red : ℕ) (s x : ℤ) (b more less : ℕ) → less ≤ more → Gap c s red (x -ℤ pos more) (b + more) → Gap c s red (x -ℤ pos less) (b + less)
gap_forth c red s x b more less h g = let p = g.place in let f = g.free in let r = g.within in record {
  turns = g.turns;
  after = g.after + (more - less);
  place = omega (arith, ints, p, h);
  free = omega arith;
  within = omega (arith, r, h);
}

-- ---- widened until a red ends
pub last_too : (P : ℕ → Type 0) (n : ℕ) → ((k : ℕ) → k < n → P k) → P n → (k : ℕ) → k < suc n → P k
last_too P n f p k l = elim (cases_lt k n) [ inl h ↦ f k h | inr h ↦ let e : n ≡ k = omega arith in subst P e p ]

module _ (c : ℕ) (s : ℕ → ℤ) (red : ℕ → ℕ) (x : ℤ) (b : ℕ) where
  -- the band widened to the left until it begins at the end of a red, at one of n signals, and still lies in all gaps
  pub record Touch (n : ℕ) : Type 0 where
    pub at : ℕ
    pub on : at < n
    pub back : ℕ
    pub turns : ℤ
    pub ends : x ≡ s at +ℤ pos (red at) +ℤ turns *ℤ pos c +ℤ pos back
    pub gaps : (k : ℕ) → k < n → Gap c (s k) (red k) (x -ℤ pos back) (b + back)

  touch_new : (n : ℕ) (g : Gap c (s n) (red n) x b) → ((k : ℕ) → k < n → Gap c (s k) (red k) (x -ℤ pos (g.after - red n)) (b + (g.after - red n))) → Touch (suc n)
  touch_new n g h = let p = g.place in let f = g.free in record {
    at = n;
    on = omega arith;
    back = g.after - red n;
    turns = g.turns;
    ends = omega (arith, ints, p, f);
    gaps = last_too (λ k. Gap c (s k) (red k) (x -ℤ pos (g.after - red n)) (b + (g.after - red n))) n h (gap_back c (red n) (s n) x b g (g.after - red n) (omega arith));
  }

  touch_more : (n : ℕ) → Touch n → Gap c (s n) (red n) x b → Touch (suc n)
  touch_more n t g = elim (cases_lt g.after (red n + t.back)) [
    | inl l ↦ touch_new n g (λ k h. gap_forth c (red k) (s k) x b t.back (g.after - red n) (omega arith) (t.gaps k h))
    | inr l ↦ let o = t.on in record {
      at = t.at;
      on = omega arith;
      back = t.back;
      turns = t.turns;
      ends = t.ends;
      gaps = last_too (λ k. Gap c (s k) (red k) (x -ℤ pos t.back) (b + t.back)) n t.gaps (gap_back c (red n) (s n) x b g t.back l);
    }
  ]

  touches : (n : ℕ) → ((k : ℕ) → k < suc n → Gap c (s k) (red k) x b) → Touch (suc n)
  touches zero g = touch_new 0 (g 0 (omega arith)) (λ k h. absurd (omega arith))
  touches (suc n) g = touch_more (suc n) (touches n (λ k h. g k (omega arith))) (g (suc n) (omega arith))

  pub touch : (n : ℕ) → 0 < n → ((k : ℕ) → k < n → Gap c (s k) (red k) x b) → Touch n
  touch zero h g = absurd (omega arith)
  touch (suc n) h g = touches n g
