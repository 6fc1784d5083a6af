-- The widest band whose first line crosses one signal at a tick, and the widest of a way.
use Rattle.std.proofs.Common.{◌≡◌, ℕ, ℤ, ◌+ℤ◌, ◌+◌, ◌-◌, ◌<◌, ◌≤◌, inl, inr, subst, arith}
use Rattle.std.proofs.lemmas.Bool.{cases_lt}
use Rattle.progression.specs.Street.{Street, count}
use Rattle.progression.specs.BaseRecord.{BaseRecord, cycle}
use Rattle.progression.specs.Green.{since, BandIsGreen, red_start, red_ticks}
use Rattle.progression.specs.Lines.{stop, crossing_from, IsGreenFrom, RunsOn}
use Rattle.progression.proofs.Fits.{fits_from_band, band_from_fits}
use Rattle.progression.specs.declared.parts.Dir.{Dir}
use Rattle.artery_model.specs.Valid.{IsValid}
use Rattle.band_measure.specs.Widths.{IsWidestGreen, IsWidestAt, IsWidestFrom}
use Rattle.band_measure.proofs.Lines.{gaps_of}

-- ---- at one signal, by the ticks since the start of its red
module _ (c red r : ℕ) (s x : ℤ) (h : 2 ≤ red) (k : red < c) (e : r ≡ since c s x) where
  pub none_in_red : ¬ (r ≡ 0) → r < red → (b : ℕ) → ¬ BandIsGreen c s red x b
  none_in_red p l b g = elim (fits_from_band c red s x b h k g).free [
    | inl z ↦ let y = z.0 in p (omega (arith, e, y))
    | inr w ↦ omega (arith, e, w)
  ]

  pub line_at_red : r ≡ 0 → IsWidestGreen c s red x 0
  line_at_red z = record {
    green = band_from_fits c red s x 0 h k (record { free = inl ((let p : since c s x ≡ 0 = omega (arith, e) in p), (let q : 0 ≡ 0 = omega arith in q)); room = omega (arith, e) });
    most = λ b g. elim (fits_from_band c red s x b h k g).free [ inl y ↦ let w = y.1 in omega arith | inr w ↦ absurd (omega (arith, e, w)) ];
  }

  pub rest_of_green : red ≤ r → r < c → IsWidestGreen c s red x (c - r)
  rest_of_green p l = record {
    green = band_from_fits c red s x (c - r) h k (record { free = inr (omega (arith, e)); room = omega (arith, e) });
    most = λ b g. let within = (fits_from_band c red s x b h k g).room in omega (arith, e, within);
  }

-- a narrower band of the same first line is green too
pub narrower : (c : ℕ) (s : ℤ) (red : ℕ) (x : ℤ) (b w : ℕ) → w ≤ b → BandIsGreen c s red x b → BandIsGreen c s red x w
narrower c s red x b w l g = λ t k. g t (omega arith)

-- ---- along the way
module _ (a : Street) (t : BaseRecord) (d : Dir) (x : ℤ) where
  pub narrower_from : (b w j : ℕ) → w ≤ b → IsGreenFrom a t d x b j → IsGreenFrom a t d x w j
  narrower_from b w j l g = narrower (cycle a t) (red_start a t d (stop d (count a) j)) (red_ticks a t d (stop d (count a) j)) (crossing_from a t d x j) b w l g

  -- the lesser width is green at one signal more
  pub walk_green : (n band here less : ℕ) → less ≤ band → less ≤ here → ((k : ℕ) → k < n → IsGreenFrom a t d x band k) → IsWidestAt a t d x n here
      → (k : ℕ) → k < n + 1 → IsGreenFrom a t d x less k
  walk_green n band here less p q g r k l = elim (cases_lt k n) [
    | inl h ↦ narrower_from band less k p (g k h)
    | inr h ↦ let e : n ≡ k = omega arith in subst (λ j. IsGreenFrom a t d x less j) e (narrower_from here less n q r.green)
  ]

  -- where one signal has no green no band runs
  pub none_from : (n : ℕ) → n < count a → ((b : ℕ) → ¬ IsGreenFrom a t d x b n) → (b : ℕ) → ¬ RunsOn a t d x b
  none_from n l f b g = f b (g n l)

  pub widest_from : IsValid a → 2 ≤ t.unit → (band : ℕ) → ((k : ℕ) → k < count a → IsGreenFrom a t d x band k)
      → ((b : ℕ) → b ≤ cycle a t → ((k : ℕ) → k < count a → IsGreenFrom a t d x b k) → b ≤ band) → IsWidestFrom a t d x band
  widest_from h u band g most = record {
    runs = g;
    most = λ b r.
        let some : 0 < count a = let n = h.few in omega arith in
        let gap = gaps_of a t h u d x b r 0 some in
        let within = gap.within in
        most b (omega arith) r;
  }
