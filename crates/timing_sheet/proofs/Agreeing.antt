-- What a sheet and the words of a street say of one time are the same numbers.
use Rattle.std.proofs.Common.{◌≡◌, ℕ, ℤ, pos, negsuc, ◌+◌, ◌*◌, ◌-◌, ◌<◌, ◌≤◌, ◌≤ℤ◌, unsigned_abs, refl, sym, ◌∙◌, ap, arith, mul-pos}
use Rattle.std.proofs.lemmas.Int.{ints}
use borrow.Author.Differences.{up, down}
use Rattle.rational_theory.specs.Rational.{ℚ, whole, over}
use Rattle.rational_theory.proofs.Arithmetic.{IsRatio, over_ratio, same_ratio}
use Rattle.rational_theory.proofs.Order.{*ℚ_cancel, times_den}
use Rattle.progression.specs.Speeds.{number}
use Rattle.progression.specs.Street.{Street, HasSignal, red_parts}
use Rattle.progression.specs.Green.{red_ticks}
use Rattle.progression.specs.BaseRecord.{BaseRecord, cycle, run}
use Rattle.progression.specs.declared.parts.Dir.{Dir}
use Rattle.artery_model.specs.Valid.{IsValid}
use Rattle.time_space.proofs.FinerGrids.{red_bounds}
use Rattle.timing_measures.specs.Measures.{seconds, cycle_seconds}
use Rattle.timing_measures.proofs.Sizes.{over_least}
use Rattle.timing_words.specs.Numbers.{tenths}
use Rattle.street_words.specs.Numbers.{parts_seconds}
use Rattle.street_words.specs.Streets.{green_parts}
use Rattle.timing_sheet.specs.Laws.{Takes, SecondsAgree, AllSecondsAgree}

-- ---- fractions of numbers of at least 0
natural : (z : ℤ) → pos 0 ≤ℤ z → z ≡ pos (unsigned_abs z)
natural (pos n) h = refl
natural (negsuc n) h = absurd (omega (arith, ints, h))

crossed : (x : ℚ) (k p d : ℕ) → x.num ≡ pos k → IsRatio x p 0 d → k * d ≡ p * x.den
crossed x k p d e r = omega (arith, ap (λ (z : ℤ). up z * d) e, ap (λ (z : ℤ). down z * d) e, r.ratio)

-- so many parts of a number that is a product of all of them
parts_of : (x : ℚ) (n k parts unit grid : ℕ) → 0 < parts → 0 < grid → k * grid ≡ parts * unit * x.den → over (pos (n * k)) (parts * x.den) ≡ over (pos (n * unit)) grid
parts_of x n k parts unit grid p g e = same_ratio _ _ _ _ _ _ _ _ (over_ratio (pos (n * k)) (parts * x.den) (mul-pos p x.positive)) (over_ratio (pos (n * unit)) grid g)
    (omega (arith, ap (λ t. n * t) e))

not_zero : (n : ℕ) → 1 ≤ n → number n ≡ whole (pos 0) → ⊥
unfolding whole
not_zero n h e = let f : pos n ≡ pos 0 = ap (λ (q : ℚ). q.num) e in omega (arith, ints, h, f)

green_ticks : (m p r u : ℕ) → m + r ≡ p → m * u ≡ p * u - r * u
green_ticks m p r u e = let s : p * u ≡ m * u + r * u = ap (λ n. n * u) (sym e) ∙ omega arith in omega (arith, s)

-- ---- a base of a street
module _ (a : Street) (b : BaseRecord) (valid : IsValid a) (grid : 1 ≤ b.grid) where
  parts_are : (n : ℕ) → parts_seconds a n (cycle_seconds a b) ≡ seconds b (n * b.unit)
  parts_are n =
      let c = cycle_seconds a b in
      let few = valid.least_parts in
      parts_of c n (unsigned_abs c.num) a.head.parts b.unit b.grid (omega (arith, few)) (omega (arith, grid))
      (crossed c (unsigned_abs c.num) (cycle a b) b.grid (natural c.num (over_least (cycle a b) b.grid)) (over_ratio (pos (cycle a b)) b.grid (omega (arith, grid))))

  run_is : (d : Dir) (i : ℕ) (x : ℚ) → Takes b d i x → x ≡ seconds b (run b d i)
  run_is d i x e = sym (*ℚ_cancel (seconds b (run b d i)) x (number b.grid) (not_zero b.grid grid) (times_den (pos (run b d i)) b.grid (omega (arith, grid)) ∙ e))

  green_is : (d : Dir) (i : ℕ) → HasSignal a i → green_parts a d i * b.unit ≡ cycle a b - red_ticks a b d i
  green_is d i l =
      let r = red_bounds a valid d i (omega (arith, l.0, l.1)) in
      green_ticks (green_parts a d i) a.head.parts (red_parts a d i) b.unit (omega (arith, r.1))

  agree : SecondsAgree a b
  agree = record {
    parts = λ n. ap tenths (parts_are n);
    green = λ d i l. ap tenths (parts_are (green_parts a d i)) ∙ ap (λ n. tenths (seconds b n)) (green_is d i l);
    fastest = λ d i e. ap tenths (run_is d i _ e);
    slowest = λ d i e. ap tenths (run_is d i _ e);
  }

pub seconds_agree : AllSecondsAgree
seconds_agree a b valid grid = agree a b valid grid
