-- The ticks a second for the runs of some links: more links never need fewer.
use Rattle.std.proofs.Common.{◌≡◌, ℕ, zero, suc, ◌+◌, ◌-◌, ◌*◌, ◌<◌, ◌≤◌, refl, sym, ◌∙◌, ap, subst, arith, inl, inr}
use Rattle.std.proofs.lemmas.Bool.{cases_eq, cases_lt}
use Rattle.rational_theory.specs.Rational.{ℚ}
use Rattle.rational_theory.specs.Gcd.{lcm}
use Rattle.rational_theory.proofs.Multiples.{IsMultiple, lcm_first, lcm_above}
use Rattle.progression.specs.Street.{Street}
use Rattle.progression.specs.Speeds.{run_low, run_high}
use Rattle.progression.specs.declared.parts.Dir.{Dir}
use Rattle.progression.specs.declared.parts.Dir.TheVariants.{Outbound, Inbound}
use Rattle.street_words.specs.Warnings.{with_runs, ticks_for}

-- a multiple that is above 0 is no less
no_less : (t m n : ℕ) → n ≡ t * m → 0 < n → m ≤ n
no_less zero m n e h = absurd (omega (arith, e))
no_less (suc t) m n e h = omega (arith, e)

pub lcm_more : (m n : ℕ) → 0 < m → 0 < n → m ≤ lcm m n
lcm_more m n h k = let f = lcm_first m n k in no_less f.times m (lcm m n) f.is (lcm_above m n h k)

-- where the first of two multiples isn't short, neither is the second
pub first_short : (m k : ℕ) (x y z : ℚ) → 1 ≤ m → x ≡ y → lcm (lcm m y.den) z.den ≤ k → lcm m x.den ≤ k
first_short m k x y z h e l =
    let one = lcm_above m y.den (omega (arith, h)) y.positive in
    let more = lcm_more (lcm m y.den) z.den one z.positive in
    let same : lcm m x.den ≡ lcm m y.den = ap (λ (q : ℚ). lcm m q.den) e in
    omega (arith, more, same, l)

pub one_above : (m k : ℕ) (x : ℚ) → 1 ≤ m → k ≡ lcm m x.den → 1 ≤ k
one_above m k x h e = let one = lcm_above m x.den (omega (arith, h)) x.positive in omega (arith, one, e)

pub not_most : (m k : ℕ) → (m ≤ k → ⊥) → k < m
not_most m k n = elim (cases_lt k m) [ inl h ↦ h | inr h ↦ absurd (n h) ]

module _ (a : Street) where
  pub runs_above : (m : ℕ) (d : Dir) (i : ℕ) → 1 ≤ m → 1 ≤ with_runs a m d i
  runs_above m d i h = lcm_above (lcm m (run_low a d i).den) (run_high a d i).den (lcm_above m (run_low a d i).den (omega (arith, h)) (run_low a d i).positive) (run_high a d i).positive

  pub runs_more : (m : ℕ) (d : Dir) (i : ℕ) → 1 ≤ m → m ≤ with_runs a m d i
  runs_more m d i h =
      let low = lcm_more m (run_low a d i).den (omega (arith, h)) (run_low a d i).positive in
      let one = lcm_above m (run_low a d i).den (omega (arith, h)) (run_low a d i).positive in
      let high = lcm_more (lcm m (run_low a d i).den) (run_high a d i).den one (run_high a d i).positive in
      omega (arith, low, high)

  pub ticks_above : (j : ℕ) → 1 ≤ ticks_for a j
  ticks_above zero = omega arith
  ticks_above (suc j) = runs_above (with_runs a (ticks_for a j) Outbound (suc j)) Inbound (suc j) (runs_above (ticks_for a j) Outbound (suc j) (ticks_above j))

  ticks_step : (j : ℕ) → ticks_for a j ≤ ticks_for a (suc j)
  ticks_step j =
      let out = runs_more (ticks_for a j) Outbound (suc j) (ticks_above j) in
      let back = runs_more (with_runs a (ticks_for a j) Outbound (suc j)) Inbound (suc j) (runs_above (ticks_for a j) Outbound (suc j) (ticks_above j)) in
      omega (arith, out, back)

  pub ticks_up : (j k : ℕ) → j ≤ k → ticks_for a j ≤ ticks_for a k
  ticks_up j zero h = let none : j ≡ 0 = omega arith in let e : ticks_for a j ≡ ticks_for a 0 = ap (ticks_for a) none in omega (arith, e)
  ticks_up j (suc k) h = elim (cases_eq j (suc k)) [
    | inl e ↦ let s : ticks_for a j ≡ ticks_for a (suc k) = ap (ticks_for a) e in omega (arith, s)
    | inr n ↦ let less = ticks_up j k (omega arith) in let step = ticks_step k in omega (arith, less, step)
  ]

  -- as a loop goes on to the next link
  pub ticks_next : (i : ℕ) → 1 ≤ i → ticks_for a i ≡ with_runs a (with_runs a (ticks_for a (i - 1)) Outbound i) Inbound i
  ticks_next zero h = absurd (omega arith)
  ticks_next (suc j) h = let e : suc j - 1 ≡ j = omega arith in ap (λ n. with_runs a (with_runs a (ticks_for a n) Outbound (suc j)) Inbound (suc j)) (sym e)

  pub next_link : (i ticks more : ℕ) → 1 ≤ i → ticks ≡ ticks_for a (i - 1) → more ≡ with_runs a (with_runs a ticks Outbound i) Inbound i → more ≡ ticks_for a (i + 1 - 1)
  next_link i ticks more h e f =
      let here : i ≡ i + 1 - 1 = omega arith in
      f ∙ ap (λ n. with_runs a (with_runs a n Outbound i) Inbound i) e ∙ sym (ticks_next i h) ∙ ap (ticks_for a) here

  -- where the runs up to a link have no short grid, neither have those up to a later one
  pub too_many : (i last ticks most : ℕ) → 1 ≤ i → i ≤ last → ticks ≡ ticks_for a (i - 1) → (with_runs a (with_runs a ticks Outbound i) Inbound i ≤ most → ⊥) → most < ticks_for a last
  too_many i last ticks most h l e n =
      let up = ticks_up i last l in
      let same : with_runs a (with_runs a ticks Outbound i) Inbound i ≡ ticks_for a i = ap (λ n. with_runs a (with_runs a n Outbound i) Inbound i) e ∙ sym (ticks_next i h) in
      let above : most < ticks_for a i = subst (λ n. most < n) same (not_most (with_runs a (with_runs a ticks Outbound i) Inbound i) most n) in
      omega (arith, up, above)
