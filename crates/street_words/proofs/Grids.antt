-- The least grid on which all runs at the limits of speed are whole: every such grid is a multiple of it.
use Rattle.std.proofs.Common.{◌≡◌, ℕ, zero, suc, ◌+◌, ◌-◌, ◌*◌, ◌<◌, ◌≤◌, sym, subst, arith, inl, inr}
use Rattle.std.proofs.Math.Nat.{dvd-mul_left, one-dvd}
use Rattle.std.proofs.lemmas.Bool.{cases_eq}
use Rattle.std.proofs.lemmas.Nat.Gcd.{le_of_dvd, dvd_of_mod-eq-zero, mod-eq-zero_of_dvd}
use Prim.Native.Nat.{◌∣◌}
use Rattle.rational_theory.specs.Rational.{ℚ}
use Rattle.rational_theory.specs.Gcd.{lcm}
use Rattle.rational_theory.proofs.Multiples.{IsMultiple, multiple_on, lcm_first, lcm_second, lcm_above, lcm_least}
use Rattle.narrow_fraction.proofs.Quotients.{no_numerator, numerator}
use Rattle.progression.specs.Street.{Street, count}
use Rattle.progression.specs.Speeds.{run_low, run_high}
use Rattle.progression.specs.declared.parts.Dir.{Dir}
use Rattle.progression.specs.declared.parts.Dir.TheVariants.{Outbound, Inbound}
use Rattle.street_words.specs.Warnings.{most_ticks, with_runs, ticks_for}
use Rattle.street_words.specs.Laws.{IsOnGrid, HasGrid}
use Rattle.street_words.proofs.Multiples.{runs_above, ticks_above, not_most}

-- ---- a number on a grid
grid_divides : (n : ℕ) (x : ℚ) → 0 < n → IsOnGrid n x → x.den ∣ n
grid_divides n x h g = dvd_of_mod-eq-zero x.den (no_numerator x g.0 n h g.1)

divides_grid : (n : ℕ) (x : ℚ) → 0 < n → IsMultiple n x.den → IsOnGrid n x
divides_grid n x h m = (_, numerator x n h (mod-eq-zero_of_dvd x.den (subst (λ k. x.den ∣ k) (sym m.is) (dvd-mul_left x.den m.times))))

module _ (a : Street) where
  -- ---- a grid of all runs is a multiple of the least one
  abbrev Divide : ℕ → Dir → ℕ → Type 0
  Divide n d i = ((run_low a d i).den ∣ n) × ((run_high a d i).den ∣ n)

  runs_divide : (n m : ℕ) (d : Dir) (i : ℕ) → m ∣ n → Divide n d i → with_runs a m d i ∣ n
  runs_divide n m d i h k = lcm_least (lcm m (run_low a d i).den) (run_high a d i).den n (run_high a d i).positive (lcm_least m (run_low a d i).den n (run_low a d i).positive h k.0) k.1

  ticks_divide : (n j : ℕ) → ((d : Dir) (i : ℕ) → 1 ≤ i → i ≤ j → Divide n d i) → ticks_for a j ∣ n
  ticks_divide n zero h = one-dvd n
  ticks_divide n (suc j) h =
      runs_divide n (with_runs a (ticks_for a j) Outbound (suc j)) Inbound (suc j)
      (runs_divide n (ticks_for a j) Outbound (suc j) (ticks_divide n j (λ d i s l. h d i s (omega (arith, l)))) (h Outbound (suc j) (omega arith) (omega arith)))
      (h Inbound (suc j) (omega arith) (omega arith))

  -- ---- and the least one has all runs
  record Holds (n m : ℕ) (d : Dir) (i : ℕ) : Type 0 where
    old : IsMultiple n m
    low : IsMultiple n (run_low a d i).den
    high : IsMultiple n (run_high a d i).den

  runs_hold : (m : ℕ) (d : Dir) (i : ℕ) → Holds (with_runs a m d i) m d i
  runs_hold m d i =
      let up = lcm_first (lcm m (run_low a d i).den) (run_high a d i).den (run_high a d i).positive in
      record {
        old = multiple_on up (lcm_first m (run_low a d i).den (run_low a d i).positive);
        low = multiple_on up (lcm_second m (run_low a d i).den);
        high = lcm_second (lcm m (run_low a d i).den) (run_high a d i).den;
      }

  abbrev Have : ℕ → Dir → ℕ → Type 0
  Have n d i = IsMultiple n (run_low a d i).den × IsMultiple n (run_high a d i).den

  more_have : (n m : ℕ) (d : Dir) (i : ℕ) → IsMultiple n m → Have m d i → Have n d i
  more_have n m d i h k = (multiple_on h k.0, multiple_on h k.1)

  last_have : (j : ℕ) (d : Dir) → Have (ticks_for a (suc j)) d (suc j)
  last_have j Outbound =
      let out = runs_hold (ticks_for a j) Outbound (suc j) in
      more_have _ _ Outbound (suc j) (runs_hold (with_runs a (ticks_for a j) Outbound (suc j)) Inbound (suc j)).old (out.low, out.high)
  last_have j Inbound = let back = runs_hold (with_runs a (ticks_for a j) Outbound (suc j)) Inbound (suc j) in (back.low, back.high)

  ticks_have : (j : ℕ) (d : Dir) (i : ℕ) → 1 ≤ i → i ≤ j → Have (ticks_for a j) d i
  ticks_have zero d i s l = absurd (omega (arith, s, l))
  ticks_have (suc j) d i s l = elim (cases_eq i (suc j)) [
    | inl e ↦ subst (λ k. Have (ticks_for a (suc j)) d k) (sym e) (last_have j d)
    | inr n ↦ more_have _ _ d i (multiple_on (runs_hold (with_runs a (ticks_for a j) Outbound (suc j)) Inbound (suc j)).old (runs_hold (ticks_for a j) Outbound (suc j)).old)
        (ticks_have j d i s (omega arith))
  ]

  -- ---- the rule
  all_divide : (n : ℕ) → 1 ≤ n → HasGrid a n → (d : Dir) (i : ℕ) → 1 ≤ i → i ≤ count a - 1 → Divide n d i
  all_divide n some g d i s l = let on = g d i (s, omega (arith, s, l)) in (grid_divides n (run_low a d i) some on.0, grid_divides n (run_high a d i) some on.1)

  least_grid : HasGrid a (ticks_for a (count a - 1))
  least_grid d i l =
      let some = ticks_above a (count a - 1) in
      let have = ticks_have (count a - 1) d i l.0 (omega (arith, l.0, l.1)) in
      (divides_grid (ticks_for a (count a - 1)) (run_low a d i) some have.0, divides_grid (ticks_for a (count a - 1)) (run_high a d i) some have.1)

  pub long_rule : most_ticks < ticks_for a (count a - 1) → (n : ℕ) → 1 ≤ n → n ≤ most_ticks → ¬ HasGrid a n
  long_rule long n some few g =
      let least : ticks_for a (count a - 1) ≤ n = le_of_dvd some (ticks_divide n (count a - 1) (all_divide n some g)) in
      omega (arith, long, few, least)

  pub rule_long : ((n : ℕ) → 1 ≤ n → n ≤ most_ticks → ¬ HasGrid a n) → most_ticks < ticks_for a (count a - 1)
  rule_long rule = not_most (ticks_for a (count a - 1)) most_ticks (λ few. rule (ticks_for a (count a - 1)) (ticks_above a (count a - 1)) few least_grid)
