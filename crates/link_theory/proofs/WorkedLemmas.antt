-- The worked link timings, computed.
use Rattle.std.proofs.Common.{◌≡◌, ℕ, ◌+◌, ℤ, pos, refl, arith}
use Rattle.std.proofs.Common.{true, ap}
use Rattle.std.specs.Ordering.{is_lt}
use Rattle.rational_theory.specs.Rational.{whole, over, inverse_ℚ, neg_ℚ, ◌+ℚ◌, ◌*ℚ◌, ◌/ℚ◌}
use Rattle.rational_theory.specs.Compare.{cmp_ℚ}
use Rattle.rational_theory.specs.Gcd.{gcd}
use Rattle.rational_theory.proofs.Arithmetic.{same_cross}
use Rattle.progression.specs.Speeds.{number}
use Rattle.progression.specs.Good.{RatioHolds}
use Rattle.progression.specs.Worked.{two_signals}
use Rattle.progression.proofs.WorkedLemmas.{at_link, both, whole_greens}
use Rattle.progression.specs.declared.parts.Dir.TheVariants.{Outbound, Inbound}
use Rattle.link_theory.specs.LinkRecord.{LinkRecord, half}
use Rattle.link_theory.specs.GoodLinks.{GoodLinks, IsGreenAround}
use Rattle.link_theory.specs.BestLinks.{link_value}
use Rattle.linear_theory.proofs.Ratios.{at_one}
use Rattle.link_theory.proofs.SymmetricWindows.{around_after, around_before}
use Rattle.linear_theory.specs.Blocks.{green_part}
use Rattle.linear_theory.specs.Boxes.{root_box}
use Rattle.linear_theory.specs.Rows.{minus_one}
use Rattle.link_theory.specs.LinkNames.{link_name_of, link_row}
use Rattle.link_theory.specs.Worked.{link_timing, half_as_much, row_of_cells, WorkedLinks}

module _ (first_out : ℤ) (half_out : ℕ) where
  abbrev worked : LinkRecord
  worked = link_timing first_out half_out 50

  in_here : IsGreenAround two_signals worked Inbound 1 50
  in_here = (around_before 200 100 (pos 0) (pos 350) 50 (omega arith) (omega arith)).1 (omega arith, omega arith)

  in_next : IsGreenAround two_signals worked Inbound 2 50
  in_next = (around_before 200 100 (pos 100) (pos 250) 50 (omega arith) (omega arith)).1 (omega arith, omega arith)

  -- the rules that name no half are those of the worked timing
  good : IsGreenAround two_signals worked Outbound 1 half_out → IsGreenAround two_signals worked Outbound 2 half_out → GoodLinks two_signals worked
  good out_here out_next = let g = whole_greens.base in record {
    formed = record { base = record { grid = omega arith; unit = omega arith; reds = refl; run_out = refl; run_in = refl }; half_out = refl; half_in = refl };
    base = record {
      formed = record { grid = omega arith; unit = omega arith; reds = refl; run_out = refl; run_in = refl };
      shape = refl;
      patterns = g.patterns;
      cycle_least = g.cycle_least;
      cycle_most = g.cycle_most;
      fast = g.fast;
      slow = g.slow;
      rise = g.rise;
      drop = g.drop;
    };
    ratio = at_link two_signals refl (λ i. RatioHolds (number 1) (half worked Outbound i) (half worked Inbound i)) (at_one (number 1) half_out 50 refl);
    here = λ d. at_link two_signals refl (λ i. IsGreenAround two_signals worked d i (half worked d i)) (both (λ d. IsGreenAround two_signals worked d 1 (half worked d 1)) out_here in_here d);
    there = λ d. at_link two_signals refl (λ i. IsGreenAround two_signals worked d (i + 1) (half worked d i)) (both (λ d. IsGreenAround two_signals worked d 2 (half worked d 1)) out_next in_next d);
  }

-- ---- each of them
in_the_middle : GoodLinks two_signals (link_timing (pos 150) 50 50)
in_the_middle =
    good (pos 150) 50
    ((around_after 200 100 (pos 0) (pos 150) 50 (omega arith) (omega arith)).1 (omega arith, omega arith))
    ((around_after 200 100 (pos 100) (pos 250) 50 (omega arith) (omega arith)).1 (omega arith, omega arith))

their_value : link_value two_signals (link_timing (pos 150) 50 50) ≡ number 1
unfolding whole over inverse_ℚ ◌+ℚ◌ ◌*ℚ◌ gcd
their_value = same_cross _ _ refl

at_the_red : GoodLinks two_signals (link_timing (pos 200) 0 50)
at_the_red =
    good (pos 200) 0
    ((around_after 200 100 (pos 0) (pos 200) 0 (omega arith) (omega arith)).1 (omega arith, omega arith))
    ((around_after 200 100 (pos 100) (pos 300) 0 (omega arith) (omega arith)).1 (omega arith, omega arith))

-- ---- rows
half_green : green_part two_signals Outbound 1 ≡ number 1 /ℚ number 2
unfolding whole over inverse_ℚ neg_ℚ ◌+ℚ◌ ◌*ℚ◌ gcd
half_green = same_cross _ _ refl

below_one : is_lt (cmp_ℚ (number 1 /ℚ number 2) (number 1)) ≡ true
unfolding whole over inverse_ℚ ◌*ℚ◌ gcd cmp_ℚ
below_one = refl

pub worked_links : WorkedLinks
worked_links = record {
  whole_greens = in_the_middle;
  their_value = their_value;
  one_tick_wider = λ g. let w = ((around_after 200 100 (pos 0) (pos 150) 51 (omega arith) (omega arith)).0 (g.here Outbound 1 (omega arith, omega arith))).0 in absurd (omega arith);
  a_line_at_the_start_of_a_red = at_the_red;
  with_a_tick_to_either_side = λ g. let w = ((around_after 200 100 (pos 0) (pos 200) 1 (omega arith) (omega arith)).0 (g.here Outbound 1 (omega arith, omega arith))).1 in absurd (omega arith);
  near_out_here = refl;
  near_in_next = refl;
  far_out_next = ap (λ b. row_of_cells (number 0) (number 1) (number 0) (number 0) (number 1) (number 0) b) half_green;
  far_in_here = ap (λ b. row_of_cells (number 0) (number 0) (number 1) (number 0) (number 0) (number 1) b) half_green;
  half_ratio = rw below_one refl;
  no_ratio = λ h. h.1 refl;
}
