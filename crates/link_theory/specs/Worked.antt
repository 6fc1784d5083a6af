-- Worked link timings and rows of the smallest artery: two signals 500 metres apart, driven in 50 seconds, each with half of a cycle of 100 seconds red.
use Rattle.std.specs.Prelude.{◌≡◌, ℕ, [], ◌∷◌, ℤ, pos}
use Rattle.progression.specs.Speeds.{number}
use Rattle.progression.specs.Street.{Street}
use Rattle.progression.specs.Worked.{two_signals}
use Rattle.rational_theory.specs.Rational.{ℚ, ◌/ℚ◌}
use Rattle.rational_theory.specs.Rows as maths
use Rattle.linear_theory.specs.Boxes.{root_box}
use Rattle.linear_theory.specs.Rows.{minus_one}
use Rattle.link_theory.specs.LinkNames.{HasLinkRow, link_name_of, link_row}
use Rattle.link_theory.specs.LinkRecord.{LinkRecord}
use Rattle.link_theory.specs.GoodLinks.{GoodLinks}
use Rattle.link_theory.specs.BestLinks.{link_value}

-- two ticks a second, the second signal half a cycle after the first
abbrev pub link_timing : ℤ → ℕ → ℕ → LinkRecord
link_timing first_out half_out half_in = record {
  grid = 2;
  unit = 2;
  patterns = 1 ∷ 1 ∷ [];
  reds = pos 0 ∷ pos 100 ∷ [];
  run_out = 100 ∷ [];
  run_in = 100 ∷ [];
  first_out = first_out;
  first_in = pos 250;
  half_out = half_out ∷ [];
  half_in = half_in ∷ [];
}

-- the same street where the inbound bands count half
abbrev pub half_as_much : Street
half_as_much = record two_signals { head = record two_signals.head { ratio = number 1 /ℚ number 2 } }

-- its rows have 13 columns: two bands, the frequency, four waits, two runs, two shifts, and the halves of the link
abbrev pub row_of_cells : (wait_out_here wait_out_next wait_in_here wait_in_next half_out half_in bound : ℚ) → maths.Row
row_of_cells wait_out_here wait_out_next wait_in_here wait_in_next half_out half_in bound = let none = number 0 in record {
  coefs = none ∷ none ∷ none ∷ wait_out_here ∷ wait_out_next ∷ wait_in_here ∷ wait_in_next ∷ none ∷ none ∷ none ∷ none ∷ half_out ∷ half_in ∷ [];
  bound = bound;
}

pub record WorkedLinks : Type 0 where
  pub whole_greens : GoodLinks two_signals (link_timing (pos 150) 50 50)
  pub their_value : link_value two_signals (link_timing (pos 150) 50 50) ≡ number 1
  pub one_tick_wider : ¬ GoodLinks two_signals (link_timing (pos 150) 51 50)
  pub a_line_at_the_start_of_a_red : GoodLinks two_signals (link_timing (pos 200) 0 50)
  pub with_a_tick_to_either_side : ¬ GoodLinks two_signals (link_timing (pos 200) 1 50)
  -- the row of a family's number for the link
  pub near_out_here : link_row two_signals (root_box two_signals) (link_name_of 22 1) ≡ row_of_cells minus_one (number 0) (number 0) (number 0) (number 1) (number 0) (number 0)
  pub near_in_next : link_row two_signals (root_box two_signals) (link_name_of 27 1) ≡ row_of_cells (number 0) (number 0) (number 0) minus_one (number 0) (number 1) (number 0)
  pub far_out_next : link_row two_signals (root_box two_signals) (link_name_of 25 1) ≡ row_of_cells (number 0) (number 1) (number 0) (number 0) (number 1) (number 0) (number 1 /ℚ number 2)
  pub far_in_here : link_row two_signals (root_box two_signals) (link_name_of 28 1) ≡ row_of_cells (number 0) (number 0) (number 1) (number 0) (number 0) (number 1) (number 1 /ℚ number 2)
  pub half_ratio : link_row half_as_much (root_box half_as_much) (link_name_of 30 1) ≡ row_of_cells (number 0) (number 0) (number 0) (number 0) (number 1 /ℚ number 2) minus_one (number 0)
  pub no_ratio : ¬ HasLinkRow two_signals (link_name_of 30 1)
