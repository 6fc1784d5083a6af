use Rattle.progression.proofs.WorkedLemmas.{whole_greens, their_band, too_wide, in_the_red, line_at_red, too_long, too_fast, late_for_clearance}
use Rattle.progression.proofs.WorkedLemmas.{lagging_left, leading_lefts, half_a_cycle, first_pattern, first_pattern_wider_out, second_pattern}
use Rattle.progression.proofs.WorkedLemmas.{second_pattern_wider_in, third_pattern, third_pattern_sooner_out, third_pattern_sooner_in, fourth_pattern}
use Rattle.progression.proofs.WorkedLemmas.{fourth_pattern_wider_out, fourth_pattern_wider_in}
use Rattle.progression.proofs.worked.law_worked_timings.Goals as goal

pub returns : goal.returns
returns c = record {
  whole_greens = whole_greens;
  their_band = their_band;
  one_tick_wider = too_wide;
  a_line_in_the_red = in_the_red;
  a_line_at_the_start_of_the_red = line_at_red;
  twice_the_cycle = too_long;
  one_tick_too_fast = too_fast;
  clearance_moves_the_line = late_for_clearance;
  lagging_left_shortens_the_green = lagging_left;
  leading_lefts_hold = leading_lefts;
  half_a_cycle = half_a_cycle;
  first_pattern = first_pattern;
  first_pattern_wider_out = first_pattern_wider_out;
  second_pattern = second_pattern;
  second_pattern_wider_in = second_pattern_wider_in;
  third_pattern = third_pattern;
  third_pattern_sooner_out = third_pattern_sooner_out;
  third_pattern_sooner_in = third_pattern_sooner_in;
  fourth_pattern = fourth_pattern;
  fourth_pattern_wider_out = fourth_pattern_wider_out;
  fourth_pattern_wider_in = fourth_pattern_wider_in;
}
