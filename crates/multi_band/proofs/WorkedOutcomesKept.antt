-- The worked outcomes of vertices of links, computed.
use Rattle.std.proofs.Common.{◌≡◌, refl, pos}
use Rattle.std.specs.Prelude.{◌^◌}
use Rattle.rational_theory.specs.Rational.{whole, over, inverse_ℚ, neg_ℚ, ◌+ℚ◌, ◌*ℚ◌, ◌/ℚ◌}
use Rattle.rational_theory.specs.Gcd.{gcd}
use Rattle.rational_theory.specs.Floor.{floor_ℚ, ceil_ℚ}
use Rattle.rational_theory.specs.Compare.{cmp_ℚ}
use Rattle.narrow_fraction.specs.Past128.{fits, steps_fit, is_past, past_wide}
use Rattle.narrow_fraction.specs.declared.wide.Op.TheVariants.{Mul}
use Rattle.progression.specs.Speeds.{number}
use Rattle.progression.specs.Worked.{two_signals}
use Rattle.linear_theory.specs.Boxes.{root_box}
use Rattle.recovery_theory.specs.Ticks.{common, unit_of, ticks_in}
use Rattle.recovery_theory.specs.Placing.{pattern_at}
use Rattle.search_box.specs.declared.span.At.TheVariants.{Loop}
use Rattle.offset_recovery.specs.declared.outcome.WideTiming.TheVariants as wide
use Rattle.offset_recovery.specs.Outcomes.{Refused, Splits, Gives}
use Rattle.multi_band.specs.LinkRecovered.{link_recovered}
use Rattle.multi_band.specs.Worked.{worked_vertex, amid, late, with_halves_of, large, large_run, amid_timing, finer_timing, WorkedLinkOutcomes}

timing_is : link_recovered two_signals (root_box two_signals) amid ≡ Gives amid_timing
unfolding link_recovered whole over inverse_ℚ neg_ℚ ◌+ℚ◌ ◌*ℚ◌ gcd floor_ℚ ceil_ℚ cmp_ℚ fits steps_fit is_past past_wide common unit_of ticks_in pattern_at
timing_is = refl

finer_is : link_recovered two_signals (root_box two_signals) (with_halves_of (number 1 /ℚ number 4) (number 1 /ℚ number 12)) ≡ Gives finer_timing
unfolding link_recovered whole over inverse_ℚ neg_ℚ ◌+ℚ◌ ◌*ℚ◌ gcd floor_ℚ ceil_ℚ cmp_ℚ fits steps_fit is_past past_wide common unit_of ticks_in pattern_at
finer_is = refl

split_is : link_recovered two_signals (root_box two_signals) late ≡ Splits (Loop 1 (pos 0))
unfolding link_recovered whole over inverse_ℚ neg_ℚ ◌+ℚ◌ ◌*ℚ◌ gcd floor_ℚ ceil_ℚ cmp_ℚ fits steps_fit is_past past_wide common unit_of ticks_in pattern_at
split_is = refl

product_is : link_recovered two_signals (root_box two_signals) (with_halves_of (number 1 /ℚ number 4) (number (2 ^ 126))) ≡ Refused
    (wide.Product 12 (record { op = Mul; left = number (2 ^ 126); right = number 100 }))
unfolding link_recovered whole over inverse_ℚ neg_ℚ ◌+ℚ◌ ◌*ℚ◌ gcd floor_ℚ ceil_ℚ cmp_ℚ fits steps_fit is_past past_wide common unit_of ticks_in pattern_at
product_is = refl

unit_is : link_recovered two_signals (root_box two_signals) (with_halves_of (over (pos 1) 2153693963075557766310747) (number 1 /ℚ number 4)) ≡ Refused (wide.Unit 1 2153693963075557766310747)
unfolding link_recovered whole over inverse_ℚ neg_ℚ ◌+ℚ◌ ◌*ℚ◌ gcd floor_ℚ ceil_ℚ cmp_ℚ fits steps_fit is_past past_wide common unit_of ticks_in pattern_at
unit_is = refl

run_is : link_recovered two_signals (root_box two_signals) (worked_vertex large_run (number 1 /ℚ number 4) large large) ≡ Refused (wide.Number 8 241785163922925834941235300)
unfolding link_recovered whole over inverse_ℚ neg_ℚ ◌+ℚ◌ ◌*ℚ◌ gcd floor_ℚ ceil_ℚ cmp_ℚ fits steps_fit is_past past_wide common unit_of ticks_in pattern_at
run_is = refl

half_out_is : link_recovered two_signals (root_box two_signals) (with_halves_of large large) ≡ Refused (wide.Number 11 241785163922925834941235200)
unfolding link_recovered whole over inverse_ℚ neg_ℚ ◌+ℚ◌ ◌*ℚ◌ gcd floor_ℚ ceil_ℚ cmp_ℚ fits steps_fit is_past past_wide common unit_of ticks_in pattern_at
half_out_is = refl

half_in_is : link_recovered two_signals (root_box two_signals) (with_halves_of (number 1 /ℚ number 4) large) ≡ Refused (wide.Number 12 241785163922925834941235200)
unfolding link_recovered whole over inverse_ℚ neg_ℚ ◌+ℚ◌ ◌*ℚ◌ gcd floor_ℚ ceil_ℚ cmp_ℚ fits steps_fit is_past past_wide common unit_of ticks_in pattern_at
half_in_is = refl

-- all of them
pub worked_link_outcomes : WorkedLinkOutcomes
worked_link_outcomes = record { timing = timing_is; finer = finer_is; split = split_is; product = product_is; unit = unit_is; run = run_is; half_out = half_out_is; half_in = half_in_is }
