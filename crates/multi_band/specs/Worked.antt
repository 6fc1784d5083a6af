-- Vertices of links worked by hand, for two signals 500 metres apart: timings, a split, and refusals.
use Rattle.std.specs.Prelude.{◌≡◌, ◌^◌, List, [], ◌∷◌, pos}
use Rattle.rational_theory.specs.Rational.{ℚ, over, ◌/ℚ◌}
use Rattle.narrow_fraction.specs.declared.wide.Op.TheVariants.{Mul}
use Rattle.progression.specs.Speeds.{number}
use Rattle.progression.specs.Worked.{two_signals}
use Rattle.linear_theory.specs.Boxes.{root_box}
use Rattle.search_box.specs.declared.span.At.TheVariants.{Loop}
use Rattle.link_theory.specs.LinkRecord.{LinkRecord}
use Rattle.link_theory.specs.Worked.{link_timing}
use Rattle.link_theory.specs.LinkVertices.{IsLinkVertex}
use Rattle.offset_recovery.specs.declared.outcome.WideTiming.TheVariants as wide
use Rattle.offset_recovery.specs.Outcomes.{Refused, Splits, Gives}
use Rattle.multi_band.specs.LinkRecovered.{link_recovered}

-- in 100 seconds, the outbound line amid the greens, with this run inbound, this wait inbound at signal 2, and these halves
abbrev pub worked_vertex : (run_in wait_in half_out half_in : ℚ) → List ℚ
worked_vertex run_in wait_in half_out half_in =
    number 0 ∷ number 0 ∷ number 1 /ℚ number 100 ∷ number 1 /ℚ number 4 ∷ number 1 /ℚ number 4 ∷ number 1 /ℚ number 4 ∷ wait_in
    ∷ number 1 /ℚ number 2 ∷ run_in ∷ number 0 ∷ number 0 ∷ half_out ∷ half_in ∷ []

-- both halves a quarter of the cycle
abbrev pub amid : List ℚ
amid = worked_vertex (number 1 /ℚ number 2) (number 1 /ℚ number 4) (number 1 /ℚ number 4) (number 1 /ℚ number 4)

-- the inbound half an eighth, and the inbound line an eighth later at signal 2
abbrev pub late : List ℚ
late = worked_vertex (number 1 /ℚ number 2) (number 3 /ℚ number 8) (number 1 /ℚ number 4) (number 1 /ℚ number 8)

-- these halves alone
abbrev pub with_halves_of : (half_out half_in : ℚ) → List ℚ
with_halves_of half_out half_in = worked_vertex (number 1 /ℚ number 2) (number 1 /ℚ number 4) half_out half_in

-- 2^80 cycles, and as many and a half
abbrev pub large : ℚ
large = number 1208925819614629174706176

abbrev pub large_run : ℚ
large_run = over (pos 2417851639229258349412353) 2

-- the second signal half a cycle after the first
abbrev pub amid_timing : LinkRecord
amid_timing = record (link_timing (pos 150) 50 50) { first_in = pos 50 }

-- the same with three ticks a part, and an inbound half of a twelfth of the cycle
abbrev pub finer_timing : LinkRecord
finer_timing = record {
  grid = 3;
  unit = 3;
  patterns = 1 ∷ 1 ∷ [];
  reds = pos 0 ∷ pos 150 ∷ [];
  run_out = 150 ∷ [];
  run_in = 150 ∷ [];
  first_out = pos 225;
  first_in = pos 75;
  half_out = 75 ∷ [];
  half_in = 25 ∷ [];
}

pub record WorkedLinkVertices : Type 0 where
  pub amid : IsLinkVertex two_signals (root_box two_signals) amid
  pub late : IsLinkVertex two_signals (root_box two_signals) late

pub record WorkedLinkOutcomes : Type 0 where
  pub timing : link_recovered two_signals (root_box two_signals) amid ≡ Gives amid_timing
  -- a half in parts with the denominator 3
  pub finer : link_recovered two_signals (root_box two_signals) (with_halves_of (number 1 /ℚ number 4) (number 1 /ℚ number 12)) ≡ Gives finer_timing
  -- a block sum of 7/8
  pub split : link_recovered two_signals (root_box two_signals) late ≡ Splits (Loop 1 (pos 0))
  -- a half that does not fit when it is multiplied by 100, and one in 2153693963075557766310747 parts, 3 to the 51st
  pub product : link_recovered two_signals (root_box two_signals) (with_halves_of (number 1 /ℚ number 4) (number (2 ^ 126))) ≡ Refused (wide.Product 12 (record { op = Mul; left = number (2 ^ 126); right = number 100 }))
  pub unit : link_recovered two_signals (root_box two_signals) (with_halves_of (over (pos 1) 2153693963075557766310747) (number 1 /ℚ number 4)) ≡ Refused (wide.Unit 1 2153693963075557766310747)
  -- a run and halves of 2^80 cycles: the first of them in the order of the columns
  pub run : link_recovered two_signals (root_box two_signals) (worked_vertex large_run (number 1 /ℚ number 4) large large) ≡ Refused (wide.Number 8 241785163922925834941235300)
  pub half_out : link_recovered two_signals (root_box two_signals) (with_halves_of large large) ≡ Refused (wide.Number 11 241785163922925834941235200)
  pub half_in : link_recovered two_signals (root_box two_signals) (with_halves_of (number 1 /ℚ number 4) large) ≡ Refused (wide.Number 12 241785163922925834941235200)
