-- Worked boxes of two signals, each with half of a cycle of 100 seconds red, driven at 36 kilometres an hour.
use Rattle.std.specs.Prelude.{◌≡◌, ℕ, [], ◌∷◌, None, ℤ, pos, codes}
use Rattle.progression.specs.Street.{Street}
use Rattle.progression.specs.Speeds.{number}
use Rattle.progression.specs.Columns.{point}
use Rattle.progression.specs.Worked.{exactly, half_red, two_signals, timing, with_lefts}
use Rattle.linear_theory.specs.Shifts.{shifts_of}
use Rattle.linear_theory.specs.Blocks.{block_sum}
use Rattle.linear_theory.specs.Boxes.{Span, root_span, root_ranks}

-- the signals so many metres apart
abbrev pub apart : ℕ → Street
apart metres = record two_signals {
  links = record { distance_out = metres; distance_in = metres; speed_out = exactly 36; speed_in = exactly 36; change_out = None; change_in = None } ∷ [];
}

-- 250 metres apart, with 80 parts of red each
abbrev pub much_red : Street
much_red = record (apart 250) {
  signals = record (half_red (codes "A")) { red = 80 } ∷ record (half_red (codes "B")) { red = 80 } ∷ [];
}

-- a span
abbrev pub from_to : ℤ → ℤ → Span
from_to least most = record { least = least; most = most }

pub record WorkedBoxes : Type 0 where
  pub half_a_cycle_apart : block_sum two_signals (point two_signals (timing 2 100 (pos 100) 100 100)) 1 ≡ number 1
  pub a_quarter_apart : root_span (apart 250) 1 ≡ from_to (pos 0) (pos 1)
  pub far_apart : root_span (apart 2500) 1 ≡ from_to (pos 4) (pos 6)
  pub too_much_red : root_span much_red 1 ≡ from_to (pos 1) (pos 0)
  pub with_both_lefts : root_span with_lefts 1 ≡ from_to (pos 0) (pos 1)
  pub one_shift : root_ranks two_signals 1 ≡ record { least = 0; most = 0 }
  pub three_shifts : shifts_of with_lefts 2 ≡ 0 ∷ 10 ∷ 20 ∷ []
  pub their_ranks : root_ranks with_lefts 2 ≡ record { least = 0; most = 2 }
