-- The block sum of a link: what two neighbouring signals, and the two lines between them, add up to in fractions of the cycle.
use Rattle.std.specs.Prelude.{ℕ, ◌+◌, List}
use Rattle.rational_theory.specs.Rational.{ℚ, ◌+ℚ◌, ◌-ℚ◌, ◌/ℚ◌}
use Rattle.progression.specs.Street.{Street, count, signal_of, clearance, red_parts}
use Rattle.progression.specs.Speeds.{number}
use Rattle.progression.specs.Columns.{WaitOf, RunOf, ShiftOf}
use Rattle.progression.specs.declared.parts.Dir.{Dir}
use Rattle.progression.specs.declared.parts.Dir.TheVariants.{Outbound, Inbound}
use Rattle.linear_theory.specs.Places.{value_at}

-- some parts as a fraction of the cycle
abbrev pub part : Street → ℕ → ℚ
part a parts = number parts /ℚ number a.head.parts

-- a direction's green
abbrev pub green_part : Street → Dir → ℕ → ℚ
green_part a d i = number 1 -ℚ part a (red_parts a d i)

-- the terms of a block sum in their order: waits here and at the next signal, runs, shifts, common reds, clearances
abbrev pub block_of : (wait_out wait_in next_out next_in run_out run_in shift next_shift red next_red clear_out clear_in : ℚ) → ℚ
block_of wait_out wait_in next_out next_in run_out run_in shift next_shift red next_red clear_out clear_in =
    wait_out +ℚ wait_in -ℚ next_out -ℚ next_in +ℚ run_out +ℚ run_in +ℚ shift -ℚ next_shift +ℚ red -ℚ next_red -ℚ clear_out -ℚ clear_in

-- ---- the terms that no column stands for
-- the common red of signal i
abbrev pub red_here : Street → ℕ → ℚ
red_here a i = part a (signal_of a i).red

-- the outbound clearance at the next signal
abbrev pub clear_next : Street → ℕ → ℚ
clear_next a i = part a (clearance a Outbound (i + 1))

-- and the inbound one here
abbrev pub clear_here : Street → ℕ → ℚ
clear_here a i = part a (clearance a Inbound i)

-- the block sum of link i at a point
abbrev pub block_sum : Street → List ℚ → ℕ → ℚ
block_sum a x i = let n = count a in
    block_of (value_at n x (WaitOf Outbound i)) (value_at n x (WaitOf Inbound i)) (value_at n x (WaitOf Outbound (i + 1))) (value_at n x (WaitOf Inbound (i + 1)))
    (value_at n x (RunOf Outbound i)) (value_at n x (RunOf Inbound i)) (value_at n x (ShiftOf i)) (value_at n x (ShiftOf (i + 1)))
    (red_here a i) (red_here a (i + 1)) (clear_next a i) (clear_here a i)
