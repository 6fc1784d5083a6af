-- The root's span of a link by one integer division at each end.
use Rattle.std.proofs.Common.{ℕ, ℤ, pos, ◌-ℤ◌, ◌+◌, ◌-◌, ◌*◌}
use Rattle.progression.specs.Street.{Street, signal_of, red_parts, clearance}
use Rattle.progression.specs.declared.parts.Dir.TheVariants.{Outbound, Inbound}
use Rattle.linear_theory.specs.Shifts.{shift_at, shift_count}

-- the parts in the least sum
abbrev pub least_parts : Street → ℕ → ℤ
least_parts a i =
    pos (red_parts a Outbound (i + 1) + red_parts a Inbound (i + 1) + shift_at a i 0 + (signal_of a i).red)
    -ℤ pos (2 * a.head.parts + shift_at a (i + 1) (shift_count a (i + 1) - 1) + (signal_of a (i + 1)).red + clearance a Outbound (i + 1) + clearance a Inbound i)

-- and in the greatest
abbrev pub greatest_parts : Street → ℕ → ℤ
greatest_parts a i =
    pos (2 * a.head.parts + shift_at a i (shift_count a i - 1) + (signal_of a i).red)
    -ℤ pos (red_parts a Outbound i + red_parts a Inbound i + shift_at a (i + 1) 0 + (signal_of a (i + 1)).red + clearance a Outbound (i + 1) + clearance a Inbound i)
