-- The numbers of the rows, each as one fraction.
use Rattle.std.proofs.Common.{ℕ, ℤ, pos, ◌-ℤ◌, ◌+◌}
use Rattle.progression.specs.Street.{Street, signal_of, clearance}
use Rattle.progression.specs.declared.parts.Dir.TheVariants.{Outbound, Inbound}

-- the part of a block sum that no column stands for, in parts
abbrev pub constant_parts : Street → ℕ → ℤ
constant_parts a i = pos (signal_of a i).red -ℤ pos ((signal_of a (i + 1)).red + clearance a Outbound (i + 1) + clearance a Inbound i)
