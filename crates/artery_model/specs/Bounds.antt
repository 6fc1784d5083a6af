-- The least and the most that an artery's numbers may be.
use Rattle.std.specs.Prelude.{ℕ, ℤ, pos, negsuc, ◌==◌, if◌then◌else◌}

-- the version of the description; the second has least bands, equal bands and more signals
abbrev pub first_version : ℕ
first_version = 1

abbrev pub second_version : ℕ
second_version = 2

-- how many signals there are: the most in any version, and in the first
abbrev pub least_signals : ℕ
least_signals = 2

abbrev pub most_signals : ℕ
most_signals = 24

abbrev pub most_first_signals : ℕ
most_first_signals = 16

-- and in a version
abbrev pub most_signals_in : ℕ → ℕ
most_signals_in version = if version == second_version then most_signals else most_first_signals

-- how many parts the cycle has
abbrev pub least_parts : ℕ
least_parts = 2

abbrev pub most_parts : ℕ
most_parts = 3600

-- the length of a link, in metres or feet
abbrev pub least_distance : ℕ
least_distance = 1

abbrev pub most_distance : ℕ
most_distance = 30000

-- a speed, in kilometres or miles an hour
abbrev pub least_speed : ℤ
least_speed = pos 1

abbrev pub most_speed : ℤ
most_speed = pos 300

-- the cycle, in seconds
abbrev pub least_cycle : ℤ
least_cycle = pos 1

abbrev pub most_cycle : ℤ
most_cycle = pos 3600

-- a change of pace, in seconds per kilometre or mile
abbrev pub least_change : ℤ
least_change = negsuc 999

abbrev pub most_change : ℤ
most_change = pos 1000

-- how much a second of the inbound band counts against one of the outbound band
abbrev pub least_ratio : ℤ
least_ratio = pos 0

abbrev pub most_ratio : ℤ
most_ratio = pos 100

-- a least band, as a fraction of the cycle: 0 where the version has none
abbrev pub least_share : ℤ
least_share = pos 0

abbrev pub most_share : ℤ
most_share = pos 1

abbrev pub most_share_in : ℕ → ℤ
most_share_in version = if version == second_version then most_share else least_share

-- the size of a quantity's numerator and its denominator, in lowest terms
abbrev pub most_numerator : ℕ
most_numerator = 100000

abbrev pub most_denominator : ℕ
most_denominator = 1000

-- how many bytes a name has
abbrev pub least_name : ℕ
least_name = 1

abbrev pub most_name : ℕ
most_name = 60
