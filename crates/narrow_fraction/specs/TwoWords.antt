-- The number that two words hold.
use Rattle.std.specs.Prelude.{ℤ, pos, ◌+ℤ◌, ◌*ℤ◌, ◌^◌}
use Rattle.narrow_fraction.specs.declared.two_words.TwoWords.{TwoWords}

-- the high word so many times, and the low one
abbrev pub number_of : TwoWords → ℤ
number_of h = h.high *ℤ pos (2 ^ 64) +ℤ pos h.low
