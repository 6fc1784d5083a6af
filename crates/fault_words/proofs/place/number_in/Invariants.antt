use Rattle.std.proofs.Common.{◌≡◌, ◌<◌, fold, take}
use Rattle.fault_words.specs.Places.{with_digit}
use Rattle.fault_words.proofs.place.number_in.Given as goal

abbrev pub invariant-loop-byte : goal.invariant-loop-byte
invariant-loop-byte l = (l.number ≡ fold with_digit 0 (take l.byte-index l.bytes)) × (l.number < 10000000)
