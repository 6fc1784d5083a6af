use Rattle.std.proofs.Common.{◌≡◌, ◌++◌, map, take}
use Rattle.fault_words.specs.Shown.{plain}
use Rattle.fault_words.proofs.shown.push_plain.Given as goal

abbrev pub invariant-loop-byte : goal.invariant-loop-byte
invariant-loop-byte l = l.out.items ≡ l.fn.out.items ++ map (plain l.mark) (take l.byte-index l.bytes)
