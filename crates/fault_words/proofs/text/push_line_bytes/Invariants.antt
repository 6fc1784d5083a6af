use Rattle.std.proofs.Common.{◌≡◌, ◌++◌, map, take}
use Rattle.fault_words.specs.TextWords.{line_byte}
use Rattle.fault_words.proofs.text.push_line_bytes.Given as goal

abbrev pub invariant-loop-byte : goal.invariant-loop-byte
invariant-loop-byte l = l.out.items ≡ l.fn.out.items ++ map (line_byte l.is_text) (take l.byte-index l.bytes)
