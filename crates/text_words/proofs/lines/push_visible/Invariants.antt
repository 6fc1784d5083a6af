use Rattle.std.proofs.Common.{◌≡◌, ◌++◌, map, take}
use Rattle.text_words.specs.Lines.{visible}
use Rattle.text_words.proofs.lines.push_visible.Given as goal

-- the bytes so far
abbrev pub invariant-loop-byte : goal.invariant-loop-byte
invariant-loop-byte l = l.out.items ≡ l.fn.out.items ++ map visible (take l.byte-index l.bytes)
