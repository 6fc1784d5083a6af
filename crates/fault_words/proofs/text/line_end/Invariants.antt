use Rattle.std.proofs.Common.{◌≡◌, ◌≤◌, take, drop}
use Rattle.fault_words.specs.TextWords.{last_line}
use Rattle.fault_words.proofs.text.line_end.Given as goal

-- the line so far begins there
abbrev pub invariant-loop-index : goal.invariant-loop-index
invariant-loop-index l = (l.start ≤ l.index) × (last_line (take l.index l.front) ≡ drop l.start (take l.index l.front))
