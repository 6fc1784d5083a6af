use Rattle.std.proofs.Common.{◌≡◌}
use Rattle.text_words.specs.Lines.{from_line}
use Rattle.text_words.proofs.lines.from_line.Given as goal

-- so many lines are behind it
abbrev pub invariant-loop-passed : goal.invariant-loop-passed
invariant-loop-passed l = l.rest ≡ from_line l.bytes l.passed
