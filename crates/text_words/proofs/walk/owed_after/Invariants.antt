use Rattle.std.proofs.Common.{◌≡◌, ◌≤◌, ◌+◌}
use Rattle.text_words.specs.Lines.{from_line}
use Rattle.text_words.specs.Owed.{owed_after, trees_of}
use Rattle.text_words.proofs.walk.owed_after.Given as goal

-- so many lines are behind it, and each owes one tree more at most
abbrev pub invariant-loop-passed : goal.invariant-loop-passed
invariant-loop-passed l = (l.rest ≡ from_line l.bytes l.passed) × (l.owed ≡ owed_after l.bytes l.fn.start l.passed) × (trees_of l.owed ≤ l.passed + 1)
