use Rattle.std.proofs.Common.{◌≡◌, ◌++◌, drop}
use Rattle.diagram_draw.specs.Escapes.{escaped, escaped_after}
use Rattle.diagram_draw.proofs.escape.push_escaped.Given as goal

abbrev pub invariant-loop-byte : goal.invariant-loop-byte
invariant-loop-byte l = l.out.items ++ escaped_after l.first l.second (drop l.byte-index l.text) ≡ l.fn.out.items ++ escaped l.text
