use Rattle.std.proofs.Common.{◌≡◌, drop}
use Rattle.outer_edge.specs.Named.{stored}
use Rattle.outer_edge.specs.Store.{found}
use Rattle.outer_edge.proofs.stored.find.Given as goal

-- no file so far has this name
abbrev pub invariant-loop-file : goal.invariant-loop-file
invariant-loop-file l = found (stored l.files) l.name ≡ found (stored (drop l.file-index l.files)) l.name
