use Rattle.std.proofs.Common.{◌≡◌}
use Rattle.outer_edge.proofs.source.open_at.Goals as goal

pub returns-in-Some-clause-named : goal.returns-in-Some-clause-named
returns-in-Some-clause-named g c = rw c.in-Some.ensures.name at (c.requires.kept_plain c.in-Some.file c.in-Some.ensures.file).0
