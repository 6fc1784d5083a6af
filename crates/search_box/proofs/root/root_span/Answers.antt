use Rattle.std.proofs.Common.{rules}
use Rattle.search_box.proofs.root.root_span.Goals as goal

pub returns : goal.returns
returns c = search rules
