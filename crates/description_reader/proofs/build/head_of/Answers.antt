use Rattle.std.proofs.Common.{rules}
use Rattle.description_reader.proofs.build.head_of.Goals as goal

pub returns : goal.returns
returns c = search rules
