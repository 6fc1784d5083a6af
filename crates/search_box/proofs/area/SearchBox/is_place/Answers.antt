use Rattle.std.proofs.Common.{arith}
use Rattle.std.proofs.lemmas.Grind.{common_steps}
use Rattle.search_box.proofs.area.SearchBox.is_place.Goals as goal

pub returns-else-span-at : goal.returns-else-span-at
returns-else-span-at c = grind (arith, common_steps)
