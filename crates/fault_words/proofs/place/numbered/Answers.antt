use Rattle.fault_words.proofs.Seen.{item_at}
use Rattle.fault_words.proofs.place.numbered.Goals as goal

pub returns-else-number-eq0 : goal.returns-else-number-eq0
returns-else-number-eq0 c = item_at c.args.items.now c.args.number c.get.result c.if-number-eq0.false c.get.ensures.lookup
