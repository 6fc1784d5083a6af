use Rattle.std.proofs.Common.{ap, ◌∙◌, not}
use Rattle.artery_model.proofs.Repeats.{among_refs, goes_last}
use Rattle.artery_model.proofs.names.note_name.Goals as goal

pub returns-in-Ok-clause-repeated : goal.returns-in-Ok-clause-repeated
returns-in-Ok-clause-repeated c = c.in-Ok.ensures.added ∙ ap not (among_refs c.args.seen.now.keys c.args.name.now)

pub returns-in-Ok-clause-added : goal.returns-in-Ok-clause-added
returns-in-Ok-clause-added c = goes_last c.args.seen.now.keys c.insert_full.new.self.keys _ c.in-Ok.new c.args.name c.in-Ok.ensures.added c.in-Ok.ensures.keys
