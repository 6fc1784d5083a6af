use Rattle.plan_text.specs.Namings.{naming_of}
use Rattle.plan_text.proofs.WrittenTexts.{rows_here, form_here}
use Rattle.plan_text.proofs.tree_writing.push_leaf.Goals as goal

pub push_weights-requires-clause-words : goal.push_weights-requires-clause-words
push_weights-requires-clause-words c = rows_here (naming_of c.args.names) c.args.weights.now c.requires

pub push_weights-requires-clause-writable : goal.push_weights-requires-clause-writable
push_weights-requires-clause-writable c = form_here (naming_of c.args.names) c.args.weights.now c.form_by-form.result c.form_by-form.ensures
