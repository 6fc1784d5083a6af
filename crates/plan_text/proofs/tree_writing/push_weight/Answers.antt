use Rattle.std.proofs.lemmas.Result.{on_ok_weaker}
use Rattle.plan_text.specs.Namings.{naming_of}
use Rattle.plan_text.proofs.WrittenTexts.{weight_written}
use Rattle.plan_text.proofs.tree_writing.push_weight.Goals as goal

pub returns-clause-text : goal.returns-clause-text
returns-clause-text c = on_ok_weaker c.push_text-2.result (weight_written (naming_of c.args.names) c.args.form c.args.weight.now c.args.out.now.items
    _ _ _ _ c.in_ok-push_words.ensures c.in_ok-push_text.ensures c.in_ok-push_multiplier.ensures) c.push_text-2.ensures
