use Rattle.std.proofs.lemmas.Result.{on_ok_weaker}
use Rattle.text_words.specs.Plans.{counts_text}
use Rattle.quantity_text.proofs.Pushed.{four_pushed}
use Rattle.text_words.proofs.plans.push_counts.Goals as goal

pub returns : goal.returns
unfolding counts_text
returns c = on_ok_weaker c.push_text-2.result (four_pushed _ _ _ _ _ _ _ _ _ c.in_ok-push_offsets.ensures c.in_ok-push_text.ensures c.in_ok-push_patterns.ensures) c.push_text-2.ensures
