use Rattle.std.proofs.lemmas.Result.{on_ok_weaker}
use Rattle.diagram_draw.specs.Shapes.{sized_words_text}
use Rattle.quantity_text.proofs.Pushed.{three_pushed}
use Rattle.diagram_draw.proofs.captions.push_facts_head.Goals as goal

pub returns : goal.returns
unfolding sized_words_text
returns c = on_ok_weaker c.push_words_end.result (three_pushed _ _ _ _ _ _ _ c.in_ok-push_size_opening.ensures c.in_ok-push_facts.ensures) c.push_words_end.ensures
