use Rattle.std.proofs.lemmas.Result.{on_ok_weaker}
use Rattle.diagram_draw.specs.Shapes.{words_text}
use Rattle.quantity_text.proofs.Pushed.{three_pushed}
use Rattle.diagram_draw.proofs.captions.push_length_head.Goals as goal

pub returns : goal.returns
unfolding words_text
returns c = on_ok_weaker c.push_words_end.result (three_pushed _ _ _ _ _ _ _ c.in_ok-push_opening.ensures c.in_ok-push_lengths_head.ensures) c.push_words_end.ensures
