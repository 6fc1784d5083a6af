use Rattle.std.proofs.lemmas.Result.{on_ok_weaker}
use Rattle.diagram_draw.specs.Captions.{signal_heads}
use Rattle.diagram_draw.proofs.Chains.{three_listed}
use Rattle.diagram_draw.proofs.captions.push_signal_heads.Goals as goal

pub returns : goal.returns
unfolding signal_heads
returns c = on_ok_weaker c.push_words-3.result (three_listed _ _ _ _ _ _ _ c.in_ok-push_words.ensures c.in_ok-push_words-2.ensures) c.push_words-3.ensures
