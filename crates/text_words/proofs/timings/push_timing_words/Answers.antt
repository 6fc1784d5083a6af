use Rattle.std.proofs.lemmas.Result.{on_ok_weaker}
use Rattle.text_words.specs.Claims.{timing_words}
use Rattle.quantity_text.proofs.Pushed.{four_pushed}
use Rattle.text_words.proofs.timings.push_timing_words.Goals as goal

pub returns : goal.returns
unfolding timing_words
returns c = on_ok_weaker c.push_text-2.result (four_pushed _ _ _ _ _ _ _ _ _ c.in_ok-push_grid.ensures c.in_ok-push_bands.ensures c.in_ok-push_text.ensures) c.push_text-2.ensures
