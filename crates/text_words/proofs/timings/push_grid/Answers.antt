use Rattle.std.proofs.lemmas.Result.{on_ok_weaker}
use Rattle.text_words.specs.Claims.{grid_line}
use Rattle.quantity_text.proofs.Pushed.{six_pushed}
use Rattle.text_words.proofs.timings.push_grid.Goals as goal

pub returns : goal.returns
unfolding grid_line
returns c =
    on_ok_weaker c.push_text-3.result (six_pushed _ _ _ _ _ _ _ _ _ _ _ _ _
    c.in_ok-push_signals.ensures c.in_ok-push_text.ensures c.in_ok-push_second.ensures c.in_ok-push_text-2.ensures c.in_ok-push_part.ensures)
    c.push_text-3.ensures
