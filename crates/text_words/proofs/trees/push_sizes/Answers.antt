use Rattle.std.proofs.lemmas.Result.{on_ok_weaker}
use Rattle.text_words.specs.Claims.{sizes_line}
use Rattle.quantity_text.proofs.Pushed.{five_pushed}
use Rattle.text_words.proofs.trees.push_sizes.Goals as goal

pub returns : goal.returns
unfolding sizes_line
returns c =
    on_ok_weaker c.push_text-3.result (five_pushed _ _ _ _ _ _ _ _ _ _ _ c.in_ok-push_text.ensures c.in_ok-push_count.ensures c.in_ok-push_text-2.ensures c.in_ok-push_count-2.ensures)
    c.push_text-3.ensures
