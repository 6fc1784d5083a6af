use Rattle.std.proofs.lemmas.Result.{on_ok_weaker}
use Rattle.street_words.specs.Streets.{bands_line}
use Rattle.quantity_text.proofs.Pushed.{five_pushed}
use Rattle.street_words.proofs.head.push_bands_line.Goals as goal

pub returns : goal.returns
unfolding bands_line
returns c =
    on_ok_weaker c.push_equal.result (five_pushed _ _ _ _ _ _ _ _ _ _ _ c.in_ok-push_text.ensures c.in_ok-push_least.ensures c.in_ok-push_text-2.ensures c.in_ok-push_least-2.ensures)
    c.push_equal.ensures
