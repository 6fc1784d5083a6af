use Rattle.std.proofs.lemmas.Result.{on_ok_weaker}
use Rattle.fault_words.specs.TextWords.{not_toml_words}
use Rattle.quantity_text.proofs.Pushed.{five_pushed}
use Rattle.fault_words.proofs.text.push_not_toml.Goals as goal

pub returns : goal.returns
unfolding not_toml_words
returns c = on_ok_weaker c.push_text-3.result (five_pushed _ _ _ _ _ _ _ _ _ _ _
    c.in_ok-push_kind.ensures c.in_ok-push_place_lines.ensures c.in_ok-push_text.ensures c.in_ok-push_text-2.ensures)
    c.push_text-3.ensures
