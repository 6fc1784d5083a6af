use Rattle.std.proofs.lemmas.Result.{on_ok_weaker}
use Rattle.diagram_draw.specs.Pages.{tail_text}
use Rattle.quantity_text.proofs.Pushed.{five_pushed}
use Rattle.diagram_draw.proofs.page.push_tail.Goals as goal

pub returns : goal.returns
unfolding tail_text
returns c = on_ok_weaker c.push_text.result (five_pushed _ _ _ _ _ _ _ _ _ _ _ c.in_ok-push_keys.ensures c.in_ok-push_heads.ensures c.in_ok-push_names.ensures c.in_ok-push_captions.ensures)
    c.push_text.ensures
