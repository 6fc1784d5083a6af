use Rattle.std.proofs.lemmas.Result.{on_ok_weaker}
use Rattle.diagram_draw.specs.Pages.{about_text}
use Rattle.quantity_text.proofs.Pushed.{two_pushed}
use Rattle.diagram_draw.proofs.page.push_about.Goals as goal

pub returns : goal.returns
unfolding about_text
returns c = on_ok_weaker c.push_signals_about.result (two_pushed _ _ _ _ _ c.in_ok-push_facts.ensures)
    (rw c.base.ensures at c.push_signals_about.ensures)
