use Rattle.std.proofs.Common.{◌++◌, ◌∙◌, ap, codes, append_assoc, ℕ, List}
use Rattle.std.specs.Fmt.{decimal}
use Rattle.std.proofs.lemmas.Result.{on_ok_weaker}
use Rattle.diagram_draw.specs.Captions.{offset_text}
use Rattle.diagram_draw.specs.Escapes.{escaped}
use Rattle.diagram_draw.specs.Pages.{signal_about}
use Rattle.quantity_text.proofs.Pushed.{five_pushed}
use Rattle.diagram_draw.proofs.page.push_signal_about.Goals as goal

pub returns : goal.returns
unfolding signal_about
returns c =
    let name = c.as_bytes.ensures.value ∙ c.signal_name.ensures in
    on_ok_weaker c.push_text-2.result
    (λ e. five_pushed _ _ _ _ _ _ _ _ _ _ _ c.in_ok-push_signal_opening.ensures c.in_ok-push_escaped.ensures c.in_ok-push_text.ensures c.in_ok-push_offset.ensures e
    ∙ (λ i. c.args.out.now.items ++ ((codes "; signal " ++ (decimal c.args.signal ++ codes ", "))
    ++ (escaped (name i) ++ (codes ", offset " ++ (offset_text c.args.artery.now c.args.base.now c.args.signal ++ codes " s")))))
    ∙ ap (λ (w : List ℕ). c.args.out.now.items ++ (codes "; signal " ++ w)) (append_assoc (decimal c.args.signal) (codes ", ") _))
    c.push_text-2.ensures
