use Rattle.std.proofs.Common.{◌++◌, ◌∙◌, codes}
use Rattle.std.proofs.lemmas.Result.{on_ok_weaker}
use Rattle.diagram_draw.specs.Pages.{style_text}
use Rattle.quantity_text.proofs.Pushed.{eight_pushed}
use Rattle.diagram_draw.proofs.style.push_style.Goals as goal

pub returns : goal.returns
unfolding style_text
returns c =
    on_ok_weaker c.push_text-8.result
    (λ e. eight_pushed _ _ _ _ _ _ _ _ _ _ _ _ _ _ _ _ _ c.in_ok-push_text.ensures c.in_ok-push_text-2.ensures c.in_ok-push_text-3.ensures
    c.in_ok-push_text-4.ensures c.in_ok-push_text-5.ensures c.in_ok-push_text-6.ensures c.in_ok-push_text-7.ensures e
    ∙ (λ i. c.args.out.now.items ++ (codes "<style>\n"
    ++ (c.fonts_style.ensures i ++ (c.sizes_style.ensures i
    ++ (c.words_style.ensures i ++ (c.lines_style.ensures i ++ (c.bands_style.ensures i ++ (c.bars_style.ensures i ++ codes "</style>\n")))))))))
    c.push_text-8.ensures
