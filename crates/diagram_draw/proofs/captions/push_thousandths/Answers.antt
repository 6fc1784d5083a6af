use Rattle.std.proofs.Common.{◌++◌, ◌∙◌, codes, ◌/◌, ◌%◌}
use Rattle.std.specs.Fmt.{decimal}
use Rattle.std.proofs.lemmas.Result.{on_ok_weaker}
use Rattle.quantity_text.proofs.Pushed.{four_pushed}
use Rattle.diagram_draw.proofs.captions.push_thousandths.Goals as goal

pub returns : goal.returns
returns c =
    let whole = c.round_to-number.ensures.whole in
    let rest = c.round_to-number.ensures.rest in
    on_ok_weaker c.push_two_digits.result
    (λ e. four_pushed _ _ _ _ _ _ _ _ _ c.in_ok-push_number.ensures c.in_ok-push_text.ensures c.in_ok-push_number-2.ensures e
    ∙ (λ i. c.args.out.now.items ++ (decimal (whole i) ++ (codes "." ++ (decimal (rest i / 100) ++ (decimal (rest i % 100 / 10) ++ decimal (rest i % 100 % 10)))))))
    c.push_two_digits.ensures
