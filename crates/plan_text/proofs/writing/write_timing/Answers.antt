use Rattle.std.proofs.Common.{◌∷◌, [], ap, ◌∙◌}
use Rattle.plan_text.specs.Spelling.{head_line, end_line, number_lines}
use Rattle.plan_text.specs.Reading.{timing_of}
use Rattle.plan_text.proofs.Timings.{timing_again}
use Rattle.plan_text.proofs.Written.{one_more, more_lines}
use Rattle.plan_text.proofs.writing.write_timing.Goals as goal

pub returns : goal.returns
returns c =
    let t = c.args.timing.now in
    let lines = number_lines t in
    let e1 = one_more [] [] head_line _ _ c.new-out.ensures.items c.in_ok-push_numbers.ensures in
    let e2 = more_lines [] (head_line ∷ []) lines _ _ e1 c.in_ok-push_timing.ensures.text in
    let text = one_more [] (head_line ∷ lines) end_line _ _ e2 c.in_ok-push_numbers-2.ensures in
    record { text = text; read_back = ap timing_of text ∙ timing_again t c.in_ok-push_timing.ensures.held }
