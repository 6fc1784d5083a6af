use Rattle.std.proofs.Common.{ℕ, ◌++◌, codes, Vec, Global, sym, ap, ◌∙◌}
use Rattle.std.specs.Prelude.{Option, option_map}
use Rattle.diagram_print.specs.Report.{best_lines}
use Rattle.quantity_text.proofs.Pushed.{two_pushed}
use Rattle.diagram_print.proofs.lines.push_best.Goals as goal

pub returns-in_ok-push_bytes : goal.returns-in_ok-push_bytes
returns-in_ok-push_bytes c =
    let old = c.args.out.now.items in
    let first = c.push_text.new.out.items in
    two_pushed old first c.push_bytes.new.out.items (codes "verdict best\n") c.in-Some.timing.items c.in_ok-push_text.ensures (c.in_ok-push_bytes.ensures
    ∙ ap (λ y. first ++ y) c.as_slice.ensures.value)
    ∙ ap (λ (t : Option (Vec ℕ Global)). old ++ best_lines (option_map (λ v. v.items) t)) (sym c.in-Some.is)
