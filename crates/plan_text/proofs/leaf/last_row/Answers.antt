use Rattle.std.proofs.Common.{◌∙◌, ◌-◌, None, Some, ap, arith, length, sym}
use Rattle.named_row.specs.declared.leaves.Weight.{Weight}
use Rattle.plan_text.proofs.LeafLines.{last_row_at}
use Rattle.plan_text.proofs.leaf.last_row.Goals as goal

pub returns-in-len1-up : goal.returns-in-len1-up
returns-in-len1-up c =
    let ws = c.args.weights.now in
    ap (λ (w : Weight). Some w.row) c.last-item.is ∙ sym (last_row_at None ws (length ws - 1) _ (omega (arith, c.in-len1-up.len_at_least)))
