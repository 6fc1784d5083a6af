use Rattle.std.proofs.Common.{◌∙◌, append_assoc, arith}
use Rattle.diagram_draw.proofs.Chains.{with_one, with_more}
use Rattle.std.proofs.lemmas.Grind.{common_steps}
use Rattle.diagram_draw.proofs.bars.bar.Goals as goal

pub returns : goal.returns
returns c =
    let one = with_one _ _ _ _ _ c.in_ok-push.ensures.items c.ground.ensures c.new-shapes.ensures.items in
    let two = with_more _ _ _ _ _ _ c.in_ok-extend_from_slice.ensures.items c.as_slice.ensures.value c.in_ok-windows.ensures one in
    let three = with_more _ _ _ _ _ _ c.in_ok-extend_from_slice-2.ensures.items c.as_slice-2.ensures.value (rw c.base-base.ensures at c.in_ok-common.ensures) two in
    let four = with_more _ _ _ _ _ _ c.in_ok-extend_from_slice-3.ensures.items c.as_slice-3.ensures.value (rw c.base-base.ensures at c.in_ok-turns.ensures) three in
    four ∙ simp append_assoc

pub returns-in_err-extend_from_slice-3 : goal.returns-in_err-extend_from_slice-3
returns-in_err-extend_from_slice-3 c = grind (arith, common_steps)
