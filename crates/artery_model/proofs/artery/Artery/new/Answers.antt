use Rattle.artery_model.proofs.Validity.{valid_of}
use Rattle.artery_model.proofs.artery.Artery.new.Goals as goal

pub invariant_of-result : goal.invariant_of-result
invariant_of-result c = valid_of _ (rw (c.as_slice.ensures.value, c.as_slice-2.ensures.value) at c.in_ok-check_artery.ensures)
