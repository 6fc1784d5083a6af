use Rattle.std.proofs.Common.{subst}
use Rattle.std.proofs.lemmas.Result.{err_from_is_err_and}
use Rattle.offset_recovery.specs.Numbers.{IsCommon}
use Rattle.offset_recovery.proofs.Parts.{more_common, great_common, refused_common}
use Rattle.offset_recovery.proofs.unit.with_product.Goals as goal

pub returns-in_err-so_far : goal.returns-in_err-so_far
returns-in_err-so_far c = λ a x j h f.
    let p = err_from_is_err_and c.from_residual.result c.from_residual.ensures.1 in
    rw (p.1, p.2) (refused_common a x j _ (subst (IsCommon a x j) c.in_err-so_far.was h))

pub returns-in-Some : goal.returns-in-Some
returns-in-Some c = λ a x j h f.
    more_common a x j c.in_ok-so_far.so_far c.in-Some.multiple c.args.product (subst (IsCommon a x j) c.in_ok-so_far.was h) f (rw c.bottom-bottom.ensures.value at c.in-Some.ensures)

pub returns-in-None : goal.returns-in-None
returns-in-None c = λ a x j h f.
    rw c.bottom-bottom.ensures.value (great_common a x j c.in_ok-so_far.so_far c.args.product (subst (IsCommon a x j) c.in_ok-so_far.was h) f (rw c.bottom-bottom.ensures.value at c.in-None.ensures))
