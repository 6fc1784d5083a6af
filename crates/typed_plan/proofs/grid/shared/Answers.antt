use Rattle.std.proofs.lemmas.Result.{err_from_is_err_and}
use Rattle.typed_plan.proofs.Chain.{first_offset, first_run, shared_is, so_far, first_in}
use Rattle.typed_plan.proofs.grid.shared.Goals as goal

pub returns-in_err-with_offsets-clause-first : goal.returns-in_err-with_offsets-clause-first
returns-in_err-with_offsets-clause-first c =
    let q = err_from_is_err_and c.from_residual-in_err-with_offsets.result c.from_residual-in_err-with_offsets.ensures.1 in
    rw (q.1, q.2)
    (first_offset c.args.artery.now c.args.plan.now c.in_ok-with_part.with_part c.in_ok-with_part.ensures.value c.in_ok-with_part.ensures.none
    c.in_err-with_offsets.field-0.0 c.in_err-with_offsets.ensures.first)

pub returns-in_err-with_out-clause-first : goal.returns-in_err-with_out-clause-first
returns-in_err-with_out-clause-first c =
    let q = err_from_is_err_and c.from_residual-in_err-with_out.result c.from_residual-in_err-with_out.ensures.1 in
    rw (q.1, q.2)
    (first_run c.args.artery.now c.args.plan.now c.in_ok-with_part.with_part c.in_ok-with_part.ensures.value c.in_ok-with_part.ensures.none
    c.in_ok-with_offsets.with_offsets c.in_ok-with_offsets.ensures.value c.in_ok-with_offsets.ensures.none c.in_err-with_out.field-0.0 c.in_err-with_out.ensures.first)

pub returns-clause-value : goal.returns-clause-value
returns-clause-value c =
    shared_is c.args.artery.now c.args.plan.now c.in_ok-with_part.with_part c.in_ok-with_part.ensures.value c.in_ok-with_part.ensures.none
    c.in_ok-with_offsets.with_offsets c.in_ok-with_offsets.ensures.value c.in_ok-with_offsets.ensures.none
    c.in_ok-with_out.with_out c.in_ok-with_out.ensures.value c.in_ok-with_out.ensures.none c.common-4.result c.common-4.ensures.value

pub returns-clause-so_far : goal.returns-clause-so_far
returns-clause-so_far c =
    so_far c.args.artery.now c.args.plan.now c.in_ok-with_part.with_part c.in_ok-with_part.ensures.value c.in_ok-with_part.ensures.none
    c.in_ok-with_offsets.with_offsets c.in_ok-with_offsets.ensures.value c.in_ok-with_offsets.ensures.none
    c.in_ok-with_out.with_out c.in_ok-with_out.ensures.value c.in_ok-with_out.ensures.none c.common-4.result c.common-4.ensures.none

pub returns-clause-first : goal.returns-clause-first
returns-clause-first c =
    first_in c.args.artery.now c.args.plan.now c.in_ok-with_part.with_part c.in_ok-with_part.ensures.value c.in_ok-with_part.ensures.none
    c.in_ok-with_offsets.with_offsets c.in_ok-with_offsets.ensures.value c.in_ok-with_offsets.ensures.none
    c.in_ok-with_out.with_out c.in_ok-with_out.ensures.value c.in_ok-with_out.ensures.none c.common-4.result c.common-4.ensures.first
