use Rattle.std.proofs.Common.{◌∙◌, ◌-◌, ℕ, Option, ap, sym, arith}
use Rattle.std.proofs.lemmas.Result.{err_from_is_err_and}
use Rattle.progression.specs.Street.{count}
use Rattle.narrow_fraction.specs.Attempt.{attempt}
use Rattle.narrow_fraction.proofs.Attempt.{attempt_ok, attempt_err}
use Rattle.recovery_theory.specs.Ticks.{ticks_in}
use Rattle.offset_recovery.specs.declared.outcome.WideTiming.{WideTiming}
use Rattle.offset_recovery.specs.Tests.{number_test}
use Rattle.offset_recovery.specs.ByLink.{from_first}
use Rattle.offset_recovery.proofs.Firsts.{none_after, some_after}
use Rattle.offset_recovery.proofs.links.check_by_link.Goals as goal

pub returns-in_err-check_number : goal.returns-in_err-check_number
returns-in_err-check_number c =
    let p = err_from_is_err_and c.from_residual.result c.from_residual.ensures.1 in
    let a = c.args.artery.now in let x = c.args.point.now.values.items in let at = from_first c.args.first in
    let refused = ap (number_test (at c.loop-link.link)) (sym c.column_ticks-ticks.ensures) ∙ attempt_err _ _ _ c.in_err-check_number.ensures in
    rw (p.1, p.2)
    (ap (λ (o : Option WideTiming). attempt o tt) (sym (some_after (λ (i : ℕ). number_test (at i) (ticks_in a x (at i))) c.loop-link.link (count a - 1)
    c.in_err-check_number.field-0.0 c.loop-link.auto.link (omega arith) c.loop-link.invariant refused)))

pub loop-link-preserved : goal.loop-link-preserved
loop-link-preserved c =
    let a = c.args.artery.now in let x = c.args.point.now.values.items in let at = from_first c.args.first in
    none_after (λ (i : ℕ). number_test (at i) (ticks_in a x (at i))) c.loop-link.link c.loop-link.auto.link c.loop-link.invariant
    (ap (number_test (at c.loop-link.link)) (sym c.column_ticks-ticks.ensures) ∙ (attempt_ok _ _ _ c.in_ok-check_number.ensures).0)
