use Rattle.std.proofs.Common.{◌≡◌, ◌<◌, length, refl, ap, sym, subst, arith}
use Rattle.std.proofs.lemmas.Result.{err_from_is_err_and}
use Rattle.narrow_fraction.specs.Attempt.{attempt, earlier, first_below}
use Rattle.narrow_fraction.proofs.Attempt.{attempt_ok, attempt_err, first_is, first_next, none_each}
use Rattle.recovery_theory.specs.Ticks.{in_parts, unit_of}
use Rattle.offset_recovery.specs.Tests.{product_test, unit_test}
use Rattle.offset_recovery.specs.Numbers.{IsCommon}
use Rattle.offset_recovery.proofs.Parts.{first_common, unit_found, unit_refused}
use Rattle.offset_recovery.proofs.unit.common_unit.Goals as goal

pub loop-column-init : goal.loop-column-init
loop-column-init c = record { products = refl; common = first_common c.args.artery.now c.args.point.now.values.items }

pub loop-column-preserved : goal.loop-column-preserved
loop-column-preserved c =
    let a = c.args.artery.now in let x = c.args.point.now.values.items in let j = c.loop-column.column in
    let here = attempt_ok (product_test a x j) (in_parts a x j) c.in_ok-product.product c.in_ok-product.ensures in
    record {
      products = first_next (product_test a x) j c.loop-column.invariant.products here.0;
      common = c.with_product-common.ensures a x j c.loop-column.invariant.common here.1;
    }

pub returns-in_err-product-clause-value : goal.returns-in_err-product-clause-value
returns-in_err-product-clause-value c =
    let p = err_from_is_err_and c.from_residual.result c.from_residual.ensures.1 in
    let a = c.args.artery.now in let x = c.args.point.now.values.items in
    let refused = attempt_err _ _ _ c.in_err-product.ensures in
    rw (p.1, p.2)
    (ap (λ o. attempt (earlier o (first_below (unit_test a x) (length x))) (unit_of a x))
    (sym (first_is (product_test a x) c.loop-column.column (length x) c.in_err-product.field-0.0 c.loop-column.invariant.products refused (omega arith))))

pub returns-in_err-unit-clause-value : goal.returns-in_err-unit-clause-value
returns-in_err-unit-clause-value c =
    let p = err_from_is_err_and c.from_residual-in_err-unit.result c.from_residual-in_err-unit.ensures.1 in
    let a = c.args.artery.now in let x = c.args.point.now.values.items in let j = c.loop-column.column in
    let end : j ≡ length x = omega arith in
    rw (p.1, p.2) (unit_refused a x j _ c.loop-column.invariant.products (subst (IsCommon a x j) c.in_err-unit.was c.loop-column.invariant.common) end)

pub returns-clause-value : goal.returns-clause-value
returns-clause-value c =
    let a = c.args.artery.now in let x = c.args.point.now.values.items in let j = c.loop-column.column in
    let end : j ≡ length x = omega arith in
    (unit_found a x j c.in_ok-unit.unit c.two_or.result c.loop-column.invariant.products (subst (IsCommon a x j) c.in_ok-unit.was c.loop-column.invariant.common) end c.two_or.ensures).0

pub returns-clause-small : goal.returns-clause-small
returns-clause-small c =
    let a = c.args.artery.now in let x = c.args.point.now.values.items in let j = c.loop-column.column in
    let end : j ≡ length x = omega arith in
    (unit_found a x j c.in_ok-unit.unit c.two_or.result c.loop-column.invariant.products (subst (IsCommon a x j) c.in_ok-unit.was c.loop-column.invariant.common) end c.two_or.ensures).1

pub returns-clause-products : goal.returns-clause-products
returns-clause-products c = λ j l.
    let x = c.args.point.now.values.items in
    let end : c.loop-column.column ≡ length x = omega arith in
    none_each (product_test c.args.artery.now x) c.loop-column.column c.loop-column.invariant.products j (subst (λ n. j < n) (sym end) l)
