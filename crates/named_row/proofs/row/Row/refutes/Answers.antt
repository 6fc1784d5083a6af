use Rattle.std.proofs.Common.{pos, length, sym, ◌∙◌, ap, ap₂}
use Rattle.std.specs.Ordering.{is_le}
use Rattle.rational_theory.specs.Rational.{whole}
use Rattle.rational_theory.specs.Compare.{cmp_ℚ}
use Rattle.narrow_fraction.specs.Attempt.{attempt, first_below}
use Rattle.narrow_fraction.proofs.Attempt.{attempt_err, attempt_ok}
use Rattle.named_row.specs.Sheets.{Sheet}
use Rattle.named_row.specs.Covering.{below, number_at}
use Rattle.named_row.proofs.Whole.{cell_unrefuted, bound_unrefuted, all_refuted, refutes}
use Rattle.named_row.proofs.row.Row.refutes.Goals as goal

pub returns-in-Err-clause-outcome : goal.returns-in-Err-clause-outcome
returns-in-Err-clause-outcome c =
    let a = c.deref.ensures.value ∙ ap (λ (t : Sheet). t.coefs) c.self.view_is in
    let e = ap (λ x. first_below (λ j. below (number_at x j) (whole (pos 0)) j) (length x)) (sym a) ∙ attempt_err _ _ _ c.in-Err.ensures in
    sym (ap (λ o. attempt o tt) (cell_unrefuted c.args.self.now c.in-Err.place e))

pub returns-then-le-clause-outcome : goal.returns-then-le-clause-outcome
returns-then-le-clause-outcome c =
    let a = c.deref.ensures.value ∙ ap (λ (t : Sheet). t.coefs) c.self.view_is in
    let e = ap (λ x. first_below (λ j. below (number_at x j) (whole (pos 0)) j) (length x)) (sym a) ∙ (attempt_ok _ _ _ c.in_default.ensures).0 in
    let t = c.if-le.ensures ∙ ap₂ (λ z (t : Sheet). is_le (cmp_ℚ z t.bound)) c.whole.ensures c.self.view_is in
    sym (ap (λ o. attempt o tt) (bound_unrefuted c.args.self.now e t))

pub returns-clause-outcome : goal.returns-clause-outcome
returns-clause-outcome c =
    let a = c.deref.ensures.value ∙ ap (λ (t : Sheet). t.coefs) c.self.view_is in
    let e = ap (λ x. first_below (λ j. below (number_at x j) (whole (pos 0)) j) (length x)) (sym a) ∙ (attempt_ok _ _ _ c.in_default.ensures).0 in
    let t = c.if-le.ensures ∙ ap₂ (λ z (t : Sheet). is_le (cmp_ℚ z t.bound)) c.whole.ensures c.self.view_is in
    sym (ap (λ o. attempt o tt) (all_refuted c.args.self.now e t))

pub returns-clause-refutes : goal.returns-clause-refutes
returns-clause-refutes c =
    let a = c.deref.ensures.value ∙ ap (λ (t : Sheet). t.coefs) c.self.view_is in
    let e = ap (λ x. first_below (λ j. below (number_at x j) (whole (pos 0)) j) (length x)) (sym a) ∙ (attempt_ok _ _ _ c.in_default.ensures).0 in
    let t = c.if-le.ensures ∙ ap₂ (λ z (t : Sheet). is_le (cmp_ℚ z t.bound)) c.whole.ensures c.self.view_is in
    refutes c.args.self.now e t
