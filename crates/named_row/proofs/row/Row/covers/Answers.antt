use Rattle.std.proofs.Common.{length, sym, ◌∙◌, ap, ap₂}
use Rattle.std.specs.Ordering.{is_lt}
use Rattle.rational_theory.specs.Compare.{cmp_ℚ}
use Rattle.narrow_fraction.specs.Attempt.{attempt, first_below}
use Rattle.narrow_fraction.proofs.Attempt.{attempt_err, attempt_ok}
use Rattle.named_row.specs.Sheets.{Sheet}
use Rattle.named_row.specs.Covering.{below, number_at}
use Rattle.named_row.proofs.Whole.{cell_uncovered, bound_uncovered, all_covered, covers}
use Rattle.named_row.proofs.row.Row.covers.Goals as goal

pub returns-in-Err-clause-outcome : goal.returns-in-Err-clause-outcome
returns-in-Err-clause-outcome c =
    let a = c.deref.ensures.value ∙ ap (λ (t : Sheet). t.coefs) c.self.view_is in
    let b = c.deref-2.ensures.value ∙ ap (λ (t : Sheet). t.coefs) c.goal.view_is in
    let e = ap₂ (λ x y. first_below (λ j. below (number_at x j) (number_at y j) j) (length x)) (sym a) (sym b) ∙ attempt_err _ _ _ c.in-Err.ensures in
    sym (ap (λ o. attempt o tt) (cell_uncovered c.args.self.now c.args.goal.now c.args.value c.in-Err.place e))

pub returns-then-lt-clause-outcome : goal.returns-then-lt-clause-outcome
returns-then-lt-clause-outcome c =
    let a = c.deref.ensures.value ∙ ap (λ (t : Sheet). t.coefs) c.self.view_is in
    let b = c.deref-2.ensures.value ∙ ap (λ (t : Sheet). t.coefs) c.goal.view_is in
    let e = ap₂ (λ x y. first_below (λ j. below (number_at x j) (number_at y j) j) (length x)) (sym a) (sym b) ∙ (attempt_ok _ _ _ c.in_default.ensures).0 in
    let t = c.if-lt.ensures ∙ ap (λ (t : Sheet). is_lt (cmp_ℚ c.args.value t.bound)) c.self.view_is in
    sym (ap (λ o. attempt o tt) (bound_uncovered c.args.self.now c.args.goal.now c.args.value e t))

pub returns-clause-outcome : goal.returns-clause-outcome
returns-clause-outcome c =
    let a = c.deref.ensures.value ∙ ap (λ (t : Sheet). t.coefs) c.self.view_is in
    let b = c.deref-2.ensures.value ∙ ap (λ (t : Sheet). t.coefs) c.goal.view_is in
    let e = ap₂ (λ x y. first_below (λ j. below (number_at x j) (number_at y j) j) (length x)) (sym a) (sym b) ∙ (attempt_ok _ _ _ c.in_default.ensures).0 in
    let t = c.if-lt.ensures ∙ ap (λ (t : Sheet). is_lt (cmp_ℚ c.args.value t.bound)) c.self.view_is in
    sym (ap (λ o. attempt o tt) (all_covered c.args.self.now c.args.goal.now c.args.value e t))

pub returns-clause-covers : goal.returns-clause-covers
returns-clause-covers c =
    let a = c.deref.ensures.value ∙ ap (λ (t : Sheet). t.coefs) c.self.view_is in
    let b = c.deref-2.ensures.value ∙ ap (λ (t : Sheet). t.coefs) c.goal.view_is in
    let e = ap₂ (λ x y. first_below (λ j. below (number_at x j) (number_at y j) j) (length x)) (sym a) (sym b) ∙ (attempt_ok _ _ _ c.in_default.ensures).0 in
    let t = c.if-lt.ensures ∙ ap (λ (t : Sheet). is_lt (cmp_ℚ c.args.value t.bound)) c.self.view_is in
    covers c.args.self.now c.args.goal.now c.args.value e t
