use Rattle.std.proofs.Common.{◌≡◌, ◌==◌, ◌||◌, not, Bool, true, false}
use Rattle.std.proofs.lemmas.Result.{err_from_is_err_and}
use Rattle.artery_model.proofs.Chains.{first_named, later_named, later_judged, last_judged}
use Rattle.artery_model.proofs.ranges.check_head.Goals.{then-not-head, else-not-head}
use Rattle.artery_model.proofs.ranges.check_head.Goals as goal

or_then : (v a b : Bool) → a ≡ false → v ≡ not a → v ≡ (not a || b)
or_then v a b p e = rw p (rw p at e)

or_else : (v a b : Bool) → a ≡ true → v ≡ b → v ≡ (not a || b)
or_else v a b p e = rw p e

pub returns-in_err-check : goal.returns-in_err-check
returns-in_err-check c =
    let p = err_from_is_err_and c.from_residual.result c.from_residual.ensures.1 in
    let flaw = c.in_err-check.field-0.0 in
    rw (p.1, p.2) (first_named flaw _ _ (rw c.is_name_if_there-named.ensures at c.in_err-check.ensures))

pub returns-in_err-check-2 : goal.returns-in_err-check-2
returns-in_err-check-2 c =
    let p = err_from_is_err_and c.from_residual-in_err-check-2.result c.from_residual-in_err-check-2.ensures.1 in
    let flaw = c.in_err-check-2.field-0.0 in
    rw (p.1, p.2) (later_named flaw _ _ (rw c.is_name_if_there-named.ensures at c.in_ok-check.ensures) (first_named flaw _ _ (rw c.is_between-parts.ensures at c.in_err-check-2.ensures)))

pub returns-in_err-check_pair : goal.returns-in_err-check_pair
returns-in_err-check_pair c =
    let p = err_from_is_err_and c.from_residual-in_err-check_pair.result c.from_residual-in_err-check_pair.ensures.1 in
    let flaw = c.in_err-check_pair.field-0.0 in
    rw (p.1, p.2) (later_named flaw _ _ (rw c.is_name_if_there-named.ensures at c.in_ok-check.ensures)
    (later_named flaw _ _ (rw c.is_between-parts.ensures at c.in_ok-check-2.ensures) (first_named flaw _ _ c.in_err-check_pair.ensures)))

pub returns-in_err-check-3 : goal.returns-in_err-check-3
returns-in_err-check-3 c =
    let p = err_from_is_err_and c.from_residual-in_err-check-3.result c.from_residual-in_err-check-3.ensures.1 in
    let flaw = c.in_err-check-3.field-0.0 in
    rw (p.1, p.2) (later_named flaw _ _ (rw c.is_name_if_there-named.ensures at c.in_ok-check.ensures)
    (later_named flaw _ _ (rw c.is_between-parts.ensures at c.in_ok-check-2.ensures) (later_named flaw _ _ c.in_ok-check_pair.ensures
    (first_named flaw _ _ (rw c.is_within-ratio.ensures at c.in_err-check-3.ensures)))))

pub returns-in_err-check-4 : goal.returns-in_err-check-4
returns-in_err-check-4 c =
    let p = err_from_is_err_and c.from_residual-in_err-check-4.result c.from_residual-in_err-check-4.ensures.1 in
    let flaw = c.in_err-check-4.field-0.0 in
    rw (p.1, p.2) (later_named flaw _ _ (rw c.is_name_if_there-named.ensures at c.in_ok-check.ensures)
    (later_named flaw _ _ (rw c.is_between-parts.ensures at c.in_ok-check-2.ensures) (later_named flaw _ _ c.in_ok-check_pair.ensures
    (later_named flaw _ _ (rw c.is_within-ratio.ensures at c.in_ok-check-3.ensures) (first_named flaw _ _ (rw c.is_share-out.ensures at c.in_err-check-4.ensures))))))

pub returns-in_err-check-5 : goal.returns-in_err-check-5
returns-in_err-check-5 c =
    let p = err_from_is_err_and c.from_residual-in_err-check-5.result c.from_residual-in_err-check-5.ensures.1 in
    let flaw = c.in_err-check-5.field-0.0 in
    rw (p.1, p.2) (later_named flaw _ _ (rw c.is_name_if_there-named.ensures at c.in_ok-check.ensures)
    (later_named flaw _ _ (rw c.is_between-parts.ensures at c.in_ok-check-2.ensures) (later_named flaw _ _ c.in_ok-check_pair.ensures
    (later_named flaw _ _ (rw c.is_within-ratio.ensures at c.in_ok-check-3.ensures) (later_named flaw _ _ (rw c.is_share-out.ensures at c.in_ok-check-4.ensures)
    (first_named flaw _ _ (rw c.is_share-back.ensures at c.in_err-check-5.ensures)))))))

pub returns : goal.returns
returns c =
    let equal : c.if-not-head.equal ≡ (not c.args.head.now.equal || c.args.head.now.version == 2) = elim c.if-not-head.branch [
      | then-not-head w ↦ or_then _ _ _ w.if-not-head.true w.equal-is
      | else-not-head w ↦ or_else _ _ _ w.if-not-head.false w.equal-is
    ] in
    later_judged c.check-6.result _ _ (rw c.is_name_if_there-named.ensures at c.in_ok-check.ensures)
    (later_judged c.check-6.result _ _ (rw c.is_between-parts.ensures at c.in_ok-check-2.ensures)
    (later_judged c.check-6.result _ _ c.in_ok-check_pair.ensures (later_judged c.check-6.result _ _ (rw c.is_within-ratio.ensures at c.in_ok-check-3.ensures)
    (later_judged c.check-6.result _ _ (rw c.is_share-out.ensures at c.in_ok-check-4.ensures)
    (later_judged c.check-6.result _ _ (rw c.is_share-back.ensures at c.in_ok-check-5.ensures) (last_judged c.check-6.result _ (rw equal at c.check-6.ensures)))))))
