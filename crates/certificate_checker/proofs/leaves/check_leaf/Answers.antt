use Rattle.std.proofs.Common.{sym, ◌∙◌, ap}
use Rattle.narrow_fraction.proofs.Attempt.{attempt_ok, attempt_err}
use Rattle.certificate_checker.specs.TreeRefusals.{weakness}
use Rattle.certificate_checker.proofs.LeafRefusals.{leaf_rejected, leaf_weak, leaf_right}
use Rattle.certificate_checker.proofs.leaves.check_leaf.Goals as goal

pub returns-in-Err-clause-first : goal.returns-in-Err-clause-first
returns-in-Err-clause-first g c =
    rw c.rejected.ensures (leaf_rejected _ ((g.K.CheckedKind.kind c.args.kind.now).rows c.args.area.now) c.args.aim.now c.args.number
    c.args.leaf.now.multipliers.items c.in-Err.fault c.in-Err.ensures.fault)

pub returns-in-Ok-shown-clause-none : goal.returns-in-Ok-shown-clause-none
returns-in-Ok-shown-clause-none g c =
    let none = (attempt_ok _ _ _ c.in-Ok-shown.ensures).0 in
    leaf_right _ ((g.K.CheckedKind.kind c.args.kind.now).rows c.args.area.now) c.args.aim.now c.args.number c.args.leaf.now.multipliers.items c.in-Ok.ensures.none
    (ap (λ r. weakness r c.args.aim.now.goal c.args.aim.now.limit) (sym c.in-Ok.ensures.sum) ∙ none)

pub returns-clause-first : goal.returns-clause-first
returns-clause-first g c =
    let some = attempt_err _ _ _ c.in-Err-shown.ensures in
    leaf_weak _ ((g.K.CheckedKind.kind c.args.kind.now).rows c.args.area.now) c.args.aim.now c.args.number c.args.leaf.now.multipliers.items c.in-Err-shown.place c.in-Ok.ensures.none
    (ap (λ r. weakness r c.args.aim.now.goal c.args.aim.now.limit) (sym c.in-Ok.ensures.sum) ∙ some)
