use Rattle.std.proofs.Common.{sym, subst}
use Rattle.program_builder.specs.Entry.{IsBasisOf}
use Rattle.branch_tree.proofs.Opens.{part_boxed, part_basis, part_begins}
use Rattle.branch_tree.proofs.artery.WholeBandsSought.begin_part.Goals as goal

pub enter_remembering-requires-clause-boxed : goal.enter_remembering-requires-clause-boxed
enter_remembering-requires-clause-boxed c =
    let (parent, line, place, p) = c.requires.part in
    part_boxed c.args.self.now.artery.now c.args.kept.now c.args.area.now parent line place p

pub enter_remembering-requires-clause-basis : goal.enter_remembering-requires-clause-basis
enter_remembering-requires-clause-basis c =
    let (parent, line, place, p) = c.requires.part in
    subst (IsBasisOf c.args.self.now.artery.now) (sym c.as_slice-basis.ensures.value) (part_basis c.args.self.now.artery.now c.args.kept.now c.args.area.now parent line place c.known_valid.ensures p)

pub returns-clause-first : goal.returns-clause-first
returns-clause-first c = λ parent line place p.
    let e = c.in_ok-_entered.ensures in
    part_begins c.args.self.now.artery.now c.args.kept.now c.args.area.now parent line place _ _ _ p c.as_slice-basis.ensures.value e.outcome e.state

pub returns-clause-boxed : goal.returns-clause-boxed
returns-clause-boxed c =
    let (parent, line, place, p) = c.requires.part in
    part_boxed c.args.self.now.artery.now c.args.kept.now c.args.area.now parent line place p

pub returns-clause-spare : goal.returns-clause-spare
returns-clause-spare c = record { loaded = c.requires.spare.loaded; memory = c.enter_remembering.ensures.memory }

pub returns-in_err-_entered-clause-boxed : goal.returns-in_err-_entered-clause-boxed
returns-in_err-_entered-clause-boxed c =
    let (parent, line, place, p) = c.requires.part in
    part_boxed c.args.self.now.artery.now c.args.kept.now c.args.area.now parent line place p

pub returns-in_err-_entered-clause-spare : goal.returns-in_err-_entered-clause-spare
returns-in_err-_entered-clause-spare c = record { loaded = c.requires.spare.loaded; memory = c.enter_remembering.ensures.memory }
