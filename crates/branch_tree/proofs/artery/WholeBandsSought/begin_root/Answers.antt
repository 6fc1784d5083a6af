use Rattle.std.proofs.Common.{sym, ◌∙◌, subst}
use Rattle.linear_theory.specs.Boxes.{IsBoxOf}
use Rattle.branch_tree.proofs.Opens.{root_first}
use Rattle.branch_tree.proofs.artery.WholeBandsSought.begin_root.Goals as goal

pub reset_from-requires-clause-boxed : goal.reset_from-requires-clause-boxed
reset_from-requires-clause-boxed c = subst (IsBoxOf c.args.self.now.artery.now) (sym c.requires.root) c.known_searchable.ensures.root

pub returns-clause-boxed : goal.returns-clause-boxed
returns-clause-boxed c = subst (IsBoxOf c.args.self.now.artery.now) (sym c.requires.root) c.known_searchable.ensures.root

pub returns-clause-first : goal.returns-clause-first
returns-clause-first c = c.reset_from.ensures.opened ∙ root_first c.args.self.now.artery.now c.args.area.now
