use Rattle.std.proofs.Common.{sym, subst}
use Rattle.linear_theory.specs.Boxes.{IsBoxOf}
use Rattle.multi_band.proofs.program.ArteryLinksSought.begin_root.Goals as goal

pub reset_links-requires-clause-boxed : goal.reset_links-requires-clause-boxed
reset_links-requires-clause-boxed c = subst (IsBoxOf c.args.self.now.artery.now) (sym c.requires.root) c.known_searchable.ensures.root

pub returns-clause-boxed : goal.returns-clause-boxed
returns-clause-boxed c = subst (IsBoxOf c.args.self.now.artery.now) (sym c.requires.root) c.known_searchable.ensures.root

pub returns-clause-first : goal.returns-clause-first
returns-clause-first c = c.reset_links.ensures.opened.opened
