use Rattle.std.proofs.Common.{◌∙◌, ap}
use Rattle.linear_theory.specs.Boxes.{IsBoxOf}
use Rattle.box_search.proofs.Opens.{part_is_for}
use Rattle.multi_band.specs.LinkOpening.{opened_links}
use Rattle.multi_band.specs.LinkRules.{link_rules}
use Rattle.multi_band.specs.laws.LinkLines.{link_boxed}
use Rattle.multi_band.proofs.program.ArteryLinksSought.begin_part.Goals as goal

pub reset_links-requires-clause-boxed : goal.reset_links-requires-clause-boxed
reset_links-requires-clause-boxed c =
    let (parent, line, place, p) = c.requires.part in
    let a = c.args.self.now.artery.now in
    part_is_for (link_rules a) (IsBoxOf a) (link_boxed a) _ c.args.area.now parent line place p

pub returns-clause-boxed : goal.returns-clause-boxed
returns-clause-boxed c =
    let (parent, line, place, p) = c.requires.part in
    let a = c.args.self.now.artery.now in
    part_is_for (link_rules a) (IsBoxOf a) (link_boxed a) _ c.args.area.now parent line place p

pub returns-clause-first : goal.returns-clause-first
returns-clause-first c = λ parent line place p. c.reset_links.ensures.opened.opened ∙ ap (opened_links c.args.self.now.artery.now) p.area_is

pub returns-clause-made : goal.returns-clause-made
returns-clause-made c = c.reset_links.ensures.opened.made
