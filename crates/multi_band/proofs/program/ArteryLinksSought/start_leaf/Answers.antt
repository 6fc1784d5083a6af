use Rattle.std.proofs.Common.{Some, sym, subst}
use Rattle.linear_theory.specs.Boxes.{root_box}
use Rattle.multi_band.specs.LinkStarts.{link_start_bound}
use Rattle.multi_band.specs.LinkRelaxed.{IsLinkLeaf}
use Rattle.multi_band.proofs.LinkLeafProofs.{start_links_prove}
use Rattle.multi_band.proofs.program.ArteryLinksSought.start_leaf.Goals as goal

pub returns-clause-covers : goal.returns-clause-covers
returns-clause-covers c =
    let a = c.args.self.now.artery.now in
    subst (λ x. IsLinkLeaf a (Some x) (root_box a) c.in_ok-start.start.0.multipliers.items) (sym c.in_ok-start.ensures.bound)
    (subst (λ ws. IsLinkLeaf a (Some (link_start_bound a)) (root_box a) ws) (sym c.in_ok-start.ensures.leaf) (start_links_prove a c.known_valid.ensures))
