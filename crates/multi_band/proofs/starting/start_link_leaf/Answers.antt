use Rattle.std.proofs.Common.{◌≡◌, List, map, sym, ◌∙◌, ap, ap₂, subst}
use Rattle.progression.specs.Street.{Street}
use Rattle.rational_theory.specs.Rational.{ℚ}
use Rattle.linear_theory.specs.Boxes.{Area, root_box}
use Rattle.named_row.specs.declared.leaves.Weight.{Weight}
use Rattle.loop_rows.specs.Weights.{fault_of}
use Rattle.link_theory.specs.LinkTrees.{link_sum, AreLinkWeights, CoversLinks}
use Rattle.link_space.specs.LinkWeights.{link_named, link_rows}
use Rattle.multi_band.specs.LinkStarts.{link_start_leaf, link_start_bound}
use Rattle.multi_band.proofs.LinkStarts.{start_links_there, start_links_cover}
use Rattle.multi_band.proofs.LinkStartFits.{start_links_fit}
use Rattle.multi_band.proofs.starting.start_link_leaf.Goals as goal

pub bound_of-requires-clause-fits : goal.bound_of-requires-clause-fits
bound_of-requires-clause-fits c = ap (fault_of (link_rows c.args.artery.now c.in_ok-area.area)) c.in_ok-leaf.ensures ∙ start_links_fit c.args.artery.now c.known_valid.ensures c.in_ok-area.area

bound_is : (a : Street) (box : Area) (ws : List Weight) → box ≡ root_box a → ws ≡ link_start_leaf a → (link_sum a box (map link_named ws)).bound ≡ link_start_bound a
unfolding link_start_bound
bound_is a box ws e f = ap₂ (λ b us. (link_sum a b (map link_named us)).bound) e f

pub returns-clause-bound : goal.returns-clause-bound
returns-clause-bound c = c.in_ok-bound.ensures ∙ bound_is c.args.artery.now c.in_ok-area.area c.in_ok-leaf.leaf.multipliers.items c.in_ok-area.ensures.value c.in_ok-leaf.ensures

pub returns-clause-rows : goal.returns-clause-rows
returns-clause-rows c = subst (λ ws. AreLinkWeights c.args.artery.now (map link_named ws)) (sym c.in_ok-leaf.ensures) (start_links_there c.args.artery.now c.known_valid.ensures)

pub returns-clause-covers : goal.returns-clause-covers
returns-clause-covers c =
    let a = c.args.artery.now in
    let bound : c.in_ok-bound.bound ≡ link_start_bound a = c.in_ok-bound.ensures ∙ bound_is a c.in_ok-area.area c.in_ok-leaf.leaf.multipliers.items c.in_ok-area.ensures.value c.in_ok-leaf.ensures in
    subst (λ (x : ℚ). CoversLinks a x (link_sum a (root_box a) (map link_named c.in_ok-leaf.leaf.multipliers.items))) (sym bound)
    (subst (λ ws. CoversLinks a (link_start_bound a) (link_sum a (root_box a) (map link_named ws))) (sym c.in_ok-leaf.ensures) (start_links_cover a c.known_valid.ensures))
