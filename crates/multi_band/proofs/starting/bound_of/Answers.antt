use Rattle.std.proofs.Common.{◌≤◌, ◌∙◌, ap, arith}
use Rattle.progression.specs.Street.{count}
use Rattle.named_row.specs.Sheets.{Sheet, at_place}
use Rattle.loop_rows.proofs.LeafSums.{total_bound_by}
use Rattle.link_theory.specs.LinkNames.{HasLinkRow, link_row}
use Rattle.link_space.specs.LinkWeights.{link_name_at, link_rows}
use Rattle.link_space.proofs.LinkRowTests.{links_stand}
use Rattle.multi_band.proofs.starting.bound_of.Goals as goal

pub returns-in-Ok : goal.returns-in-Ok
unfolding at_place
returns-in-Ok c =
    let a = c.args.artery.now in
    let box = c.args.area.now in
    let two : 2 ≤ count a = omega (arith, c.count.ensures.few, c.count.ensures.value) in
    c.get.ensures ∙ ap (λ (s : Sheet). s.bound) c.in-Ok.ensures.sum
    ∙ total_bound_by (link_rows a box) link_name_at (HasLinkRow a) (link_row a box) (links_stand a box two) c.args.leaf.now.multipliers.items
