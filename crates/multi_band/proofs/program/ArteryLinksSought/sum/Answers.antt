use Rattle.std.proofs.Common.{List, map, subst, sym, ◌∙◌, ap}
use Rattle.rational_theory.specs.Rows as maths
use Rattle.named_row.specs.declared.leaves.Weight.{Weight}
use Rattle.named_row.specs.Sheets.{Sheet, at_place}
use Rattle.loop_rows.specs.Weights.{fault_of, IsFirstFault}
use Rattle.link_theory.specs.LinkTrees.{AreLinkWeights}
use Rattle.link_space.specs.LinkWeights.{link_named, link_rows}
use Rattle.box_search.proofs.LeafFaults.{rows_only_wide}
use Rattle.multi_band.proofs.LinkEnds.{link_sum_read}
use Rattle.multi_band.specs.laws.LinkLeaves.{link_total_bound}
use Rattle.multi_band.proofs.LinkLeaves.{link_rows_there}
use Rattle.multi_band.specs.laws.LinkLines.{link_end_weights}
use Rattle.multi_band.proofs.program.ArteryLinksSought.sum.Goals as goal

pub unreachable-requires : goal.unreachable-requires
unreachable-requires c =
    let a = c.args.self.now.artery.now in
    let ws = c.args.leaf.now.multipliers.items in
    let rows = subst (λ (us : List Weight). AreLinkWeights a (map link_named us)) (sym c.requires.leaf.2) (link_end_weights a c.requires.leaf.0 c.known_valid.ensures) in
    rows_only_wide (link_rows a c.args.area.now) ws (link_rows_there a c.args.area.now ws rows) _
    (subst (IsFirstFault (fault_of (link_rows a c.args.area.now) ws)) c.in-Err-NoSuchRow.field-0-is c.in-Err-NoSuchRow.ensures.fault)

pub unreachable-requires-in-Err-Negative : goal.unreachable-requires-in-Err-Negative
unreachable-requires-in-Err-Negative c =
    let a = c.args.self.now.artery.now in
    let ws = c.args.leaf.now.multipliers.items in
    let rows = subst (λ (us : List Weight). AreLinkWeights a (map link_named us)) (sym c.requires.leaf.2) (link_end_weights a c.requires.leaf.0 c.known_valid.ensures) in
    rows_only_wide (link_rows a c.args.area.now) ws (link_rows_there a c.args.area.now ws rows) _
    (subst (IsFirstFault (fault_of (link_rows a c.args.area.now) ws)) c.in-Err-Negative.field-0-is c.in-Err-Negative.ensures.fault)

pub returns-in-Ok : goal.returns-in-Ok
unfolding at_place
returns-in-Ok c =
    let a = c.args.self.now.artery.now in
    let ws = c.args.leaf.now.multipliers.items in (
      c.in-Ok.ensures.none,
      c.get.ensures ∙ ap (λ (s : Sheet). s.bound) c.in-Ok.ensures.sum ∙ link_total_bound a c.args.area.now c.known_valid.ensures.few ws
          ∙ ap (λ (r : maths.Row). r.bound) (sym (link_sum_read a c.args.area.now ws)),
    )
