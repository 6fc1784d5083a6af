use Rattle.std.proofs.Common.{List, map, subst, sym, ◌∙◌, ap}
use Rattle.rational_theory.specs.Rows as maths
use Rattle.linear_theory.specs.Trees.{AreWeights}
use Rattle.named_row.specs.declared.leaves.Weight.{Weight}
use Rattle.branch_tree.specs.laws.LeafWeights.{sum_read}
use Rattle.named_row.specs.Sheets.{Sheet, at_place}
use Rattle.loop_rows.specs.Weights.{named, leaf_fault, IsFirstFault}
use Rattle.loop_rows.proofs.LeafSums.{total_bound}
use Rattle.branch_tree.proofs.LeafFaults.{only_wide}
use Rattle.branch_tree.specs.laws.EndLaws.{end_rows}
use Rattle.branch_tree.proofs.artery.WholeBandsSought.sum.Goals as goal

pub unreachable-requires : goal.unreachable-requires
unreachable-requires c =
    let a = c.args.self.now.artery.now in
    let ws = c.args.leaf.now.multipliers.items in
    let rows = subst (λ (us : List Weight). AreWeights a (map named us)) (sym c.requires.leaf.2) (end_rows a c.requires.leaf.0 c.known_valid.ensures) in
    only_wide a c.args.area.now ws rows _ (subst (IsFirstFault (leaf_fault a c.args.area.now ws)) c.in-Err-NoSuchRow.field-0-is c.in-Err-NoSuchRow.ensures.fault)

pub unreachable-requires-in-Err-Negative : goal.unreachable-requires-in-Err-Negative
unreachable-requires-in-Err-Negative c =
    let a = c.args.self.now.artery.now in
    let ws = c.args.leaf.now.multipliers.items in
    let rows = subst (λ (us : List Weight). AreWeights a (map named us)) (sym c.requires.leaf.2) (end_rows a c.requires.leaf.0 c.known_valid.ensures) in
    only_wide a c.args.area.now ws rows _ (subst (IsFirstFault (leaf_fault a c.args.area.now ws)) c.in-Err-Negative.field-0-is c.in-Err-Negative.ensures.fault)

pub returns-in-Ok : goal.returns-in-Ok
unfolding at_place
returns-in-Ok c =
    let a = c.args.self.now.artery.now in
    let ws = c.args.leaf.now.multipliers.items in (
      c.in-Ok.ensures.none,
      c.get.ensures ∙ ap (λ (s : Sheet). s.bound) c.in-Ok.ensures.sum ∙ total_bound a c.args.area.now ws ∙ ap (λ (r : maths.Row). r.bound) (sym (sum_read a c.args.area.now ws)),
    )
