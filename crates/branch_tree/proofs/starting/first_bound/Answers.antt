use Rattle.std.proofs.Common.{◌≡◌, List, Some, sym, ◌∙◌, ap, ap₂, subst}
use Rattle.narrow_fraction.proofs.Attempt.{some_not_none}
use Rattle.progression.specs.Street.{Street}
use Rattle.artery_model.specs.Valid.{IsValid}
use Rattle.linear_theory.specs.Boxes.{Area, root_box}
use Rattle.named_row.specs.Sheets.{Sheet, at_place}
use Rattle.named_row.specs.declared.leaves.Weight.{Weight}
use Rattle.loop_rows.specs.Weights.{leaf_fault, IsFirstFault}
use Rattle.loop_rows.specs.declared.fault.SumFault.{SumFault}
use Rattle.loop_rows.proofs.LeafSums.{total_bound}
use Rattle.branch_tree.specs.LeafRows.{sum_of}
use Rattle.branch_tree.specs.Starts.{start_leaf, start_bound}
use Rattle.branch_tree.proofs.StartFits.{start_fits}
use Rattle.branch_tree.proofs.starting.first_bound.Goals as goal

-- no operation of the sum is refused
no_fault : (a : Street) (box : Area) (ws : List Weight) (f : SumFault) → IsValid a → ws ≡ start_leaf a → leaf_fault a box ws ≡ Some f → ⊥
no_fault a box ws f v e h = some_not_none (sym h ∙ ap (leaf_fault a box) e ∙ start_fits a v box)

bound_is : (a : Street) (box : Area) (ws : List Weight) → box ≡ root_box a → ws ≡ start_leaf a → (sum_of a box ws).bound ≡ start_bound a
unfolding start_bound
bound_is a box ws e f = ap₂ (λ b us. (sum_of a b us).bound) e f

pub unreachable-requires : goal.unreachable-requires
unreachable-requires c =
    let a = c.args.artery.now in
    let ws = c.args.leaf.now.multipliers.items in
    no_fault a c.in_ok-area.area ws _ c.known_valid.ensures c.requires (subst (IsFirstFault (leaf_fault a c.in_ok-area.area ws)) c.in-Err-NoSuchRow.field-0-is c.in-Err-NoSuchRow.ensures.fault)

pub unreachable-requires-in-Err-Negative : goal.unreachable-requires-in-Err-Negative
unreachable-requires-in-Err-Negative c =
    let a = c.args.artery.now in
    let ws = c.args.leaf.now.multipliers.items in
    no_fault a c.in_ok-area.area ws _ c.known_valid.ensures c.requires (subst (IsFirstFault (leaf_fault a c.in_ok-area.area ws)) c.in-Err-Negative.field-0-is c.in-Err-Negative.ensures.fault)

pub unreachable-requires-in-Err-Wide : goal.unreachable-requires-in-Err-Wide
unreachable-requires-in-Err-Wide c =
    let a = c.args.artery.now in
    let ws = c.args.leaf.now.multipliers.items in
    no_fault a c.in_ok-area.area ws _ c.known_valid.ensures c.requires (subst (IsFirstFault (leaf_fault a c.in_ok-area.area ws)) c.in-Err-Wide.field-0-is c.in-Err-Wide.ensures.fault)

pub returns-in-Ok : goal.returns-in-Ok
unfolding at_place
returns-in-Ok c =
    let ws = c.args.leaf.now.multipliers.items in
    c.get.ensures ∙ ap (λ (s : Sheet). s.bound) c.in-Ok.ensures.sum ∙ total_bound c.args.artery.now c.in_ok-area.area ws
    ∙ bound_is c.args.artery.now c.in_ok-area.area ws c.in_ok-area.ensures.value c.requires
