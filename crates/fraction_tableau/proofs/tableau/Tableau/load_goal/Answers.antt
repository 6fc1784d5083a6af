use Rattle.std.proofs.Common.{◌≡◌, length, sym, ◌∙◌, ap, arith}
use Rattle.std.specs.Vec.{with_items}
use Rattle.std.specs.List.{range_with_len}
use Rattle.std.proofs.lemmas.List.{with_items_is}
use Rattle.simplex_theory.specs.Tableau.{width}
use Rattle.fraction_tableau.specs.NamedTableaus.{NamedTableau, with_goal}
use Rattle.fraction_tableau.proofs.Tableaus.{goal_is}
use Rattle.std.proofs.lemmas.Grind.{common_steps}
use Rattle.fraction_tableau.proofs.tableau.Tableau.load_goal.Goals as goal

pub returns : goal.returns
returns c =
    let i = c.self.inside in
    let t : NamedTableau = record { table = record { rows = i.sparse_rows.items; goal = i.goal; basic = i.basic.items; standing = i.standing.items }; names = i.names.items; spent = i.spent } in
    let b : (with_items i.standing c.count_up.new.numbers).items ≡ range_with_len 0 (width t.table) =
    with_items_is i.standing c.count_up.new.numbers (c.count_up.auto.numbers ∙ ap length c.deref_mut.ensures.value ∙ sym i.standing.ok.0) ∙ c.count_up.ensures
    ∙ ap (λ l. range_with_len 0 (length l)) c.deref_mut.ensures.value in
    goal_is t c.args.from.now _ _ c.load_goal.ensures.cells b ∙ ap (with_goal c.args.from.now) c.self.view_is

pub invariant_of-self : goal.invariant_of-self
invariant_of-self c = grind (arith, common_steps)
