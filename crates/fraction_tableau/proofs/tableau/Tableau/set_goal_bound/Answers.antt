use Rattle.std.proofs.Common.{◌∙◌, ap}
use Rattle.fraction_tableau.specs.NamedTableaus.{NamedTableau, with_goal_bound}
use Rattle.fraction_tableau.proofs.Tableaus.{goal_bound_is}
use Rattle.fraction_tableau.proofs.tableau.Tableau.set_goal_bound.Goals as goal

pub returns : goal.returns
returns c =
    let i = c.self.inside in
    let t : NamedTableau = record { table = record { rows = i.sparse_rows.items; goal = i.goal; basic = i.basic.items; standing = i.standing.items }; names = i.names.items; spent = i.spent } in
    goal_bound_is t c.args.bound _ c.set_bound.ensures.bound ∙ ap (with_goal_bound c.args.bound) c.self.view_is
