use Rattle.std.proofs.Common.{[], sym, ◌∙◌, ap, subst, ◌<◌}
use Rattle.std.proofs.Math.ListN.{set}
use Rattle.std.proofs.lemmas.List.{get_or_default}
use Rattle.simplex_theory.specs.Tableau.{height}
use Rattle.fraction_tableau.specs.NamedTableaus.{NamedTableau, rebound, with_bound}
use Rattle.fraction_tableau.proofs.Tableaus.{bound_is}
use Rattle.fraction_tableau.proofs.tableau.Tableau.set_bound.Goals as goal

pub returns : goal.returns
returns c =
    let i = c.self.inside in
    let t : NamedTableau = record { table = record { rows = i.sparse_rows.items; goal = i.goal; basic = i.basic.items; standing = i.standing.items }; names = i.names.items; spent = i.spent } in
    let row : c.args.row < height t.table = subst (λ (u : NamedTableau). c.args.row < height u.table) (sym c.self.view_is) c.requires in
    let e = c.index_mut.ensures.value ∙ get_or_default i.sparse_rows.items c.args.row c.index_mut.result.now [] row in
    bound_is t c.args.row c.args.bound _ (ap (set i.sparse_rows.items c.args.row) (c.set_bound.ensures.bound ∙ ap (rebound c.args.bound) e)) ∙ ap (with_bound c.args.row c.args.bound) c.self.view_is
