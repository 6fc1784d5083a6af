use Rattle.std.proofs.Common.{◌≡◌, ◌+◌, refl, ◌∙◌, ap, arith}
use Rattle.std.proofs.Math.ListN.{set}
use Rattle.simplex_theory.specs.Tableau.{width}
use Rattle.fraction_tableau.specs.NamedTableaus.{NamedTableau, with_row}
use Rattle.fraction_tableau.proofs.Tableaus.{row_is}
use Rattle.std.proofs.lemmas.Grind.{common_steps}
use Rattle.fraction_tableau.proofs.tableau.Tableau.load.Goals as goal

pub returns : goal.returns
returns c =
    let i = c.self.inside in
    let t : NamedTableau = record { table = record { rows = i.sparse_rows.items; goal = i.goal; basic = i.basic.items; standing = i.standing.items }; names = i.names.items; spent = i.spent } in
    let a = ap (set i.sparse_rows.items c.args.row) c.load.ensures.cells in
    let w : c.len.result + c.args.row ≡ width t.table + c.args.row = omega (arith, c.len.ensures, i.standing.ok.0) in
    let b = ap (set i.basic.items c.args.row) w in
    row_is t c.args.row c.args.name c.args.from.now _ _ _ a b refl ∙ ap (with_row c.args.row c.args.name c.args.from.now) c.self.view_is

pub invariant_of-self : goal.invariant_of-self
invariant_of-self c = grind (arith, common_steps)
