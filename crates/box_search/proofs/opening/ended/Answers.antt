use Rattle.std.proofs.Common.{◌∙◌, ap, subst, arith}
use Rattle.work_meter.specs.Work.{capped}
use Rattle.box_search.specs.Runs.{IsRunTo}
use Rattle.box_search.specs.Meaning.{rules_from}
use Rattle.box_search.proofs.Opens.{ok_map, read_opens, empty_opens}
use Rattle.std.proofs.lemmas.Grind.{common_steps, elements}
use Rattle.box_search.proofs.opening.ended.Goals as goal

pub returns-in-Optimal : goal.returns-in-Optimal
returns-in-Optimal g c = ok_map c.optimal_end.result _ _ (λ o h line before after e run.
    let p = g.P.Sought.program c.args.program.now in
    let s = subst (IsRunTo p line c.args.tableau.now after run.k) c.in-Optimal.is run.stops in
    read_opens (rules_from p (g.P.Sought.meaning c.args.program.now)) line before after run.k s.0 run.leaves c.args.run.now.pivots run.pivots_are o
    (h line e s.1 (run.pivots_are ∙ ap capped s.0))) c.optimal_end.ensures

pub returns-in-Infeasible : goal.returns-in-Infeasible
returns-in-Infeasible g c = ok_map c.infeasible_end.result _ _ (λ o h line before after e run.
    let p = g.P.Sought.program c.args.program.now in
    let s = subst (IsRunTo p line c.args.tableau.now after run.k) c.in-Infeasible.is run.stops in
    empty_opens (rules_from p (g.P.Sought.meaning c.args.program.now)) line before after run.k s.0 run.leaves c.args.run.now.pivots run.pivots_are o (h line e s.1)) c.infeasible_end.ensures

pub optimal_end-requires : goal.optimal_end-requires
optimal_end-requires g c = grind (arith, common_steps)

pub infeasible_end-requires : goal.infeasible_end-requires
infeasible_end-requires g c = grind (arith, common_steps)

pub returns-in-WorkOut : goal.returns-in-WorkOut
returns-in-WorkOut g c = grind (arith, elements)
