use Rattle.std.proofs.Common.{refl, ap, subst, sym}
use Rattle.simplex_theory.specs.DualSteps.{IsDual}
use Rattle.fraction_tableau.specs.NamedTableaus.{NamedTableau}
use Rattle.box_search.proofs.Running.{made_after, run_from, within_limit}
use Rattle.box_search.proofs.opening.make_steps.Goals as goal

pub solve_node-end-requires-clause-dual : goal.solve_node-end-requires-clause-dual
solve_node-end-requires-clause-dual g c =
    let p = g.P.Sought.program c.args.program.now in
    subst (λ (t : NamedTableau). IsDual t.table) (sym c.requires.first.1) (p.first_is c.known_program.ensures.sound c.requires.first.0).dual

pub solve_node-end-requires-clause-unspent : goal.solve_node-end-requires-clause-unspent
solve_node-end-requires-clause-unspent g c = ap (λ (t : NamedTableau). t.spent) c.requires.first.1

pub returns-clause-made : goal.returns-clause-made
returns-clause-made g c =
    let solved = c.solve_node-end.ensures.solved in
    made_after (g.P.Sought.program c.args.program.now) c.requires.first.0 c.known_program.ensures.sound c.args.tableau.now c.solve_node-end.new.tableau
    _ _ _ _ solved.0 c.requires.first.1 c.solve_node-end.result c.known_named.ensures.shaped solved.1

pub returns-clause-run : goal.returns-clause-run
returns-clause-run g c = λ line o.
    let solved = c.solve_node-end.ensures.solved in
    let new = c.solve_node-end.new.meter in
    run_from (g.P.Sought.program c.args.program.now) line c.known_program.ensures.sound c.args.tableau.now c.solve_node-end.new.tableau _ _ _ _ solved.0
    o _ _ c.solve_node-end.result refl c.spend.ensures.spent refl refl
    (within_limit new.spent new.limit c.solve_node-end.ensures.within) solved.1
