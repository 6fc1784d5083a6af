use Rattle.std.proofs.Common.{◌≡◌, ℕ, List, sym, subst}
use Rattle.progression.specs.Street.{Street}
use Rattle.linear_theory.specs.Boxes.{Area}
use Rattle.simplex_theory.specs.DualSteps.{IsPlaced}
use Rattle.fraction_tableau.specs.NamedTableaus.{NamedTableau}
use Rattle.dual_simplex.specs.Ends.{stepped}
use Rattle.entry_theory.specs.Basics.{basics_of}
use Rattle.program_builder.specs.Entry.{IsBasisOf}
use Rattle.program_builder.specs.First.{IsFirstFor}
use Rattle.program_builder.proofs.First.{first_after, basis_of_first, made_first}
use Rattle.engine_tests.proofs.tests.program_builder_tests.entry_tests.best_end.Goals as goal

first_here : (a : Street) (box : Area) (s t : NamedTableau) (k : ℕ) → IsFirstFor a box s.table → t ≡ stepped s k → IsFirstFor a box t.table
first_here a box s t k f e = subst (λ (u : NamedTableau). IsFirstFor a box u.table) (sym e) (first_after a box s.table k f)

basis_here : (a : Street) (box : Area) (t : NamedTableau) (vs : List ℕ) → IsFirstFor a box t.table → (IsPlaced t.table → vs ≡ basics_of t.table) → IsBasisOf a vs
basis_here a box t vs f e = subst (IsBasisOf a) (sym (e f.dual.placed)) (basis_of_first a box t.table f)

pub returns-in_ok-basis-in-Optimal-clause-made : goal.returns-in_ok-basis-in-Optimal-clause-made
returns-in_ok-basis-in-Optimal-clause-made c =
    let s = c.in-Optimal.ensures.solved in
    made_first c.args.artery.now c.args.area.now c.solve_node.new.tableau
    (first_here c.args.artery.now c.args.area.now c.args.tableau.now c.solve_node.new.tableau s.0 c.requires.first s.1.table)

pub returns-in_ok-basis-in-Optimal-clause-basis : goal.returns-in_ok-basis-in-Optimal-clause-basis
returns-in_ok-basis-in-Optimal-clause-basis c =
    let s = c.in-Optimal.ensures.solved in
    basis_here c.args.artery.now c.args.area.now c.solve_node.new.tableau c.in_ok-basis-in-Optimal.basis.items
    (first_here c.args.artery.now c.args.area.now c.args.tableau.now c.solve_node.new.tableau s.0 c.requires.first s.1.table) c.in_ok-basis-in-Optimal.ensures.listed
