-- What becomes of a line of boxes when the dual simplex method runs from its first tableau to its end by Bland's rule of 1977: the
-- last tableau, its leaf, its vertex, and how the line's box is searched on, as in Little's mixed-integer search of 1966.
use Rattle.std.specs.Prelude.{ℕ, false, List, []}
use Rattle.rational_theory.specs.Rational.{ℚ}
use Rattle.rational_theory.specs.Rows as maths
use Rattle.linear_theory.specs.Boxes.{Area}
use Rattle.named_row.specs.declared.leaves.Weight.{Weight}
use Rattle.simplex_theory.specs.Tableau.{Tableau, goal_bound}
use Rattle.simplex_theory.specs.BlandRule.{Move, optimal, infeasible, pivoted, move}
use Rattle.simplex_theory.specs.StepCounts.{after, steps_to_end}
use Rattle.simplex_theory.specs.RowLists.{vertex_point}
use Rattle.fraction_tableau.specs.NamedTableaus.{NamedTableau}
use Rattle.dual_leaf.specs.Leaves.{goal_multipliers, row_multipliers, sum_of}
use Rattle.branch_and_bound.specs.Lines.{BoxLine}
use Rattle.branch_and_bound.specs.Lineages.{Ending, NoEnd, Empty, Reads, Cuts, Stuck}
use Rattle.box_search.specs.Program.{Program, Outcome, Refused, Splits, Gives}

-- the tableau of a line after so many steps
unfoldable pub table_after : {T W : Type 0} → Program T W → BoxLine → ℕ → Tableau
table_after p line k = after (p.first line) k

-- how many steps lead to the end, and the tableau there
unfoldable pub steps_of : {T W : Type 0} → Program T W → BoxLine → ℕ
steps_of p line = steps_to_end (p.first line)

abbrev pub last_table : {T W : Type 0} → Program T W → BoxLine → Tableau
last_table p line = table_after p line (steps_of p line)

-- with the names of its rows
abbrev pub named_after : {T W : Type 0} → Program T W → BoxLine → ℕ → NamedTableau
named_after p line k = record { table = table_after p line k; names = p.names; spent = false }

abbrev pub named_last : {T W : Type 0} → Program T W → BoxLine → NamedTableau
named_last p line = named_after p line (steps_of p line)

-- the tableau that the steps begin from
abbrev pub named_first : {T W : Type 0} → Program T W → BoxLine → NamedTableau
named_first p line = record { table = p.first line; names = p.names; spent = false }

-- the end is optimal, or infeasible at a row
abbrev pub end_move : {T W : Type 0} → Program T W → BoxLine → Move
end_move p line = move (last_table p line)

-- the values of the columns at an optimal end, and the goal's value there, which is the goal row's bound
abbrev pub end_point : {T W : Type 0} → Program T W → BoxLine → List ℚ
end_point p line = vertex_point (last_table p line)

abbrev pub end_bound : {T W : Type 0} → Program T W → BoxLine → ℚ
end_bound p line = goal_bound (last_table p line)

-- the leaf of an end: the goal row's multipliers where it is optimal, and those of the row where it is infeasible
abbrev pub leaf_by : NamedTableau → Move → List Weight
leaf_by t optimal = goal_multipliers t
leaf_by t (infeasible r) = row_multipliers t r
leaf_by t (pivoted r j) = []

unfoldable pub end_leaf : {T W : Type 0} → Program T W → BoxLine → List Weight
end_leaf p line = leaf_by (named_last p line) (end_move p line)

-- the sum of a leaf over the rows of a box
abbrev pub leaf_row : {T W : Type 0} → Program T W → Area → List Weight → maths.Row
leaf_row p box ws = sum_of (p.row box) ws

-- what the vertex of an optimal end shows
abbrev pub ending_by_outcome : {T W : Type 0} → Outcome T W → Ending
ending_by_outcome (Refused wide) = Stuck
ending_by_outcome (Splits place) = Cuts place
ending_by_outcome (Gives timing) = Reads

abbrev pub ending_by : {T W : Type 0} → Program T W → BoxLine → Move → Ending
ending_by p line optimal = ending_by_outcome (p.outcome line.area (end_point p line))
ending_by p line (infeasible r) = Empty
ending_by p line (pivoted r j) = NoEnd

unfoldable pub ending_of : {T W : Type 0} → Program T W → BoxLine → Ending
ending_of p line = ending_by p line (end_move p line)
