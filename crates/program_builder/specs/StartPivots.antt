-- The pivots of a start, one after another.
use Rattle.std.specs.Prelude.{List, [], ◌∷◌}
use Rattle.simplex_theory.specs.Tableau.{Tableau, exchange}
use Rattle.program_builder.specs.declared.pivots.StartPivot.{StartPivot}

-- a tableau after these exchanges
unfoldable pub after_pivots : List StartPivot → Tableau → Tableau
after_pivots [] t = t
after_pivots (p ∷ ps) t = after_pivots ps (exchange p.row p.column t)
