-- The families of links by the names of the code: their numbers and their rows.
use Rattle.std.specs.Prelude.{ℕ, ◌+◌}
use Rattle.linear_theory.specs.Names.{last_family}
use Rattle.link_theory.specs.LinkNames as names
use Rattle.link_theory.specs.LinkNames.{LinkName, last_link_family}
use Rattle.link_space.specs.LinkSheets.{by_end}
use Rattle.link_space.specs.declared.families.LinkFamily.{LinkFamily}
use Rattle.link_space.specs.declared.families.LinkFamily.TheVariants.{NearRow, FarRow, LinkRatioRow}

-- the row of an index
abbrev pub row_in : LinkFamily → ℕ → LinkName
row_in (NearRow d e) i = names.NearRow d e i
row_in (FarRow d e) i = names.FarRow d e i
row_in LinkRatioRow i = names.LinkRatioRow i

-- the number
abbrev pub number_of : LinkFamily → ℕ
number_of (NearRow d e) = by_end d e (last_family + 1)
number_of (FarRow d e) = by_end d e (last_family + 3)
number_of LinkRatioRow = last_link_family
