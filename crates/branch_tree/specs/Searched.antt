-- What a search of an artery answers, and what its accepted certificate says of every timing on any grid.
use Rattle.std.specs.Prelude.{ℕ, Option}
use Rattle.progression.specs.Street.{Street}
use Rattle.box_search.specs.Kinds.{IsSearchedOf}
use Rattle.branch_tree.specs.Told.{Found}
use Rattle.branch_tree.specs.WholeBands.{whole_bands}

-- A search of the artery within the limit of units of work, where there is one, found this, and its certificate is accepted. A stop by work comes only
-- where there is a limit, and it is less than enough for this artery. A site that the verdict names has a box of this artery,
-- and its row, column or link.
abbrev pub IsSearched : Street → Option ℕ → Found → Type 0
IsSearched a = IsSearchedOf (whole_bands a)
