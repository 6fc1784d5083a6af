-- The table of a sweep: comma-separated values, a header and a record for each row, each of five fields and ended by a line feed.
use Rattle.std.specs.Prelude.{ℕ, List, [], ◌∷◌, ◌++◌, Option, Some, None, codes}
use Rattle.std.specs.List.{flat_map}
use Rattle.rational_theory.specs.Rational.{ℚ}
use Rattle.progression.specs.Street.{Street}
use Rattle.quantity_text.specs.Exact.{exact_spelling}
use Rattle.branch_and_bound.specs.declared.found.Stop.{Stop}
use Rattle.branch_and_bound.specs.declared.found.Stop.TheVariants.{Work, Wide}
use Rattle.branch_and_bound.specs.declared.found.Verdict.{Verdict}
use Rattle.branch_and_bound.specs.declared.found.Verdict.TheVariants.{Best, NoTiming, Stopped}
use Rattle.box_search.specs.declared.site.SitePart.{SitePart}
use Rattle.branch_tree.specs.Told.{Found}
use Rattle.branch_tree.specs.Certified.{value_of}
use Rattle.cycle_sweep.specs.declared.row.SweepRow.{SweepRow}
use Rattle.cycle_sweep.specs.declared.row.SweepRow.TheVariants.{Outside, Searched}

-- ---- fields
-- what stands where there is nothing to say
abbrev pub dash : List ℕ
dash = codes "-"

abbrev pub number_text : Option ℚ → List ℕ
number_text None = dash
number_text (Some x) = exact_spelling x

abbrev pub verdict_text : Verdict SitePart → List ℕ
verdict_text Best = codes "best"
verdict_text NoTiming = codes "none"
verdict_text (Stopped stop) = codes "open"

abbrev pub stop_text : Stop SitePart → List ℕ
stop_text (Work spent) = codes "work"
stop_text (Wide site) = codes "wide"

abbrev pub cause_text : Verdict SitePart → List ℕ
cause_text Best = dash
cause_text NoTiming = dash
cause_text (Stopped stop) = stop_text stop

-- what no weighted band exceeds: the value of a best timing, or the bound of a search that stopped
abbrev pub bound_of : Verdict SitePart → ℚ → Option ℚ → Option ℚ
bound_of Best bound value = value
bound_of NoTiming bound value = None
bound_of (Stopped stop) bound value = Some bound

-- ---- records
abbrev pub fields : List ℕ → List ℕ → List ℕ → List ℕ → List ℕ → List (List ℕ)
fields cycle verdict weighted bound cause = cycle ∷ verdict ∷ weighted ∷ bound ∷ cause ∷ []

abbrev pub header_fields : List (List ℕ)
header_fields = fields (codes "cycle") (codes "verdict") (codes "weighted") (codes "bound") (codes "cause")

abbrev pub outside_fields : ℚ → List (List ℕ)
outside_fields cycle = fields (exact_spelling cycle) (codes "outside") dash dash dash

-- of what was found at a cycle: a verdict, a weighted band, what none exceeds, and a cause
abbrev pub cycle_fields : ℚ → List ℕ → Option ℚ → Option ℚ → List ℕ → List (List ℕ)
cycle_fields cycle verdict weighted bound cause = fields (exact_spelling cycle) verdict (number_text weighted) (number_text bound) cause

-- with the weighted band of the timing that was found, if there is one
abbrev pub found_fields : Street → ℚ → Found → List (List ℕ)
found_fields a cycle found =
    cycle_fields cycle (verdict_text found.verdict) (value_of a found.timing) (bound_of found.verdict found.bound (value_of a found.timing)) (cause_text found.verdict)

abbrev pub row_fields : Street → SweepRow → List (List ℕ)
row_fields a (Outside cycle) = outside_fields cycle
row_fields a (Searched cycle found) = found_fields a cycle found

-- ---- the text
-- the fields with commas, the byte 44, between them
abbrev pub joined : List (List ℕ) → List ℕ
joined [] = []
joined (x ∷ []) = x
joined (x ∷ y ∷ more) = x ++ 44 ∷ joined (y ∷ more)

-- and a line feed, the byte 10, after the last
abbrev pub line : List (List ℕ) → List ℕ
line texts = joined texts ++ 10 ∷ []

abbrev pub sweep_text : Street → List SweepRow → List ℕ
sweep_text a rows = line header_fields ++ flat_map (λ row. line (row_fields a row)) rows
