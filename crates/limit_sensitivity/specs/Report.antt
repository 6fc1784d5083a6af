-- The lines that are printed: what was found of the street as it is, and the changes that gain, greatest first.
use Rattle.std.specs.Prelude.{ℕ, Bool, List, [], ◌∷◌, ◌++◌, take, drop, length, Option, Some, None, codes, ◌==◌, if◌then◌else◌}
use Rattle.std.specs.List.{flat_map, position_or_len}
use Rattle.std.specs.Ordering.{is_lt}
use Rattle.std.specs.Fmt.{decimal}
use Rattle.rational_theory.specs.Rational.{ℚ}
use Rattle.rational_theory.specs.Compare.{cmp_ℚ}
use Rattle.progression.specs.Street.{Street}
use Rattle.progression.specs.TimingRecord.{TimingRecord, base}
use Rattle.progression.specs.Best.{weighted_band}
use Rattle.timing_measures.specs.Measures.{cycle_seconds}
use Rattle.quantity_text.specs.Exact.{exact_spelling}
use Rattle.quantity_text.specs.Decimal.{decimal_spelling}
use Rattle.branch_and_bound.specs.declared.found.Verdict.{Verdict}
use Rattle.branch_and_bound.specs.declared.found.Verdict.TheVariants.{Best, NoTiming, Stopped}
use Rattle.box_search.specs.declared.site.SitePart.{SitePart}
use Rattle.cycle_sweep.specs.Table.{verdict_text}
use Rattle.street_changes.specs.declared.limits.Change.{Change}
use Rattle.street_changes.specs.Names.{change_word, place_text, name_text}
use Rattle.limit_sensitivity.specs.declared.row.RowOutcome.{RowOutcome}
use Rattle.limit_sensitivity.specs.declared.row.SensitivityRow.{SensitivityRow}
use Rattle.limit_sensitivity.specs.declared.ranking.RankedChange.{RankedChange}
use Rattle.limit_sensitivity.specs.Rows.{base_of}
use Rattle.limit_sensitivity.specs.Gains.{if_short, difference, product, decimal_or_wide}

abbrev pub is_less : ℚ → ℚ → Bool
is_less x y = is_lt (cmp_ℚ x y)

-- ---- the changes with a timing
abbrev pub timed_from : Street → Change → Option TimingRecord → List RankedChange
timed_from a c None = []
timed_from a c (Some t) = record { change = c; value = weighted_band a t; cycle = cycle_seconds a (base t) } ∷ []

abbrev pub timed_of : Street → Change → Option RowOutcome → List RankedChange
timed_of a c None = []
timed_of a c (Some o) = timed_from a c o.timing

abbrev pub all_timed : Street → List SensitivityRow → List RankedChange
all_timed a rows = flat_map (λ row. timed_of a row.change row.outcome) rows

-- ---- those that gain, greatest first
-- before the first with less: so equal ones stay in their order
abbrev pub placed : RankedChange → List RankedChange → List RankedChange
placed x others = let place = position_or_len (λ y. is_less y.value x.value) others in take place others ++ x ∷ drop place others

-- put where it belongs, if it gains
abbrev pub with_one : ℚ → RankedChange → List RankedChange → List RankedChange
with_one base x others = if is_less base x.value then placed x others else others

abbrev pub ranked_onto : ℚ → List RankedChange → List RankedChange → List RankedChange
ranked_onto base others [] = others
ranked_onto base others (x ∷ xs) = ranked_onto base (with_one base x others) xs

-- with no timing as the street is, all that have one, in their order
abbrev pub told : Option ℚ → List RankedChange → List RankedChange
told None all = all
told (Some base) all = ranked_onto base [] all

-- ---- lines
abbrev pub seconds_of : Option ℚ → ℚ → Option ℚ
seconds_of None cycle = None
seconds_of (Some x) cycle = product x cycle

-- as a fraction of the cycle and in its seconds, both cut
abbrev pub amount_text : Option ℚ → ℚ → List ℕ
amount_text x cycle = decimal_or_wide x 4 ++ (codes " = " ++ (decimal_or_wide (seconds_of x cycle) 1 ++ codes " s"))

abbrev pub measure_text : Option ℚ → RankedChange → List ℕ
measure_text None t = codes " weighted " ++ amount_text (if_short t.value) t.cycle
measure_text (Some base) t = codes " gain " ++ amount_text (difference t.value base) t.cycle

-- a name comes after a space, and no name leaves none
abbrev pub after_space : List ℕ → List ℕ
after_space [] = []
after_space (c ∷ cs) = codes " " ++ (c ∷ cs)

abbrev pub timed_line : Street → Option ℚ → RankedChange → List ℕ
timed_line a base t =
    change_word t.change ++ (codes " " ++ (place_text t.change ++ (measure_text base t ++ (after_space (name_text a t.change) ++ codes "\n"))))

abbrev pub verdict_line : Option RowOutcome → List ℕ
verdict_line None = []
verdict_line (Some o) = codes "verdict " ++ (verdict_text o.verdict ++ codes "\n")

abbrev pub first_outcome : List SensitivityRow → Option RowOutcome
first_outcome [] = None
first_outcome (row ∷ rows) = row.outcome

abbrev pub base_line : Option ℚ → List ℕ
base_line None = codes "no timing\n"
base_line (Some base) = codes "weighted " ++ (exact_spelling base ++ (codes " = " ++ (decimal_spelling base 6 ++ codes "\n")))

abbrev pub rows_line : ℕ → List ℕ
rows_line n = codes "rows " ++ (decimal n ++ codes "\n")

-- of the street as it is
abbrev pub first_lines : Option ℚ → List SensitivityRow → List ℕ
first_lines base rows = verdict_line (first_outcome rows) ++ (base_line base ++ rows_line (length rows))

abbrev pub sensitivity_lines : Street → List SensitivityRow → List ℕ
sensitivity_lines a rows = let base = base_of a rows in first_lines base rows ++ flat_map (timed_line a base) (told base (all_timed a rows))
