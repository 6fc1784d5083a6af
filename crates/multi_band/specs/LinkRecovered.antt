-- The link timing of a vertex of links, the place where it splits its box, or the first number that does not fit: the tests in their order.
-- Up to the halves they are those of its two lines.
use Rattle.std.specs.Prelude.{◌≡◌, ℕ, List, Option}
use Rattle.rational_theory.specs.Rational.{ℚ}
use Rattle.rational_theory.specs.Rows.{dot}
use Rattle.narrow_fraction.specs.Attempt.{earlier}
use Rattle.progression.specs.Street.{Street, count}
use Rattle.progression.specs.TimingRecord.{TimingRecord, base}
use Rattle.progression.specs.declared.parts.Dir.{Dir}
use Rattle.progression.specs.declared.parts.Dir.TheVariants.{Outbound, Inbound}
use Rattle.linear_theory.specs.Boxes.{Area}
use Rattle.link_theory.specs.LinkRecord.{LinkRecord, link_banded}
use Rattle.link_theory.specs.GoodLinks.{GoodLinks}
use Rattle.link_theory.specs.BestLinks.{link_value}
use Rattle.link_theory.specs.LinkColumns.{half_place}
use Rattle.link_theory.specs.LinkRows.{link_goal}
use Rattle.search_box.specs.Places.{IsPlace}
use Rattle.offset_recovery.specs.declared.outcome.WideTiming.{WideTiming}
use Rattle.offset_recovery.specs.declared.outcome.Recovered.{Recovered}
use Rattle.offset_recovery.specs.declared.outcome.Recovered.TheVariants as is
use Rattle.offset_recovery.specs.Outcomes.{Outcome, with_timing}
use Rattle.offset_recovery.specs.ByLink.{tests_by_link, ticks_by_link}
use Rattle.offset_recovery.specs.Recovered.{line_tests, number_tests_by, recovered_by}

-- ---- numbers
-- the ticks of a direction's halves, in order of the columns
abbrev pub half_tests : Street → List ℚ → Dir → Option WideTiming
half_tests a x d = tests_by_link a x (half_place (count a) d)

-- those of frequency and runs before them
abbrev pub link_column_tests : Street → List ℚ → Option WideTiming
link_column_tests a x = earlier (line_tests a x) (earlier (half_tests a x Outbound) (half_tests a x Inbound))

abbrev pub link_number_tests : Street → List ℚ → Option WideTiming
link_number_tests a x = number_tests_by a x (link_column_tests a x)

-- ---- the whole
-- the halves of a direction
abbrev pub halves_at : Street → List ℚ → Dir → List ℕ
halves_at a x d = ticks_by_link a x (half_place (count a) d)

-- about the lines of a timing
abbrev pub linked : Street → List ℚ → TimingRecord → LinkRecord
linked a x t = link_banded t.first_out (halves_at a x Outbound) t.first_in (halves_at a x Inbound) (base t)

-- what becomes of its lines, with the halves about them
unfoldable pub link_recovered : Street → Area → List ℚ → Outcome LinkRecord
link_recovered a box x = with_timing (linked a x) (recovered_by a box x (link_number_tests a x))

-- a timing is good and its value is the vertex's goal, and a place lies in the box
abbrev pub IsLinkSound : Street → Area → List ℚ → Recovered LinkRecord → Type 0
IsLinkSound a box x (is.Timing t) = GoodLinks a t × (link_value a t ≡ dot (link_goal a) x)
IsLinkSound a box x (is.SplitAt place) = IsPlace box place
