-- What stands in a plan as people type it.
use Rattle.std.specs.Prelude.{ℕ, ◌-◌, List, ◌++◌, length, codes}
use Rattle.std.specs.Fmt.{decimal}
use Rattle.quantity_text.specs.Exact.{exact_spelling}
use Rattle.progression.specs.declared.parts.Dir.{Dir}
use Rattle.progression.specs.declared.parts.Dir.TheVariants.{Outbound, Inbound}
use Rattle.description_reader.specs.declared.measure.Reference.{Reference}
use Rattle.description_reader.specs.declared.measure.Reference.TheVariants.{Red, GreenOut, GreenIn, FirstGreen, EndOut, EndIn}
use Rattle.description_reader.specs.declared.measure.Measure.{Measure}
use Rattle.description_reader.specs.declared.measure.Measure.TheVariants.{Speed, Travel}
use Rattle.description_reader.specs.Typed.{Typed, measure, measured}

unfoldable pub cycle_text : Typed → List ℕ
cycle_text p = codes "cycle " ++ (exact_spelling p.cycle ++ codes " s, offsets in seconds ")

unfoldable pub counts_text : Typed → List ℕ
counts_text p = decimal (length p.offsets) ++ (codes ", left turn patterns " ++ (decimal (length p.patterns) ++ codes "\n"))

abbrev pub plan_line : Typed → List ℕ
plan_line p = cycle_text p ++ counts_text p

abbrev pub reference_line : Reference → List ℕ
reference_line Red = codes "each offset is when the common red of its signal starts\n"
reference_line GreenOut = codes "each offset is when the outbound green of its signal starts\n"
reference_line GreenIn = codes "each offset is when the inbound green of its signal starts\n"
reference_line FirstGreen = codes "each offset is when the green of its signal starts that starts first after the common red\n"
reference_line EndOut = codes "each offset is when the outbound green of its signal ends\n"
reference_line EndIn = codes "each offset is when the inbound green of its signal ends\n"

abbrev pub measure_words : Measure → List ℕ
measure_words Speed = codes "speeds "
measure_words Travel = codes "times of travel "

unfoldable pub measured_text : Typed → Dir → List ℕ
measured_text p d = measure_words (measure p d) ++ decimal (length (measured p d))

unfoldable pub links_line : Typed → List ℕ
links_line p = codes "outbound " ++ (measured_text p Outbound ++ (codes ", inbound " ++ (measured_text p Inbound ++ codes ", of the links in order\n")))

-- a number behind what it counts
unfoldable pub counted : List ℕ → ℕ → List ℕ
counted label n = label ++ decimal n

-- what a street of so many signals and links wants
unfoldable pub wants_text : ℕ → ℕ → List ℕ
wants_text n links = counted (codes "a street of ") n ++ (counted (codes " signals wants offsets ") n ++ (counted (codes ", patterns ") n ++ counted (codes ", numbers a direction ") links))

unfoldable pub has_text : ℕ → ℕ → ℕ → ℕ → List ℕ
has_text offsets patterns outbound inbound =
    counted (codes "; this plan has offsets ") offsets
    ++ (counted (codes ", patterns ") patterns ++ (counted (codes ", outbound ") outbound ++ (counted (codes ", inbound ") inbound ++ codes "\n")))

abbrev pub has_line : Typed → List ℕ
has_line p = has_text (length p.offsets) (length p.patterns) (length (measured p Outbound)) (length (measured p Inbound))

-- a street with a signal for each offset, and the plan beside it
unfoldable pub fit_line : Typed → List ℕ
fit_line p = wants_text (length p.offsets) (length p.offsets - 1) ++ has_line p

abbrev pub plan_more : List ℕ
plan_more = codes "its timing and its bands want the street: `maxband timing STREET PLAN NEW`\n"

unfoldable pub plan_words : Typed → List ℕ
plan_words p = plan_line p ++ (reference_line p.reference ++ (links_line p ++ (fit_line p ++ plan_more)))
