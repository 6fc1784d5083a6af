-- The lines of rules that are broken, of a timing that holds, and of a file without one.
use Rattle.std.specs.Prelude.{ℕ, List, ◌++◌, codes}
use Rattle.std.specs.Fmt.{decimal, signed_decimal}
use Rattle.rational_theory.specs.Rational.{ℚ}
use Rattle.quantity_text.specs.Exact.{exact_spelling}
use Rattle.progression.specs.declared.parts.Dir.{Dir}
use Rattle.time_space.specs.declared.failing.Failing.{Failing}
use Rattle.time_space.specs.declared.failing.Failing.TheVariants as failing
use Rattle.diagram_print.specs.Measures.{dir_name}

abbrev pub link_text : List ℕ → Dir → ℕ → List ℕ
link_text rule d i = rule ++ (codes " " ++ (dir_name d ++ (codes " link " ++ decimal i)))

abbrev pub least_text : Dir → List ℕ
least_text d = codes "least " ++ dir_name d

abbrev pub failing_text : Failing → List ℕ
failing_text failing.Shape = codes "shape"
failing_text (failing.Pattern i) = codes "pattern signal " ++ decimal i
failing_text failing.CycleShort = codes "cycle short"
failing_text failing.CycleLong = codes "cycle long"
failing_text (failing.Fast d i) = link_text (codes "fast") d i
failing_text (failing.Slow d i) = link_text (codes "slow") d i
failing_text (failing.Rise d i) = link_text (codes "rise") d i
failing_text (failing.Drop d i) = link_text (codes "drop") d i
failing_text failing.Ratio = codes "ratio"
failing_text (failing.Least d) = least_text d
failing_text failing.Equal = codes "equal"
failing_text (failing.Outbound i x) = codes "outbound signal " ++ (decimal i ++ (codes " tick " ++ signed_decimal x))
failing_text (failing.Inbound i x) = codes "inbound signal " ++ (decimal i ++ (codes " tick " ++ signed_decimal x))

abbrev pub fails_line : Failing → List ℕ
fails_line f = codes "fails " ++ (failing_text f ++ codes "\n")

abbrev pub holds_lines : ℚ → List ℕ
holds_lines value = codes "holds\nweighted " ++ (exact_spelling value ++ codes "\n")

-- a certificate has no timing
abbrev pub untimed_line : List ℕ
untimed_line = codes "no plan timing\n"
