-- What in a street looks like a slip of whoever typed it, each by a rule that is stated here, and the lines that say so.
use Rattle.std.specs.Prelude.{◌≡◌, ℕ, zero, suc, pos, ◌+◌, ◌-◌, ◌*◌, ◌^◌, ◌==◌, ◌&&◌, ◌||◌, not, nat_eq, nat_lt, if◌then◌else◌, Bool, List, [], ◌∷◌, ◌++◌, map, codes}
use Rattle.std.specs.List.{filter, flat_map, range_with_len}
use Rattle.std.specs.Char.{to_ascii_lowercase}
use Rattle.std.specs.Fmt.{decimal}
use Rattle.std.specs.Cmp.Lexicographic.{pointwise}
use Rattle.std.specs.Ordering.{is_lt, is_eq}
use Rattle.rational_theory.specs.Rational.{ℚ, whole}
use Rattle.rational_theory.specs.Compare.{cmp_ℚ}
use Rattle.rational_theory.specs.Gcd.{lcm}
use Rattle.progression.specs.Speeds.{run_low, run_high}
use Rattle.progression.specs.Street.{Street, count, red_parts, speed}
use Rattle.progression.specs.declared.parts.Units.{Units}
use Rattle.progression.specs.declared.parts.Units.TheVariants.{Metric, English}
use Rattle.progression.specs.declared.parts.Dir.{Dir}
use Rattle.progression.specs.declared.parts.Dir.TheVariants.{Outbound, Inbound}
use Rattle.artery_model.specs.Bounds.{most_numerator}
use Rattle.timing_words.specs.Ways.{dir_word}
use Rattle.street_words.specs.Numbers.{cut_tenths}
use Rattle.street_words.specs.Streets.{name_of, length_word, speed_word}
use Rattle.street_words.specs.declared.warning.Warning.{Warning}
use Rattle.street_words.specs.declared.warning.Warning.TheVariants.{TakesLittle, TakesLong, TooFast, TooSlow, MostlyRed, AlikeNames, MayStarve, LongFractions}

-- ---- the limits of the rules
-- seconds of travel at the greatest speed
abbrev pub least_travel : ℕ
least_travel = 3

abbrev pub most_travel : ℕ
most_travel = 60

-- speeds in the units of the street
abbrev pub fastest : Units → ℕ
fastest Metric = 120
fastest English = 75

abbrev pub slowest : Units → ℕ
slowest Metric = 10
slowest English = 6

-- ticks a second
abbrev pub most_ticks : ℕ
most_ticks = 2 ^ 20

-- ---- the rules
abbrev pub is_below : ℚ → ℚ → Bool
is_below x y = is_lt (cmp_ℚ x y)

abbrev pub is_number : ℚ → ℕ → Bool
is_number x n = is_eq (cmp_ℚ x (whole (pos n)))

abbrev pub takes_little : Street → Dir → ℕ → Bool
takes_little a d i = is_below (run_low a d i) (whole (pos least_travel))

abbrev pub takes_long : Street → Dir → ℕ → Bool
takes_long a d i = is_below (whole (pos most_travel)) (run_low a d i)

abbrev pub is_fast : Street → Dir → ℕ → Bool
is_fast a d i = is_below (whole (pos (fastest a.head.units))) (speed a d i).most

abbrev pub is_slow : Street → Dir → ℕ → Bool
is_slow a d i = is_below (speed a d i).least (whole (pos (slowest a.head.units)))

-- a direction is red for more than three quarters of the cycle
abbrev pub is_mostly_red : Street → Dir → ℕ → Bool
is_mostly_red a d i = nat_lt (3 * a.head.parts) (4 * red_parts a d i)

-- a name without its blanks, in small letters
abbrev pub plain_name : List ℕ → List ℕ
plain_name name = map to_ascii_lowercase (filter (λ b. not (b == 32)) name)

abbrev pub are_alike : Street → ℕ → Bool
are_alike a i = pointwise nat_eq (plain_name (name_of a i)) (plain_name (name_of a (i + 1)))

-- both directions count alike, the bands need not be equal, and a direction has no least band
abbrev pub may_starve : Street → Bool
may_starve a = is_number a.head.ratio 1 && (not a.head.equal && (is_number a.head.least_out 0 || is_number a.head.least_in 0))

-- no run at a limit of speed, in seconds, has a greater denominator: a distance takes 18/5 or 15/22 of itself over the speed
abbrev pub most_run_denominator : ℕ
most_run_denominator = 22 * most_numerator

-- the least common multiple of a number and the denominators of a direction's runs at its two limits of speed, in seconds
abbrev pub with_runs : Street → ℕ → Dir → ℕ → ℕ
with_runs a m d i = lcm (lcm m (run_low a d i).den) (run_high a d i).den

-- of all runs of the first j links: the least number of ticks a second on whose grid each is whole
abbrev pub ticks_for : Street → ℕ → ℕ
ticks_for a zero = 1
ticks_for a (suc j) = with_runs a (with_runs a (ticks_for a j) Outbound (suc j)) Inbound (suc j)

abbrev pub has_long_fractions : Street → Bool
has_long_fractions a = nat_lt most_ticks (ticks_for a (count a - 1))

abbrev pub applies : Street → Warning → Bool
applies a (TakesLittle d i) = takes_little a d i
applies a (TakesLong d i) = takes_long a d i
applies a (TooFast d i) = is_fast a d i
applies a (TooSlow d i) = is_slow a d i
applies a (MostlyRed d i) = is_mostly_red a d i
applies a (AlikeNames i) = are_alike a i
applies a MayStarve = may_starve a
applies a LongFractions = has_long_fractions a

-- ---- the sentences
-- `link 3 outbound` or `signal 3`
unfoldable pub way_words : ℕ → Dir → List ℕ
way_words i d = codes "warning: link " ++ (decimal i ++ (codes " " ++ dir_word d))

unfoldable pub signal_words : ℕ → Dir → List ℕ
signal_words i d = codes "warning: signal " ++ (decimal i ++ (codes " " ++ dir_word d))

-- what the slip may be
unfoldable pub length_question : Units → List ℕ
length_question units = codes ": is its length in " ++ (length_word units ++ codes "?\n")

unfoldable pub speed_question : Units → List ℕ
speed_question units = codes ": is it in " ++ (speed_word units ++ codes "?\n")

-- on which side of which limit a time is
unfoldable pub limit_words : List ℕ → ℕ → List ℕ
limit_words side limit = side ++ (decimal limit ++ codes " s")

unfoldable pub travel_line : Street → Dir → ℕ → List ℕ → ℕ → List ℕ
travel_line a d i side limit = way_words i d ++ (codes " takes " ++ (cut_tenths (run_low a d i) ++ (codes " s at its greatest speed, " ++ (limit_words side limit ++ length_question a.head.units))))

unfoldable pub fast_line : Street → Dir → ℕ → List ℕ
fast_line a d i = way_words i d ++ (codes " has the greatest speed " ++ (cut_tenths (speed a d i).most ++ (codes ", above " ++ (decimal (fastest a.head.units) ++ speed_question a.head.units))))

unfoldable pub slow_line : Street → Dir → ℕ → List ℕ
slow_line a d i = way_words i d ++ (codes " has the least speed " ++ (cut_tenths (speed a d i).least ++ (codes ", below " ++ (decimal (slowest a.head.units) ++ speed_question a.head.units))))

unfoldable pub red_line : Street → Dir → ℕ → List ℕ
red_line a d i = signal_words i d ++ (codes " is red for " ++ (decimal (red_parts a d i) ++ (codes " of " ++ (decimal a.head.parts ++ codes " parts, more than three quarters of the cycle\n"))))

unfoldable pub pair_words : ℕ → List ℕ
pair_words i = codes "warning: signals " ++ (decimal i ++ (codes " and " ++ decimal (i + 1)))

unfoldable pub alike_line : Street → ℕ → List ℕ
alike_line a i = pair_words i ++ (codes " have names that differ in blanks and case alone: " ++ (name_of a i ++ codes "\n"))

abbrev pub starve_line : List ℕ
starve_line = codes "warning: with ratio 1 the best bands may starve a direction; ratio = \"99/100\", least bands or equal bands keep it from that\n"

unfoldable pub fractions_line : List ℕ
fractions_line = codes "warning: the times of travel at the limits of speed have no grid of up to " ++ (decimal most_ticks ++ codes " ticks a second; where solve stops wide, try narrow\n")

abbrev pub warning_line : Street → Warning → List ℕ
warning_line a (TakesLittle d i) = travel_line a d i (codes "less than ") least_travel
warning_line a (TakesLong d i) = travel_line a d i (codes "more than ") most_travel
warning_line a (TooFast d i) = fast_line a d i
warning_line a (TooSlow d i) = slow_line a d i
warning_line a (MostlyRed d i) = red_line a d i
warning_line a (AlikeNames i) = alike_line a i
warning_line a MayStarve = starve_line
warning_line a LongFractions = fractions_line

-- a warning's line, where its rule holds
unfoldable pub told : Street → Warning → List ℕ
told a w = if applies a w then warning_line a w else []

-- ---- what is looked at, in order
abbrev pub way_warnings : Dir → ℕ → List Warning
way_warnings d i = TakesLittle d i ∷ TakesLong d i ∷ TooFast d i ∷ TooSlow d i ∷ []

abbrev pub link_warnings : ℕ → List Warning
link_warnings i = way_warnings Outbound i ++ way_warnings Inbound i

abbrev pub signal_warnings : ℕ → List Warning
signal_warnings i = MostlyRed Outbound i ∷ MostlyRed Inbound i ∷ []

abbrev pub name_warnings : ℕ → List Warning
name_warnings i = AlikeNames i ∷ []

abbrev pub street_warnings : List Warning
street_warnings = MayStarve ∷ LongFractions ∷ []

abbrev pub all_warnings : ℕ → List Warning
all_warnings n = flat_map link_warnings (range_with_len 1 (n - 1)) ++ (flat_map signal_warnings (range_with_len 1 n) ++ (flat_map name_warnings (range_with_len 1 (n - 1)) ++ street_warnings))

unfoldable pub warning_lines : Street → List ℕ
warning_lines a = flat_map (told a) (all_warnings (count a))
