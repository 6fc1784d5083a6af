-- The limits of an artery's numbers and the rules between them, as a list of tests: for each kind in order, and within it for each place in order.
use Rattle.std.specs.Prelude.{ℕ, ◌+◌, ◌-◌, ◌==◌, nat_eq, nat_le, nat_lt, ◌&&◌, ◌||◌, not, List, [], ◌∷◌, ◌++◌, length, Bool, true, Option, None, Some, codes, unsigned_abs, if◌then◌else◌}
use Rattle.std.specs.List.{list_any, list_all}
use Rattle.std.specs.Ordering.{is_le}
use Rattle.std.specs.Cmp.Lexicographic.{pointwise}
use Rattle.rational_theory.specs.Rational.{ℚ, whole}
use Rattle.rational_theory.specs.Compare.{cmp_ℚ}
use Rattle.progression.specs.Street.{Street, count}
use Rattle.progression.specs.declared.parts.Head.{Head}
use Rattle.progression.specs.declared.parts.Signal.{Signal}
use Rattle.progression.specs.declared.parts.Link.{Link}
use Rattle.progression.specs.declared.parts.Pair.{Pair}
use Rattle.artery_model.specs.Bounds.{first_version, second_version, least_signals, most_signals_in, least_share, most_share_in, least_parts, most_parts, least_distance, most_distance, least_speed, most_speed, least_cycle, most_cycle, least_change, most_change, least_ratio, most_ratio, most_numerator, most_denominator, least_name, most_name}
use Rattle.artery_model.specs.Faults.{Fault, first_fault, unless, each_numbered, artery_place, signal_place, link_place}
use Rattle.artery_model.specs.declared.kind.Kind.TheVariants as kind

abbrev pub at_most : ℚ → ℚ → Bool
at_most x y = is_le (cmp_ℚ x y)

-- a quantity has a numerator and a denominator of a bounded size, and lies between two numbers
abbrev pub within : ℚ → ℚ → ℚ → Bool
within low high q = nat_le (unsigned_abs q.num) most_numerator && nat_le q.den most_denominator && at_most low q && at_most q high

abbrev pub in_range : ℕ → ℕ → ℕ → Bool
in_range low high n = nat_le low n && nat_le n high

-- a name is neither empty nor long, and has no control character
abbrev pub is_name : List ℕ → Bool
is_name name = in_range least_name most_name (length name) && list_all (λ b. nat_le 32 b && not (b == 127)) name

abbrev pub is_name_if_there : Option (List ℕ) → Bool
is_name_if_there None = true
is_name_if_there (Some name) = is_name name

-- ---- values outside their limits
abbrev pub pair_ranges : ℚ → ℚ → Pair → List ℕ → List (Option Fault)
pair_ranges low high p place =
    unless (within low high p.least) kind.OutOfRange (place ++ codes "[1]")
    ∷ unless (within low high p.most) kind.OutOfRange (place ++ codes "[2]")
    ∷ []

abbrev pub head_ranges : Head → List (Option Fault)
head_ranges h =
    unless (is_name_if_there h.name) kind.OutOfRange (artery_place (codes "name"))
    ∷ unless (in_range least_parts most_parts h.parts) kind.OutOfRange (artery_place (codes "parts"))
    ∷ first_fault (pair_ranges (whole least_cycle) (whole most_cycle) h.cycle (artery_place (codes "cycle")))
    ∷ unless (within (whole least_ratio) (whole most_ratio) h.ratio) kind.OutOfRange (artery_place (codes "ratio"))
    ∷ unless (within (whole least_share) (whole (most_share_in h.version)) h.least_out) kind.OutOfRange (artery_place (codes "least_out"))
    ∷ unless (within (whole least_share) (whole (most_share_in h.version)) h.least_in) kind.OutOfRange (artery_place (codes "least_in"))
    ∷ unless (not h.equal || h.version == second_version) kind.OutOfRange (artery_place (codes "equal"))
    ∷ []

-- (parts - 1 is 0 for an artery of no parts, which was refused before its signals are looked at)
abbrev pub signal_tests : ℕ → ℕ → Signal → List (Option Fault)
signal_tests parts i s =
    unless (is_name s.name) kind.OutOfRange (signal_place i (codes "name"))
    ∷ unless (in_range 1 (parts - 1) s.red) kind.OutOfRange (signal_place i (codes "red"))
    ∷ unless (nat_lt s.left_out parts) kind.OutOfRange (signal_place i (codes "left_out"))
    ∷ unless (nat_lt s.left_in parts) kind.OutOfRange (signal_place i (codes "left_in"))
    ∷ unless (nat_lt s.clear_out parts) kind.OutOfRange (signal_place i (codes "clear_out"))
    ∷ unless (nat_lt s.clear_in parts) kind.OutOfRange (signal_place i (codes "clear_in"))
    ∷ []

abbrev pub signal_ranges : ℕ → ℕ → Signal → Option Fault
signal_ranges parts i s = first_fault (signal_tests parts i s)

-- limits on the change of pace from a link to the next: none on the last of n links
abbrev pub change_ranges : Bool → Option Pair → List ℕ → List (Option Fault)
change_ranges is_last None place = []
change_ranges is_last (Some p) place =
    unless (not is_last) kind.OutOfRange place
    ∷ first_fault (pair_ranges (whole least_change) (whole most_change) p place)
    ∷ []

abbrev pub link_tests : ℕ → ℕ → Link → List (Option Fault)
link_tests n i l =
    unless (in_range least_distance most_distance l.distance_out) kind.OutOfRange (link_place i (codes "distance_out"))
    ∷ unless (in_range least_distance most_distance l.distance_in) kind.OutOfRange (link_place i (codes "distance_in"))
    ∷ first_fault (pair_ranges (whole least_speed) (whole most_speed) l.speed_out (link_place i (codes "speed_out")))
    ∷ first_fault (pair_ranges (whole least_speed) (whole most_speed) l.speed_in (link_place i (codes "speed_in")))
    ∷ first_fault (change_ranges (i == n) l.change_out (link_place i (codes "change_out")))
    ∷ first_fault (change_ranges (i == n) l.change_in (link_place i (codes "change_in")))
    ∷ []

abbrev pub link_ranges : ℕ → ℕ → Link → Option Fault
link_ranges n i l = first_fault (link_tests n i l)

-- ---- rules between values
abbrev pub is_text : List ℕ → List ℕ → Bool
is_text x y = pointwise nat_eq x y

-- the first signal, numbered from i, whose name is one of these or stood earlier
abbrev pub first_repeated : ℕ → List (List ℕ) → List Signal → Option Fault
first_repeated i seen [] = None
first_repeated i seen (s ∷ signals) =
    if list_any (λ t. is_text s.name t) seen then Some (record { kind = kind.RepeatedName; place = signal_place i (codes "name") })
    else first_repeated (i + 1) (seen ++ s.name ∷ []) signals

abbrev pub has_pattern : ℕ → Signal → Option Fault
has_pattern i s = unless (list_any (λ b. b) s.patterns) kind.NoPattern (signal_place i (codes "patterns"))

abbrev pub green_tests : ℕ → ℕ → Signal → List (Option Fault)
green_tests parts i s =
    unless (nat_lt (s.red + s.left_out) parts) kind.NoGreen (signal_place i (codes "left_out"))
    ∷ unless (nat_lt (s.red + s.left_in) parts) kind.NoGreen (signal_place i (codes "left_in"))
    ∷ []

abbrev pub has_green : ℕ → ℕ → Signal → Option Fault
has_green parts i s = first_fault (green_tests parts i s)

abbrev pub in_order : Pair → List ℕ → Option Fault
in_order p place = unless (at_most p.least p.most) kind.LimitsCrossed place

abbrev pub in_order_if_there : Option Pair → List ℕ → Option Fault
in_order_if_there None place = None
in_order_if_there (Some p) place = in_order p place

abbrev pub limit_tests : ℕ → Link → List (Option Fault)
limit_tests i l =
    in_order l.speed_out (link_place i (codes "speed_out"))
    ∷ in_order l.speed_in (link_place i (codes "speed_in"))
    ∷ in_order_if_there l.change_out (link_place i (codes "change_out"))
    ∷ in_order_if_there l.change_in (link_place i (codes "change_in"))
    ∷ []

abbrev pub link_limits : ℕ → Link → Option Fault
link_limits i l = first_fault (limit_tests i l)

-- ---- every test of an artery
abbrev pub range_tests : Street → List (Option Fault)
range_tests a =
    unless (in_range first_version second_version a.head.version) kind.OutOfRange (codes "version")
    ∷ unless (in_range least_signals (most_signals_in a.head.version) (count a)) kind.OutOfRange (codes "signal")
    ∷ first_fault (head_ranges a.head)
    ∷ first_fault (each_numbered (signal_ranges a.head.parts) 1 a.signals)
    ∷ first_fault (each_numbered (link_ranges (length a.links)) 1 a.links)
    ∷ []

abbrev pub rule_tests : Street → List (Option Fault)
rule_tests a =
    unless (length a.links + 1 == count a) kind.CountMismatch (codes "link")
    ∷ first_repeated 1 [] a.signals
    ∷ first_fault (each_numbered has_pattern 1 a.signals)
    ∷ first_fault (each_numbered (has_green a.head.parts) 1 a.signals)
    ∷ in_order a.head.cycle (artery_place (codes "cycle"))
    ∷ first_fault (each_numbered link_limits 1 a.links)
    ∷ []

-- the first fault of an artery
abbrev pub artery_fault : Street → Option Fault
artery_fault a = first_fault (first_fault (range_tests a) ∷ first_fault (rule_tests a) ∷ [])
