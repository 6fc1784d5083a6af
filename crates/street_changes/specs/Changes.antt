-- The changes of a street: one limit at a time, let out by one, in the order of the table.
use Rattle.std.specs.Prelude.{ℕ, ◌-◌, nat_lt, ◌&&◌, ◌||◌, not, Bool, List, [], ◌∷◌, ◌++◌, Option, Some, None, pos, if◌then◌else◌}
use Rattle.std.specs.List.{flat_map, range_with_len, list_all}
use Rattle.std.specs.Ordering.{is_lt}
use Rattle.rational_theory.specs.Rational.{ℚ, whole}
use Rattle.rational_theory.specs.Compare.{cmp_ℚ}
use Rattle.progression.specs.Street.{Street, count, signal_of, link_of}
use Rattle.progression.specs.declared.parts.Head.{Head}
use Rattle.progression.specs.declared.parts.Signal.{Signal}
use Rattle.progression.specs.declared.parts.Link.{Link}
use Rattle.progression.specs.declared.parts.Pair.{Pair}
use Rattle.street_changes.specs.declared.limits.Change.{Change}
use Rattle.street_changes.specs.declared.limits.Change.TheVariants.{AsItIs, OfSignal, OfLink, OfStreet}
use Rattle.street_changes.specs.declared.limits.SignalLimit.{SignalLimit}
use Rattle.street_changes.specs.declared.limits.SignalLimit.TheVariants as signal
use Rattle.street_changes.specs.declared.limits.LinkLimit.{LinkLimit}
use Rattle.street_changes.specs.declared.limits.LinkLimit.TheVariants as link
use Rattle.street_changes.specs.declared.limits.StreetLimit.TheVariants as street

-- a change, where there is something to let out
abbrev pub where_so : Bool → Change → List Change
where_so there change = if there then change ∷ [] else []

-- some patterns aren't allowed, and there is a left turn, by which they differ
abbrev pub wants_patterns : Signal → Bool
wants_patterns s = not (list_all (λ b. b) s.patterns) && (nat_lt 0 s.left_out || nat_lt 0 s.left_in)

abbrev pub signal_changes : ℕ → Signal → List Change
signal_changes i s =
    OfSignal i signal.Red
    ∷ (where_so (nat_lt 0 s.left_out) (OfSignal i signal.LeftOut)
    ++ (where_so (nat_lt 0 s.left_in) (OfSignal i signal.LeftIn)
    ++ (where_so (nat_lt 0 s.clear_out) (OfSignal i signal.ClearOut)
    ++ (where_so (nat_lt 0 s.clear_in) (OfSignal i signal.ClearIn) ++ where_so (wants_patterns s) (OfSignal i signal.Patterns)))))

abbrev pub speed_changes : ℕ → List Change
speed_changes i = OfLink i link.MostSpeedOut ∷ OfLink i link.MostSpeedIn ∷ OfLink i link.LeastSpeedOut ∷ OfLink i link.LeastSpeedIn ∷ []

abbrev pub is_above_zero : ℚ → Bool
is_above_zero x = is_lt (cmp_ℚ (whole (pos 0)) x)

-- of the cycle, and of each promise
abbrev pub street_changes : Head → List Change
street_changes h =
    OfStreet street.LeastCycle
    ∷ OfStreet street.MostCycle
    ∷ (where_so (is_above_zero h.least_out) (OfStreet street.LeastOut) ++ where_so (is_above_zero h.least_in) (OfStreet street.LeastIn))

-- both ends of the limits on a change of pace, where there are any
abbrev pub ends : Option Pair → ℕ → LinkLimit → LinkLimit → List Change
ends None i least most = []
ends (Some p) i least most = OfLink i least ∷ OfLink i most ∷ []

abbrev pub pace_changes : ℕ → Link → List Change
pace_changes i l = ends l.change_out i link.LeastChangeOut link.MostChangeOut ++ ends l.change_in i link.LeastChangeIn link.MostChangeIn

-- none, and then those of the signals, of the speeds, of the whole street and of the changes of pace
abbrev pub changes : Street → List Change
changes a =
    AsItIs
    ∷ (flat_map (λ i. signal_changes i (signal_of a i)) (range_with_len 1 (count a))
    ++ (flat_map speed_changes (range_with_len 1 (count a - 1))
    ++ (street_changes a.head ++ flat_map (λ i. pace_changes i (link_of a i)) (range_with_len 1 (count a - 1)))))
