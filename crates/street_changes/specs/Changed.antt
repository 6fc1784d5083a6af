-- The street with a change.
use Rattle.std.specs.Prelude.{◌≡◌, ℕ, ◌+◌, ◌-◌, ◌==◌, Bool, true, List, [], ◌∷◌, Option, Some, None, IsSome, option_map, pos, if◌then◌else◌}
use Rattle.std.specs.Ordering.{is_le}
use Rattle.rational_theory.specs.Rational.{ℚ, whole, over, ◌+ℚ◌, ◌-ℚ◌}
use Rattle.rational_theory.specs.Compare.{cmp_ℚ}
use Rattle.progression.specs.Street.{Street}
use Rattle.progression.specs.declared.parts.Head.{Head}
use Rattle.progression.specs.declared.parts.Signal.{Signal}
use Rattle.progression.specs.declared.parts.Link.{Link}
use Rattle.progression.specs.declared.parts.Pair.{Pair}
use Rattle.artery_model.specs.Limits.{artery_fault}
use Rattle.street_changes.specs.declared.limits.Change.{Change}
use Rattle.street_changes.specs.declared.limits.Change.TheVariants.{AsItIs, OfSignal, OfLink, OfStreet}
use Rattle.street_changes.specs.declared.limits.SignalLimit.{SignalLimit}
use Rattle.street_changes.specs.declared.limits.SignalLimit.TheVariants.{Red, LeftOut, LeftIn, ClearOut, ClearIn, Patterns}
use Rattle.street_changes.specs.declared.limits.LinkLimit.{LinkLimit}
use Rattle.street_changes.specs.declared.limits.LinkLimit.TheVariants.{MostSpeedOut, MostSpeedIn, LeastSpeedOut, LeastSpeedIn, LeastChangeOut, MostChangeOut, LeastChangeIn, MostChangeIn}
use Rattle.street_changes.specs.declared.limits.StreetLimit.{StreetLimit}
use Rattle.street_changes.specs.declared.limits.StreetLimit.TheVariants.{LeastCycle, MostCycle, LeastOut, LeastIn}

-- ---- numbers
abbrev pub one : ℚ
one = whole (pos 1)

abbrev pub hundredth : ℚ
hundredth = over (pos 1) 100

-- a hundredth less, and 0 of what isn't more than that
abbrev pub hundredth_less : ℚ → ℚ
hundredth_less x = if is_le (cmp_ℚ x hundredth) then whole (pos 0) else x -ℚ hundredth

abbrev pub least_down : Pair → Pair
least_down p = record p { least = p.least -ℚ one }

abbrev pub most_up : Pair → Pair
most_up p = record p { most = p.most +ℚ one }

-- ---- limits
abbrev pub all_patterns : List Bool
all_patterns = true ∷ true ∷ true ∷ true ∷ []

abbrev pub let_signal : SignalLimit → Signal → Signal
let_signal Red s = record s { red = s.red - 1 }
let_signal LeftOut s = record s { left_out = s.left_out - 1 }
let_signal LeftIn s = record s { left_in = s.left_in - 1 }
let_signal ClearOut s = record s { clear_out = s.clear_out - 1 }
let_signal ClearIn s = record s { clear_in = s.clear_in - 1 }
let_signal Patterns s = record s { patterns = all_patterns }

abbrev pub let_link : LinkLimit → Link → Link
let_link MostSpeedOut l = record l { speed_out = most_up l.speed_out }
let_link MostSpeedIn l = record l { speed_in = most_up l.speed_in }
let_link LeastSpeedOut l = record l { speed_out = least_down l.speed_out }
let_link LeastSpeedIn l = record l { speed_in = least_down l.speed_in }
let_link LeastChangeOut l = record l { change_out = option_map least_down l.change_out }
let_link MostChangeOut l = record l { change_out = option_map most_up l.change_out }
let_link LeastChangeIn l = record l { change_in = option_map least_down l.change_in }
let_link MostChangeIn l = record l { change_in = option_map most_up l.change_in }

abbrev pub let_street : StreetLimit → Head → Head
let_street LeastCycle h = record h { cycle = least_down h.cycle }
let_street MostCycle h = record h { cycle = most_up h.cycle }
let_street LeastOut h = record h { least_out = hundredth_less h.least_out }
let_street LeastIn h = record h { least_in = hundredth_less h.least_in }

-- ---- the whole street
-- the head, and a signal or link with its number, where one limit is let out
abbrev pub changed_head : Change → Head → Head
changed_head (OfStreet limit) h = let_street limit h
changed_head AsItIs h = h
changed_head (OfSignal i limit) h = h
changed_head (OfLink i limit) h = h

abbrev pub changed_signal : Change → ℕ → Signal → Signal
changed_signal (OfSignal i limit) n s = if i == n then let_signal limit s else s
changed_signal AsItIs n s = s
changed_signal (OfLink i limit) n s = s
changed_signal (OfStreet limit) n s = s

abbrev pub changed_link : Change → ℕ → Link → Link
changed_link (OfLink i limit) n l = if i == n then let_link limit l else l
changed_link AsItIs n l = l
changed_link (OfSignal i limit) n l = l
changed_link (OfStreet limit) n l = l

-- each of a list by its number, from i on
abbrev pub each_by : {X : Type 0} → (ℕ → X → X) → ℕ → List X → List X
each_by f i [] = []
each_by f i (x ∷ xs) = f i x ∷ each_by f (i + 1) xs

abbrev pub changed : Street → Change → Street
changed a c = record {
  head = changed_head c a.head;
  signals = each_by (changed_signal c) 1 a.signals;
  links = each_by (changed_link c) 1 a.links;
}

-- a description may not have the street with the change, or this is it
abbrev pub IsChanged : Street → Change → Option Street → Type 0
IsChanged a c None = IsSome (artery_fault (changed a c))
IsChanged a c (Some street) = (artery_fault (changed a c) ≡ None) × (street ≡ changed a c)
