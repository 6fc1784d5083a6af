-- How a change is told: the limit by its key in the description, the place, and the name of the place.
use Rattle.std.specs.Prelude.{ℕ, ◌+◌, List, [], ◌++◌, codes, Option, Some, None}
use Rattle.std.specs.Fmt.{decimal}
use Rattle.progression.specs.Street.{Street, signal_of}
use Rattle.street_changes.specs.declared.limits.Change.{Change}
use Rattle.street_changes.specs.declared.limits.Change.TheVariants.{AsItIs, OfSignal, OfLink, OfStreet}
use Rattle.street_changes.specs.declared.limits.SignalLimit.{SignalLimit}
use Rattle.street_changes.specs.declared.limits.SignalLimit.TheVariants.{Red, LeftOut, LeftIn, ClearOut, ClearIn, Patterns}
use Rattle.street_changes.specs.declared.limits.LinkLimit.{LinkLimit}
use Rattle.street_changes.specs.declared.limits.LinkLimit.TheVariants.{MostSpeedOut, MostSpeedIn, LeastSpeedOut, LeastSpeedIn, LeastChangeOut, MostChangeOut, LeastChangeIn, MostChangeIn}
use Rattle.street_changes.specs.declared.limits.StreetLimit.{StreetLimit}
use Rattle.street_changes.specs.declared.limits.StreetLimit.TheVariants.{LeastCycle, MostCycle, LeastOut, LeastIn}

abbrev pub signal_word : SignalLimit → List ℕ
signal_word Red = codes "red"
signal_word LeftOut = codes "left_out"
signal_word LeftIn = codes "left_in"
signal_word ClearOut = codes "clear_out"
signal_word ClearIn = codes "clear_in"
signal_word Patterns = codes "patterns"

abbrev pub link_word : LinkLimit → List ℕ
link_word MostSpeedOut = codes "greatest speed_out"
link_word MostSpeedIn = codes "greatest speed_in"
link_word LeastSpeedOut = codes "least speed_out"
link_word LeastSpeedIn = codes "least speed_in"
link_word LeastChangeOut = codes "least change_out"
link_word MostChangeOut = codes "greatest change_out"
link_word LeastChangeIn = codes "least change_in"
link_word MostChangeIn = codes "greatest change_in"

abbrev pub street_word : StreetLimit → List ℕ
street_word LeastCycle = codes "least cycle"
street_word MostCycle = codes "greatest cycle"
street_word LeastOut = codes "least_out"
street_word LeastIn = codes "least_in"

abbrev pub change_word : Change → List ℕ
change_word AsItIs = codes "as it is"
change_word (OfSignal i limit) = signal_word limit
change_word (OfLink i limit) = link_word limit
change_word (OfStreet limit) = street_word limit

abbrev pub place_text : Change → List ℕ
place_text AsItIs = codes "street"
place_text (OfSignal i limit) = codes "signal " ++ decimal i
place_text (OfLink i limit) = codes "link " ++ decimal i
place_text (OfStreet limit) = codes "street"

-- the street's name, where it has one
abbrev pub given_name : Option (List ℕ) → List ℕ
given_name None = []
given_name (Some name) = name

-- a link goes by the names of the two signals that it joins
abbrev pub link_name : Street → ℕ → List ℕ
link_name a i = (signal_of a i).name ++ (codes " to " ++ (signal_of a (i + 1)).name)

abbrev pub name_text : Street → Change → List ℕ
name_text a AsItIs = given_name a.head.name
name_text a (OfSignal i limit) = (signal_of a i).name
name_text a (OfLink i limit) = link_name a i
name_text a (OfStreet limit) = given_name a.head.name
