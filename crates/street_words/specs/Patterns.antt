-- Left turn patterns in words: each left turn leads or lags.
use Rattle.std.specs.Prelude.{ℕ, ◌==◌, ◌||◌, if◌then◌else◌, List, [], ◌++◌, codes}
use Rattle.progression.specs.Green.{is_early}
use Rattle.progression.specs.Street.{Street, left_against}
use Rattle.progression.specs.declared.parts.Dir.{Dir}
use Rattle.progression.specs.declared.parts.Dir.TheVariants.{Outbound, Inbound}

-- the left turn against a direction goes the other way
abbrev pub turn_name : Dir → List ℕ
turn_name Inbound = codes "out "
turn_name Outbound = codes "in "

-- under a pattern it lags where that direction's red begins early
unfoldable pub turn_text : Street → Dir → ℕ → ℕ → List ℕ
turn_text a d i p = if left_against a d i == 0 then [] else turn_name d ++ (if is_early d p then codes "lag" else codes "lead")

-- between two of them
abbrev pub turn_gap : ℕ → ℕ → List ℕ
turn_gap out back = if (out == 0) || (back == 0) then [] else codes " "

-- the outbound left turn and the inbound one, as far as there are such
unfoldable pub pattern_words : Street → ℕ → ℕ → List ℕ
pattern_words a i p = turn_text a Inbound i p ++ (turn_gap (left_against a Inbound i) (left_against a Outbound i) ++ turn_text a Outbound i p)
