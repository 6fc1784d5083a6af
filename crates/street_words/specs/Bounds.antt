-- What bounds a direction's band before any search: its least green, and the first signal that has it.
use Rattle.std.specs.Prelude.{ℕ, zero, suc, ◌+◌, ◌-◌, nat_lt, if◌then◌else◌, List, ◌++◌, codes}
use Rattle.std.specs.Fmt.{decimal}
use Rattle.progression.specs.Street.{Street, count, red_parts}
use Rattle.progression.specs.declared.parts.Dir.{Dir}
use Rattle.progression.specs.declared.parts.Dir.TheVariants.{Outbound, Inbound}
use Rattle.timing_words.specs.Ways.{dir_word}
use Rattle.street_words.specs.Streets.{name_of, green_parts}

-- the first of the first j + 1 signals at which the direction's red is greatest
abbrev pub reddest : Street → Dir → ℕ → ℕ
reddest a d zero = 1
reddest a d (suc j) = if nat_lt (red_parts a d (reddest a d j)) (red_parts a d (j + 2)) then j + 2 else reddest a d j

abbrev pub tightest : Street → Dir → ℕ
tightest a d = reddest a d (count a - 1)

unfoldable pub wider_words : Street → Dir → List ℕ
wider_words a d = codes "no " ++ (dir_word d ++ (codes " band is wider than " ++ decimal (green_parts a d (tightest a d))))

unfoldable pub bound_line : Street → Dir → List ℕ
bound_line a d = wider_words a d ++ (codes " of " ++ (decimal a.head.parts ++ (codes " parts: " ++ (name_of a (tightest a d) ++ codes "\n"))))

unfoldable pub bound_lines : Street → List ℕ
bound_lines a = bound_line a Outbound ++ bound_line a Inbound
