-- The canonical description of an artery: the table that is printed for it. The keys of a table stand in the order of their bytes.
use Rattle.std.specs.Prelude.{◌≡◌, ℕ, ◌+◌, List, [], ◌∷◌, length, map, ◌==◌, Bool, true, false, if◌then◌else◌, Option, None, Some, option_map, pos, codes}
use Rattle.toml.specs.Data.{Data, string, integer, boolean, array, table, Members, no_members, member}
use Rattle.toml.specs.View.{items_of}
use Rattle.rational_theory.specs.Rational.{ℚ}
use Rattle.artery_model.specs.Bounds.{second_version}
use Rattle.quantity_text.specs.Exact.{exact_spelling}
use Rattle.progression.specs.Street.{Street}
use Rattle.progression.specs.declared.parts.Head.{Head}
use Rattle.progression.specs.declared.parts.Signal.{Signal}
use Rattle.progression.specs.declared.parts.Link.{Link}
use Rattle.progression.specs.declared.parts.Pair.{Pair}
use Rattle.progression.specs.declared.parts.Units.{Units}
use Rattle.progression.specs.declared.parts.Units.TheVariants.{Metric, English}

-- ---- values
abbrev pub number_data : ℕ → Data
number_data n = integer (pos n)

abbrev pub quantity_data : ℚ → Data
quantity_data q = string (exact_spelling q)

abbrev pub pair_data : Pair → Data
pair_data p = array (items_of (quantity_data p.least ∷ quantity_data p.most ∷ []))

abbrev pub units_text : Units → List ℕ
units_text Metric = codes "metric"
units_text English = codes "english"

-- the numbers of the patterns that are allowed, ascending, where the first of the list has the number i
abbrev pub patterns_from : ℕ → List Bool → List Data
patterns_from i [] = []
patterns_from i (allowed ∷ patterns) = if allowed then number_data i ∷ patterns_from (i + 1) patterns else patterns_from (i + 1) patterns

-- ---- tables
-- a key, where there is a value
abbrev pub member_if_there : List ℕ → Option Data → Members → Members
member_if_there key None ms = ms
member_if_there key (Some d) ms = member key d ms

-- the keys of least bands and equal bands, which the second version has
abbrev pub band_members : Bool → Head → Members → Members
band_members false h ms = ms
band_members true h ms = member (codes "equal") (boolean h.equal) (member (codes "least_in") (quantity_data h.least_in) (member (codes "least_out") (quantity_data h.least_out) ms))

abbrev pub head_members_in : Bool → Head → Members
head_members_in second h =
    member (codes "cycle") (pair_data h.cycle)
    (band_members second h
    (member_if_there (codes "name") (option_map string h.name)
    (member (codes "parts") (number_data h.parts)
    (member (codes "ratio") (quantity_data h.ratio)
    (member (codes "units") (string (units_text h.units)) no_members)))))

abbrev pub head_members : Head → Members
head_members h = head_members_in (h.version == second_version) h

abbrev pub signal_members : Signal → Members
signal_members s =
    member (codes "clear_in") (number_data s.clear_in)
    (member (codes "clear_out") (number_data s.clear_out)
    (member (codes "left_in") (number_data s.left_in)
    (member (codes "left_out") (number_data s.left_out)
    (member (codes "name") (string s.name)
    (member (codes "patterns") (array (items_of (patterns_from 1 s.patterns)))
    (member (codes "red") (number_data s.red) no_members))))))

abbrev pub link_members : Link → Members
link_members l =
    member_if_there (codes "change_in") (option_map pair_data l.change_in)
    (member_if_there (codes "change_out") (option_map pair_data l.change_out)
    (member (codes "distance_in") (number_data l.distance_in)
    (member (codes "distance_out") (number_data l.distance_out)
    (member (codes "speed_in") (pair_data l.speed_in)
    (member (codes "speed_out") (pair_data l.speed_out) no_members)))))

abbrev pub signal_data : Signal → Data
signal_data s = table (signal_members s)

abbrev pub link_data : Link → Data
link_data l = table (link_members l)

-- the root: every key of the format of its version but the artery's name and the changes where these aren't given
abbrev pub canonical : Street → Members
canonical a =
    member (codes "artery") (table (head_members a.head))
    (member (codes "link") (array (items_of (map link_data a.links)))
    (member (codes "signal") (array (items_of (map signal_data a.signals)))
    (member (codes "version") (number_data a.head.version) no_members)))

-- a signal says of each of the four patterns whether it is allowed, as its type has it
abbrev pub HasFour : Signal → Type 0
HasFour s = length s.patterns ≡ 4
