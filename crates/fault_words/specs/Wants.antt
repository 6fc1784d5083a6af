-- What a key wants, by a word for each of its demands.
use Rattle.std.specs.Prelude.{ℕ, ◌==◌, List, [], ◌++◌, ℤ, pos, int_lt, codes, if◌then◌else◌}
use Rattle.std.specs.Fmt.{decimal, signed_decimal}
use Rattle.artery_model.specs.Bounds.{least_parts, most_numerator, most_denominator}
use Rattle.description_reader.specs.KeyTable.{Key}
use Rattle.description_reader.specs.declared.demand.Demand.{Demand}
use Rattle.description_reader.specs.declared.demand.Demand.TheVariants.{Anything, Table, Array, Length, Integer, Boolean, Text, Quantity, Number}
use Rattle.description_reader.specs.declared.demand.Demand.TheVariants.{Units, Reference, Name, Between, BelowParts, Within, Written}

-- as `2`, or as `2 to 16`
unfoldable pub size_words : ℕ → ℕ → List ℕ
size_words least most = decimal least ++ (if least == most then [] else codes " to " ++ decimal most)

-- from the least to the greatest
unfoldable pub span_words : ℤ → ℤ → List ℕ
span_words least most = codes ", from " ++ (signed_decimal least ++ (codes " to " ++ signed_decimal most))

-- where the cycle has this many parts
unfoldable pub from_words : ℤ → List ℕ
from_words least = codes ", from " ++ signed_decimal least

unfoldable pub below_words : ℤ → List ℕ
below_words parts = codes " to less than the " ++ (signed_decimal parts ++ codes " parts of the cycle")

-- not where the number of parts is itself no such number, as in a file whose limits weren't looked at yet
abbrev pub below_if_parts : ℤ → List ℕ
below_if_parts parts = if int_lt parts (pos least_parts) then [] else below_words parts

unfoldable pub parts_words : ℤ → ℤ → List ℕ
parts_words parts least = from_words least ++ below_if_parts parts

-- ---- the type
unfoldable pub sized_words : ℕ → ℕ → List ℕ
sized_words least most = codes " a list of " ++ (size_words least most ++ codes " values")

abbrev pub type_word : Demand → List ℕ
type_word Anything = []
type_word Table = codes " a table"
type_word Array = codes " a list"
type_word (Length least most) = []
type_word Integer = codes " a whole number without quotes"
type_word Boolean = codes " true or false, without quotes"
type_word Text = codes " a text between quotes"
type_word Quantity = codes " a number, between quotes unless it is whole"
type_word Number = codes " a number"
type_word Units = codes " a word"
type_word Reference = codes " a word"
type_word Name = codes " a name"
type_word (Between least most) = codes " a whole number"
type_word (BelowParts least) = codes " a whole number"
type_word (Within least most) = codes " a number"
type_word (Written least most) = codes " a number"

abbrev pub type_words : Demand → List ℕ
type_words (Length least most) = sized_words least most
type_words demand = type_word demand

-- of each item of a list
abbrev pub each_words : Demand → List ℕ
each_words Anything = []
each_words demand = codes ", each" ++ type_words demand

-- ---- the limits
unfoldable pub many_words : ℕ → ℕ → List ℕ
many_words least most = codes ", " ++ (size_words least most ++ codes " of them")

abbrev pub range_word : Demand → List ℕ
range_word Anything = []
range_word Table = []
range_word Array = []
range_word (Length least most) = []
range_word Integer = []
range_word Boolean = []
range_word Text = []
range_word Quantity = []
range_word Number = []
range_word Units = codes ", \"metric\" or \"english\""
range_word Reference = codes ", \"red\", \"green_out\", \"green_in\", \"first_green\", \"end_out\" or \"end_in\""
range_word Name = codes ", of 1 to 60 bytes and no control characters"
range_word (Between least most) = []
range_word (BelowParts least) = []
range_word (Within least most) = []
range_word (Written least most) = []

abbrev pub range_words : ℤ → Demand → List ℕ
range_words parts (Length least most) = many_words least most
range_words parts (Between least most) = span_words least most
range_words parts (BelowParts least) = parts_words parts least
range_words parts (Within least most) = span_words least most
range_words parts (Written least most) = span_words least most
range_words parts demand = range_word demand

-- how fine a number may be, which is told behind its unit
unfoldable pub terms : List ℕ
terms = codes ", in lowest terms at most " ++ (decimal most_numerator ++ (codes " over " ++ decimal most_denominator))

abbrev pub terms_words : Demand → List ℕ
terms_words (Within least most) = terms
terms_words demand = []

abbrev pub fineness : Key → List ℕ
fineness k = terms_words k.ranges.value ++ terms_words k.ranges.item

-- ---- a key, where the cycle has this many parts
unfoldable pub wants : ℤ → Key → List ℕ
wants parts k = type_words k.types.value ++ (each_words k.types.item ++ (range_words parts k.ranges.value ++ range_words parts k.ranges.item))
