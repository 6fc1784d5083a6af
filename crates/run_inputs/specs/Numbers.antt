-- The numbers among the words, digits without a leading zero, except `0` alone; and the word for no limit.
use Rattle.std.specs.Prelude.{ℕ, ◌-◌, ◌^◌, nat_le, ◌&&◌, List, Option, Some, None, codes, option_map, if◌then◌else◌}
use Rattle.std.specs.Str.{bytes_eq}
use Rattle.std.specs.Str.Parse.{digits_value}
use Rattle.plan_text.specs.Numbers.{is_numeral}
use Rattle.artery_model.specs.Bounds.{least_signals, most_first_signals}

-- the number from the least to the most that a word spells
unfoldable pub number_within : ℕ → ℕ → List ℕ → Option ℕ
number_within least most word =
    if is_numeral word && (nat_le least (digits_value 10 word) && nat_le (digits_value 10 word) most) then Some (digits_value 10 word) else None

-- how many signals are made
abbrev pub signals_of : List ℕ → Option ℕ
signals_of word = number_within least_signals most_first_signals word

-- the seed of what is made
abbrev pub seed_of : List ℕ → Option ℕ
seed_of word = number_within 0 (2 ^ 64 - 1) word

-- how many units of work a search may spend: `all` is no limit
abbrev pub limit_of : List ℕ → Option (Option ℕ)
limit_of word = if bytes_eq word (codes "all") then Some None else option_map Some (number_within 1 (2 ^ 64 - 1) word)

-- where the words don't say
abbrev pub usual_work : ℕ
usual_work = 100000
