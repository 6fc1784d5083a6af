-- Digits by test are those that std's readers of numbers take, with std's value.
use Rattle.std.proofs.Common.{◌≡◌, true}
use Rattle.std.specs.Str.{all_ascii_digits}
use Rattle.std.specs.Str.Parse.{digits_value}
use Rattle.std.proofs.lemmas.Str.Parse.{IsNumeralModel, numerals_by_value, tells_all_ascii_digits}

pub digits_by_test : IsNumeralModel (λ ds. all_ascii_digits ds ≡ true) (digits_value 10)
digits_by_test = numerals_by_value (λ ds. all_ascii_digits ds ≡ true) tells_all_ascii_digits
