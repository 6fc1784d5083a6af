use Rattle.std.proofs.Common.{◌≡◌, ◌<◌, ◌^◌, take}
use Rattle.std.specs.Str.Parse.{AllDigits, digits_value}
use Rattle.quantity_text.proofs.digits.number.Given as goal

-- the bytes so far are digits, and the number is what they write
abbrev pub invariant-loop-digit : goal.invariant-loop-digit
invariant-loop-digit l = record {
  digits : AllDigits 10 (take l.digit-index l.digits);
  value : l.number ≡ digits_value 10 (take l.digit-index l.digits);
  fits : l.number < 2 ^ 128;
}
