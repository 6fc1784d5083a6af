use Rattle.std.proofs.Common.{◌≡◌, ◌*◌, ◌/◌, ◌%◌, ◌^◌, ◌∷◌, ◌++◌}
use Rattle.std.specs.Fmt.{decimal}
use Rattle.quantity_text.specs.Decimal.{last_digits}
use Rattle.quantity_text.proofs.decimal.push_quotient.Given as goal

-- the places so far, and what is left of the division
abbrev pub invariant-loop-place : goal.invariant-loop-place
invariant-loop-place l = record {
  text : l.out.items ≡ l.fn.out.items ++ (decimal (l.top / l.bottom) ++ 46 ∷ last_digits l.place (l.top * 10 ^ l.place / l.bottom));
  rest : l.rest ≡ l.top * 10 ^ l.place % l.bottom;
}
