use Rattle.std.proofs.Common.{◌≡◌, ◌+◌, ◌-◌, ◌^◌, ◌∙◌, ap, arith, get_or, refl, sym, take}
use Rattle.std.specs.Str.Parse.{digits_value}
use Rattle.std.proofs.lemmas.Int.Digits.{digits_more}
use Rattle.std.proofs.lemmas.List.{take_all}
use Rattle.quantity_text.proofs.Numerals.{no_digit, front_large}
use Rattle.quantity_text.proofs.Runs.{run_more}
use Rattle.quantity_text.proofs.digits.number.Goals as goal

pub returns-then-not-is_ascii_digit : goal.returns-then-not-is_ascii_digit
returns-then-not-is_ascii_digit c w = no_digit c.args.digits.now c.loop-digit.digit-index (omega arith) (sym c.if-not-is_ascii_digit.ensures.value) w.0

pub returns-in-None : goal.returns-in-None
returns-in-None c w =
    let ds = c.args.digits.now in
    let i = c.loop-digit.digit-index in
    let more = run_more ds i c.loop-digit.number (get_or ds i 0 - 48) (omega arith) c.if-not-is_ascii_digit.ensures.bound c.loop-digit.invariant.value refl in
    front_large ds (i + 1) (2 ^ 128) (omega (arith, more, c.in-None.ensures)) w.1

pub loop-digit-preserved : goal.loop-digit-preserved
loop-digit-preserved c =
    let ds = c.args.digits.now in
    let i = c.loop-digit.digit-index in
    record {
      digits = digits_more 10 ds i (omega arith) c.loop-digit.invariant.digits c.if-not-is_ascii_digit.ensures.bound;
      value = c.in-Some.ensures.1 ∙ run_more ds i c.loop-digit.number (get_or ds i 0 - 48) (omega arith) c.if-not-is_ascii_digit.ensures.bound c.loop-digit.invariant.value refl;
      fits = omega (arith, c.in-Some.ensures.0, c.in-Some.ensures.1);
    }

pub returns : goal.returns
returns c =
    let ds = c.args.digits.now in
    let all : take c.loop-digit.digit-index ds ≡ ds = take_all c.loop-digit.digit-index ds (omega arith) in
    let value : c.loop-digit.number ≡ digits_value 10 ds = c.loop-digit.invariant.value ∙ ap (λ x. digits_value 10 x) all in
    ((rw all at c.loop-digit.invariant.digits, omega (arith, value, c.loop-digit.invariant.fits)), value)
