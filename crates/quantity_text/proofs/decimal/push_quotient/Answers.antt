use Rattle.std.proofs.Common.{refl, sym, arith}
use Rattle.quantity_text.proofs.Decimals.{place_more, rest_more}
use Rattle.quantity_text.proofs.Pushed.{one_more}
use Rattle.std.proofs.lemmas.Grind.{common_steps}
use Rattle.quantity_text.proofs.decimal.push_quotient.Goals as goal

pub loop-place-preserved : goal.loop-place-preserved
loop-place-preserved c =
    let i = c.loop-place.invariant in
    record {
      text = one_more _ _ _ _ _ _ i.text c.in_ok-push_byte.ensures
          (sym (place_more c.args.top c.args.bottom c.loop-place.place c.loop-place.rest c.next_digit.result _ c.requires.above i.rest c.next_digit.ensures refl));
      rest = rest_more c.args.top c.args.bottom c.loop-place.place c.loop-place.rest c.requires.above i.rest;
    }

pub returns-in_err-push_number : goal.returns-in_err-push_number
returns-in_err-push_number c = grind (arith, common_steps)

pub returns-in_err-push_bytes : goal.returns-in_err-push_bytes
returns-in_err-push_bytes c = grind (arith, common_steps)

pub loop-place-init : goal.loop-place-init
loop-place-init c = grind (arith, common_steps)

pub returns-in_err-push_byte : goal.returns-in_err-push_byte
returns-in_err-push_byte c = grind (arith, common_steps)
