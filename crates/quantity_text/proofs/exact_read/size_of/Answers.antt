use Rattle.std.proofs.Common.{◌∙◌}
use Rattle.quantity_text.proofs.ExactParts.{numerator_is, denominator_is}
use Rattle.quantity_text.proofs.ExactTexts.{rest_all}
use Rattle.quantity_text.proofs.exact_read.size_of.Goals as goal

pub returns-in_default-clause-none : goal.returns-in_default-clause-none
returns-in_default-clause-none c top bottom s =
    c.in_default.ensures.none top s.top_fits (numerator_is c.args.text.now top bottom c.mark_place-place.result c.mark_place-place.ensures.place s)

pub returns-in-None-clause-none : goal.returns-in-None-clause-none
returns-in-None-clause-none c top bottom s =
    c.in-None.ensures.none bottom s.above s.bottom_fits
    (rest_all c.mark_place-place.result c.args.text.now ∙ denominator_is c.args.text.now top bottom c.mark_place-place.result c.mark_place-place.ensures.place s)
