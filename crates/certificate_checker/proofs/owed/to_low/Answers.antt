use Rattle.std.proofs.Common.{◌≡◌, to_z, of_z, subst, sym, ◌∙◌, ap, arith}
use Rattle.std.specs.Int.{w64}
use Rattle.std.proofs.lemmas.Int.{ints}
use Rattle.search_box.specs.Places.{FitsAt, with_span}
use Rattle.certificate_checker.specs.Owed.{number_at}
use Rattle.certificate_checker.proofs.Spans.{low_is, low_of, low_fits}
use Rattle.certificate_checker.proofs.owed.to_low.Goals as goal

pub replace-requires-clause-ranks : goal.replace-requires-clause-ranks
replace-requires-clause-ranks c =
    let box = c.args.area.now in let p = c.args.place in let span = c.span_at-former.ensures.span in
    let least : to_z w64 (of_z w64 c.span_at-former.result.least) ≡ c.span_at-former.result.least = omega (arith, ints) in
    let most : to_z w64 (of_z w64 c.number.result) ≡ number_at p = omega (arith, ints, c.number.ensures) in
    rw (least, most) (subst (λ s. FitsAt p (low_of p s)) (sym span) (low_fits box p c.requires.place (subst (FitsAt p) span c.span_at-former.ensures.ranks)))

pub returns-clause-low : goal.returns-clause-low
returns-clause-low c =
    let box = c.args.area.now in let p = c.args.place in
    let least : to_z w64 (of_z w64 c.span_at-former.result.least) ≡ c.span_at-former.result.least = omega (arith, ints) in
    let most : to_z w64 (of_z w64 c.number.result) ≡ number_at p = omega (arith, ints, c.number.ensures) in
    (rw (least, most) at c.replace.ensures.put) ∙ ap (λ s. with_span box p (low_of p s)) c.span_at-former.ensures.span ∙ sym (low_is box p)
