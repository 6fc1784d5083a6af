use Rattle.std.proofs.Common.{◌∷◌, drop, sym, ◌∙◌, ap, subst}
use Rattle.search_box.specs.Places.{IsPlace, low_part, high_part}
use Rattle.certificate_checker.specs.Owed.{first_of}
use Rattle.certificate_checker.proofs.Ways.{owed_is, is_wanted, split_in, split_owed}
use Rattle.certificate_checker.proofs.owed.Owed.split.Goals as goal

pub invariant_of-self-2 : goal.invariant_of-self-2
invariant_of-self-2 c =
    let f = c.self.inside in let place = c.args.place in
    let old = owed_is f.wanted f.area f.way c.args.self.now c.self.view_is c.requires.some in
    let there = subst (λ boxes. IsPlace (first_of boxes) place) old c.requires.place in
    rw (c.to_low.ensures.low, c.in_ok-push.ensures.put) (split_in f.area place c.span_at.result c.span_at.ensures.span f.way c.span_at.ensures.ranks there c.self.invariant)

pub returns : goal.returns
returns c =
    let f = c.self.inside in let place = c.args.place in
    let old = owed_is f.wanted f.area f.way c.args.self.now c.self.view_is c.requires.some in
    let wanted = is_wanted f.wanted f.area f.way c.args.self.now c.self.view_is c.requires.some in
    rw (wanted, c.to_low.ensures.low, c.in_ok-push.ensures.put)
    (split_owed f.area place c.span_at.result c.span_at.ensures.span f.way
    ∙ sym (ap (λ boxes. low_part (first_of boxes) place ∷ high_part (first_of boxes) place ∷ drop 1 boxes) old))
