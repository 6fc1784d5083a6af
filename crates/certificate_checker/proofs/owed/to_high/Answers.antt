use Rattle.std.proofs.Common.{◌≡◌, ◌+ℤ◌, pos, to_z, of_z, sym, ◌∙◌, arith}
use Rattle.std.specs.Int.{w64}
use Rattle.std.proofs.lemmas.Int.{ints}
use Rattle.search_box.specs.Seen.{span_of}
use Rattle.certificate_checker.specs.Owed.{number_at}
use Rattle.certificate_checker.proofs.Spans.{split_above, split_high_fits, split_high}
use Rattle.certificate_checker.proofs.owed.to_high.Goals as goal

pub overflow_add-number : goal.overflow_add-number
overflow_add-number c =
    let e = c.number.ensures in
    let m = split_above c.args.area.now c.args.place (span_of c.args.former) c.requires.fits c.requires.place in
    omega (arith, ints)

pub replace-requires-clause-ranks : goal.replace-requires-clause-ranks
replace-requires-clause-ranks c =
    let m = split_above c.args.area.now c.args.place (span_of c.args.former) c.requires.fits c.requires.place in
    let least : to_z w64 (of_z w64 (to_z w64 (of_z w64 c.number.result) +ℤ pos 1)) ≡ number_at c.args.place +ℤ pos 1 = omega (arith, ints, c.number.ensures, m) in
    let most : to_z w64 (of_z w64 c.args.former.most) ≡ c.args.former.most = omega (arith, ints) in
    rw (least, most) (split_high_fits c.args.area.now c.args.place (span_of c.args.former) c.requires.fits c.requires.place)

pub returns : goal.returns
returns c =
    let m = split_above c.args.area.now c.args.place (span_of c.args.former) c.requires.fits c.requires.place in
    let least : to_z w64 (of_z w64 (to_z w64 (of_z w64 c.number.result) +ℤ pos 1)) ≡ number_at c.args.place +ℤ pos 1 = omega (arith, ints, c.number.ensures, m) in
    let most : to_z w64 (of_z w64 c.args.former.most) ≡ c.args.former.most = omega (arith, ints) in
    record { high = (rw (least, most) at c.replace.ensures.put) ∙ sym (split_high c.args.area.now c.args.place (span_of c.args.former) c.requires.fits c.requires.place) }
