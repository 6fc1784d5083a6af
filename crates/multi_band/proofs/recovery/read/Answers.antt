use Rattle.std.proofs.Common.{inl}
use Rattle.std.proofs.lemmas.Result.{err_from_is_err_and}
use Rattle.link_theory.specs.LinkVertices.{link_timing_of}
use Rattle.offset_recovery.specs.Recovered.{box_tests}
use Rattle.offset_recovery.proofs.Finding.{finds_none}
use Rattle.offset_recovery.proofs.Whole.{whole_of}
use Rattle.multi_band.specs.LinkRecovered.{link_column_tests}
use Rattle.multi_band.specs.laws.LinkRecoveries.{link_inside}
use Rattle.multi_band.proofs.recovery.read.Goals as goal

pub split_place-requires-clause-inside : goal.split_place-requires-clause-inside
split_place-requires-clause-inside c =
    link_inside c.args.artery.now c.args.area.now c.args.point.now.values.items (c.law_valid_street.ensures c.args.artery.now c.known_valid.ensures) c.requires.boxed c.requires.vertex

pub timing_of-requires-clause-whole : goal.timing_of-requires-clause-whole
timing_of-requires-clause-whole c =
    let a = c.args.artery.now in let box = c.args.area.now in let x = c.args.point.now.values.items in
    whole_of a box x c.requires.boxed (finds_none (box_tests a box x) c.in_ok-place.field-0 c.in_ok-place.ensures c.in_default.not-Some)

pub returns-in-Some : goal.returns-in-Some
returns-in-Some c = rw c.in-Some.is at c.in_ok-place.ensures

pub returns-in_err-place : goal.returns-in_err-place
returns-in_err-place c =
    let p = err_from_is_err_and c.from_residual.result c.from_residual.ensures.1 in
    rw (p.1, p.2) (inl c.in_err-place.ensures)

pub returns : goal.returns
returns c =
    let a = c.args.artery.now in let box = c.args.area.now in let x = c.args.point.now.values.items in
    c.read_timing.ensures a box x (link_column_tests a x) (link_timing_of a x)
    (finds_none (box_tests a box x) c.in_ok-place.field-0 c.in_ok-place.ensures c.in_default.not-Some) c.timing_of.ensures
