use Rattle.std.proofs.Common.{ap, ◌∙◌, arith}
use Rattle.std.proofs.lemmas.Int.{ints}
use Rattle.rational_theory.specs.Rational.{whole}
use Rattle.search_box.specs.Seen.{span_of}
use Rattle.engine_tests.proofs.Capping.{only_is, opens_timed, opens_cut}
use Rattle.engine_tests.proofs.tests.branch_and_bound_tests.toy.end_of.Goals as goal

pub returns-then-cap-span-2 : goal.returns-then-cap-span-2
returns-then-cap-span-2 c = λ a line e.
    let only = only_is c.args.cap c.args.area.now (span_of c.loop_span-span.result) c.requires c.loop_span-span.ensures in
    opens_cut a c.args.cap line c.args.area.now (span_of c.loop_span-span.result) _ c.whole-bound.result _ _ _ e only (omega (arith, ints)) (omega (arith, ints))
    (c.whole-bound.ensures ∙ ap whole (omega (arith, ints))) (omega (arith, ints))

pub returns : goal.returns
returns c = λ a line e.
    let only = only_is c.args.cap c.args.area.now (span_of c.loop_span-span.result) c.requires c.loop_span-span.ensures in
    opens_timed a c.args.cap line c.args.area.now (span_of c.loop_span-span.result) _ c.whole-bound.result _ e only (omega (arith, ints)) (omega (arith, ints))
    (c.whole-bound.ensures ∙ ap whole (omega (arith, ints))) (omega (arith, ints))
