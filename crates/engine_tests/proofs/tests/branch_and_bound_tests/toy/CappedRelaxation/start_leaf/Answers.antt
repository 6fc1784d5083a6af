use Rattle.std.proofs.Common.{◌≡◌, ◌≤◌, List, [], ◌∷◌, length, slice_index_or, refl, ◌∙◌, ap, sym, subst, arith}
use Rattle.std.proofs.lemmas.Int.{ints}
use Rattle.rational_theory.specs.Rational.{whole, ◌≤ℚ◌}
use Rattle.rational_theory.proofs.Order.{whole-≤ℤ}
use Rattle.linear_theory.specs.Boxes.{Area, Span, no_span}
use Rattle.search_box.specs.Seen.{span_of}
use Rattle.engine_tests.specs.Capped.{IsNumber, bound_of}
use Rattle.engine_tests.proofs.Capping.{number_under}
use Rattle.engine_tests.proofs.tests.branch_and_bound_tests.toy.CappedRelaxation.start_leaf.Goals as goal

pub returns-clause-covers : goal.returns-clause-covers
returns-clause-covers c = λ x p.
    let here = subst (λ (b : Area). IsNumber c.args.self.now.cap b.loops x) (sym c.in_ok-area.ensures.value) p in
    let under = number_under c.args.self.now.cap c.in_ok-area.area (span_of c.loop_span.result) c.loop_span.ensures x here in
    let bound = c.whole.ensures ∙ ap whole (omega (arith, ints)) in
    subst (λ v. whole x ≤ℚ v) (sym bound) (whole-≤ℤ x c.loop_span.result.most under)

-- the bound is that of the first span
first_bound : (ss : List Span) → 1 ≤ length ss → whole (slice_index_or ss 0 no_span).most ≡ bound_of ss
first_bound [] h = absurd (omega (arith, h))
first_bound (s ∷ ss) h = refl

pub returns-clause-bound : goal.returns-clause-bound
returns-clause-bound c =
    let some = c.in_ok-area.ensures.boxed.loops_count in
    let few = c.count.ensures.few in
    let value = c.count.ensures.value in
    let bound : c.whole.result ≡ whole c.loop_span.result.most = c.whole.ensures ∙ ap whole (omega (arith, ints)) in
    bound ∙ ap (λ (s : Span). whole s.most) c.loop_span.ensures
    ∙ first_bound c.in_ok-area.area.loops (omega (arith, some, few, value))
    ∙ ap (λ (b : Area). bound_of b.loops) c.in_ok-area.ensures.value
