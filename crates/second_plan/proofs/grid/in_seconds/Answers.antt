use Rattle.std.proofs.Common.{◌∙◌, ◌*◌, map, ap₂, subst, arith}
use Rattle.std.specs.Prelude.{All, ◌≤◌}
use Rattle.second_plan.proofs.Fine.{parts_of, base_is, of_base}
use Rattle.std.proofs.lemmas.Grind.{common_steps}
use Rattle.rational_theory.proofs.Compare.{ne_false, eq_true, lt_true, lt_false, le_true, le_false}
use Rattle.second_plan.proofs.grid.in_seconds.Goals as goal

pub unreachable-requires : goal.unreachable-requires
unreachable-requires c =
    let a = c.args.artery.now in let t = c.args.base.now in
    c.in-None.ensures.none
    (of_base a t c.args.rounded.now.seconds c.args.rounded.now.offsets.items
    c.known_valid.ensures c.count.ensures.formed c.requires.fine c.requires.rounded.some c.requires.shape
    (subst (λ xs. All (λ p. (1 ≤ p) × (p ≤ 4)) xs) c.patterns.ensures.value c.patterns.ensures.each)
    c.requires.offsets c.requires.rounded.below
    _ _ _ _ _ _
    (parts_of a t c.args.rounded.now.seconds c.args.rounded.now.offsets.items c.grid-grid.ensures.value c.unit-unit.ensures.value (c.in_ok-patterns.ensures.items ∙ c.patterns.ensures.value)
    (c.in_ok-reds.ensures ∙ ap₂ (λ g xs. map (λ offset. offset * g) xs) c.grid-grid.ensures.value c.as_slice.ensures.value)
    (c.in_ok-run_out.ensures ∙ ap₂ (λ m xs. map (λ n. n * m) xs) c.fineness-fineness.ensures.value c.run_out.ensures.value)
    (c.in_ok-run_in.ensures ∙ ap₂ (λ m xs. map (λ n. n * m) xs) c.fineness-fineness.ensures.value c.run_in.ensures.value)))

pub returns : goal.returns
returns c =
    let a = c.args.artery.now in let t = c.args.base.now in
    c.in-Some.ensures.value
    ∙ base_is a t c.args.rounded.now.seconds c.args.rounded.now.offsets.items
    _ _ _ _ _ _
    (parts_of a t c.args.rounded.now.seconds c.args.rounded.now.offsets.items c.grid-grid.ensures.value c.unit-unit.ensures.value (c.in_ok-patterns.ensures.items ∙ c.patterns.ensures.value)
    (c.in_ok-reds.ensures ∙ ap₂ (λ g xs. map (λ offset. offset * g) xs) c.grid-grid.ensures.value c.as_slice.ensures.value)
    (c.in_ok-run_out.ensures ∙ ap₂ (λ m xs. map (λ n. n * m) xs) c.fineness-fineness.ensures.value c.run_out.ensures.value)
    (c.in_ok-run_in.ensures ∙ ap₂ (λ m xs. map (λ n. n * m) xs) c.fineness-fineness.ensures.value c.run_in.ensures.value))

pub reds-requires : goal.reds-requires
reds-requires c = grind (arith, common_steps)

pub returns-in_err-run_in : goal.returns-in_err-run_in
returns-in_err-run_in c = grind (arith, ne_false, eq_true, lt_true, lt_false, le_true, le_false)
