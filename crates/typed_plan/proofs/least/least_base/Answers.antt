use Rattle.std.proofs.Common.{◌<◌, ◌^◌, sym, subst, ◌∙◌}
use Rattle.typed_plan.proofs.LeastBase.{are_least, parts_of, base_is, of_base, least_sizes}
use Rattle.typed_plan.proofs.least.least_base.Goals as goal

pub unreachable-requires : goal.unreachable-requires
unreachable-requires c =
    c.in-None.ensures.none
    (of_base c.args.artery.now c.args.plan.now _ _ _ _ _ _
    (parts_of c.args.artery.now c.args.plan.now c.requires.grid c.size-unit.ensures.value (c.in_ok-patterns.ensures.items ∙ c.patterns.ensures.value)
    c.in_ok-reds.ensures.value c.in_ok-run_out.ensures c.in_ok-run_in.ensures)
    c.known_valid.ensures c.known_within.ensures c.requires.counts c.requires.fine c.in_ok-reds.ensures.small)

pub returns : goal.returns
returns c =
    c.in-Some.ensures.value
    ∙ base_is c.args.artery.now c.args.plan.now _ _ _ _ _ _
    (parts_of c.args.artery.now c.args.plan.now c.requires.grid c.size-unit.ensures.value (c.in_ok-patterns.ensures.items ∙ c.patterns.ensures.value)
    c.in_ok-reds.ensures.value c.in_ok-run_out.ensures c.in_ok-run_in.ensures)

pub size-unit-requires-clause-small : goal.size-unit-requires-clause-small
size-unit-requires-clause-small c = subst (λ n. n < 2 ^ 80) (sym c.requires.grid) (least_sizes c.args.artery.now c.args.plan.now c.known_valid.ensures
    c.known_within.ensures c.requires.fine).grid_small

pub reds-requires-clause-least : goal.reds-requires-clause-least
reds-requires-clause-least c = are_least c.args.artery.now c.args.plan.now _ _ c.requires.grid c.size-unit.ensures.value c.known_valid.ensures c.known_within.ensures c.requires.fine
