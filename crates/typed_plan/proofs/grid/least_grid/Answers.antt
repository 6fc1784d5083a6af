use Rattle.std.proofs.Common.{◌*◌, sym, ◌∙◌, ap}
use Rattle.typed_plan.specs.Grid.{shared, least_grid}
use Rattle.typed_plan.proofs.LeastGrid.{part_ticks, part_size, twice_as_fine}
use Rattle.typed_plan.proofs.grid.least_grid.Goals as goal

pub returns-then-size_of-eq1-clause-value : goal.returns-then-size_of-eq1-clause-value
unfolding least_grid
returns-then-size_of-eq1-clause-value c =
    let is = part_size c.args.artery.now c.args.plan.now _ _ _ c.size_of.ensures.value c.requires.shared c.time-part.ensures.value in
    ap (λ n. 2 * n) c.requires.shared ∙ sym ((twice_as_fine (part_ticks c.args.artery.now c.args.plan.now) (shared c.args.artery.now c.args.plan.now)).0 (sym is ∙ c.if-size_of-eq1.true))

pub returns-else-size_of-eq1-clause-value : goal.returns-else-size_of-eq1-clause-value
unfolding least_grid
returns-else-size_of-eq1-clause-value c =
    let is = part_size c.args.artery.now c.args.plan.now _ _ _ c.size_of.ensures.value c.requires.shared c.time-part.ensures.value in
    c.requires.shared ∙ sym ((twice_as_fine (part_ticks c.args.artery.now c.args.plan.now) (shared c.args.artery.now c.args.plan.now)).1 (λ e. c.if-size_of-eq1.false (is ∙ e)))
