use Rattle.std.proofs.lemmas.Int.{to_z-of_z}
use Rattle.half_integer.proofs.LineWidths.{none_runs, its_width}
use Rattle.half_integer.proofs.search.width_on.Goals as goal

pub returns-then-most-half : goal.returns-then-most-half
returns-then-most-half c =
    let first = c.ranges.first in
    its_width c.args.artery.now c.args.timing.now c.args.first _ _ c.cycle-half.ensures.value (simp to_z-of_z at c.fullest-most.ensures.value) c.fullest-most.ensures.some c.if-most-half.true

pub returns-else-most-half : goal.returns-else-most-half
returns-else-most-half c =
    let first = c.ranges.first in
    none_runs c.args.artery.now c.args.timing.now c.args.first _ _ c.cycle-half.ensures.value (simp to_z-of_z at c.fullest-most.ensures.value) c.fullest-most.ensures.some c.if-most-half.false
