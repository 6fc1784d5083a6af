use Rattle.std.proofs.Common.{◌-◌, arith}
use Rattle.progression.specs.Street.{count}
use Rattle.whole_offsets.proofs.Sizes.{run_found}
use Rattle.whole_offsets.proofs.scale.large_run.Goals as goal

pub returns-then-ticks-ge-LIMIT : goal.returns-then-ticks-ge-LIMIT
returns-then-ticks-ge-LIMIT c =
    let n = c.count-place-end.ensures.value in
    let t = c.loop-place-test.true in
    run_found c.args.artery.now c.args.dir c.args.grid (count c.args.artery.now - 1) c.loop-place.place c.most_run-ticks.result c.loop-place.invariant c.most_run-ticks.ensures.value
    c.if-ticks-ge-LIMIT.true (omega (arith, n, t))
