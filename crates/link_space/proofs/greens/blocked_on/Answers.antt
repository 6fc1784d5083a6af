use Rattle.std.proofs.Common.{rules, FitsSigned}
use Rattle.std.specs.Int.{w128}
use Rattle.std.proofs.lemmas.Int.{to_z-of_z}
use Rattle.link_space.proofs.Ends.{exit_blocked, neither_blocked}
use Rattle.link_space.proofs.greens.blocked_on.Goals as goal

pub returns-in_err-tick : goal.returns-in_err-tick
returns-in_err-tick c =
    rw c.from_residual.ensures
    (neither_blocked c.args.artery.now c.args.timing.now c.args.link c.requires.link.1 c.args.dir c.ends-entry.result c.ends-entry.ensures c.in_default.ensures c.in_err-tick.ensures)

pub returns : goal.returns
returns c =
    let fits : FitsSigned w128 c.in_ok-tick.tick = search rules in
    let blocked = exit_blocked c.args.artery.now c.args.timing.now c.args.link c.requires.link.1 c.args.dir c.ends-entry.result c.ends-entry.ensures
    c.in_ok-tick.tick c.in_default.ensures c.in_ok-tick.ensures in
    simp to_z-of_z blocked
