use Rattle.run_commands.proofs.Typing.{timing_found}
use Rattle.run_commands.proofs.typed.typed_timing.Goals as goal

pub returns-in-Ok-clause-finds : goal.returns-in-Ok-clause-finds
returns-in-Ok-clause-finds c =
    timing_found c.args.artery.now c.args.plan.now c.in-Ok.made c.write_measured.result c.known_valid.ensures c.in-Ok.ensures.timing c.write_measured.ensures.finds
