use Rattle.std.proofs.Common.{refl}
use Rattle.workload_maker.specs.Draws.{state}
use Rattle.workload_maker.proofs.worked.law_seed_zero.Goals as goal

pub returns : goal.returns
unfolding state
returns c = record { first_state = refl; first_bits = refl; first_red = refl }
