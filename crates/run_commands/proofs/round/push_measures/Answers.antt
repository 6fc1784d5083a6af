use Rattle.std.proofs.Common.{arith}
use Rattle.std.proofs.lemmas.Grind.{elements, common_steps}
use Rattle.run_commands.proofs.round.push_measures.Goals as goal

pub returns-in_err-push_band_line : goal.returns-in_err-push_band_line
returns-in_err-push_band_line c = grind (arith, elements)

pub returns : goal.returns
returns c = grind (arith, common_steps)
