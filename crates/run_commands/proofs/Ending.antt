-- A verdict is an answer of a command, whatever is put.
use Rattle.std.proofs.Common.{ℕ, List, Option}
use Rattle.run_inputs.specs.Status.{IsOwnAnswer}
use Rattle.run_inputs.specs.declared.cause.Cause.{Cause}
use Rattle.run_inputs.specs.declared.cause.Cause.TheVariants as cause
use Rattle.run_commands.specs.Ends.{IsVerdict}

pub verdict_answer : (c : Cause) (put : Option (List ℕ)) → IsVerdict c → IsOwnAnswer c put
verdict_answer cause.Done put h = tt
verdict_answer cause.NoTiming put h = tt
verdict_answer (cause.Stopped stop) put h = tt
verdict_answer c put h = absurd h
