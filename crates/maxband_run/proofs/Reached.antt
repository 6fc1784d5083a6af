-- What is found is neither a fault nor want of memory.
use Rattle.std.proofs.Common.{ℕ, List, Option, Some, None, sym, subst}
use Rattle.run_inputs.specs.Reading.{Values}
use Rattle.run_inputs.specs.Status.{IsReached, IsOwnAnswer}
use Rattle.run_inputs.specs.declared.cause.Cause.{Cause}
use Rattle.run_inputs.specs.declared.cause.Cause.TheVariants as cause
use Rattle.run_commands.specs.Words.{Request}
use Rattle.maxband_run.specs.Run.{question}

own_reached : (c : Cause) (b : Option (List ℕ)) → IsOwnAnswer c b → IsReached c
own_reached (cause.ReadFault file) b h = h
own_reached cause.WriteFault b h = h
own_reached cause.Memory b h = h
own_reached c b h = tt

pub finds_reached : (asked : Option Request) (v : Values (question asked).readers) (c : Cause) (l : List ℕ) (b : Option (List ℕ))
    → (question asked).finds v (question asked).settings c l b → IsReached c
finds_reached None v c l b h = subst IsReached (sym h.0) tt
finds_reached (Some r) v c l b h = own_reached c b h.answer
