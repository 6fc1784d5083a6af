-- What `show` finds of an artery.
use Rattle.std.specs.Prelude.{ℕ, List}
use Rattle.progression.specs.Street.{Street}
use Rattle.description_reader.specs.Printed.{IsCanonicalText}
use Rattle.run_inputs.specs.declared.cause.Cause.{Cause}
use Rattle.run_inputs.specs.declared.cause.Cause.TheVariants as cause

-- these lines are the canonical description of the artery
abbrev pub Shows : Street → Cause → List ℕ → Type 0
Shows a cause.Done lines = IsCanonicalText a lines
Shows a c lines = ⊥
