-- What is told of a file ends as `explain` ends, and what it refuses puts nothing.
use Rattle.std.proofs.Common.{◌≡◌, ℕ, List, Option, None, ap}
use Rattle.std.specs.Prelude.{option_map, IfOk, Result, Ok, Err}
use Rattle.narrow_fraction.specs.declared.memory.Memory.{Memory}
use Rattle.file_kind.specs.Kinds.{kind_of}
use Rattle.file_kind.specs.declared.kind.FileKind.{FileKind}
use Rattle.file_kind.specs.declared.kind.FileKind.TheVariants as kind
use Rattle.file_words.specs.Explained.{TellsAs, Tells}
use Rattle.run_inputs.specs.Puts.{bytes_of}
use Rattle.run_inputs.specs.Status.{IsOwnAnswer}
use Rattle.run_inputs.specs.declared.cause.Cause.{Cause}
use Rattle.run_inputs.specs.declared.cause.Cause.TheVariants as cause
use Rattle.run_inputs.specs.declared.found.Found.{Found}
use Rattle.run_commands.specs.Ends.{IsExplainEnd}

module _ (bytes : List ℕ) where
  ends_as : (k : FileKind) (c : Cause) (lines : List ℕ) → TellsAs k bytes c lines → IsExplainEnd c
  ends_as k cause.Done lines h = tt
  ends_as k (cause.Refused r) lines h = tt
  ends_as k (cause.BadText b) lines h = tt
  ends_as kind.Timing c lines h = absurd h.refused
  ends_as kind.Certificate c lines h = absurd h.refused
  ends_as kind.LinkCertificate c lines h = absurd h.refused
  ends_as kind.Plan c lines h = absurd h.refused
  ends_as kind.Description c lines h = absurd h.refused

  pub explain_ends : (result : Result Found Memory) → IfOk result (λ a. Tells bytes a.cause a.lines.items) → IfOk result (λ a. IsExplainEnd a.cause)
  explain_ends (Ok a) h = ends_as (kind_of bytes) a.cause a.lines.items h
  explain_ends (Err e) h = tt

own : (c : Cause) (put : Option (List ℕ)) → IsExplainEnd c → put ≡ None → IsOwnAnswer c put
own cause.Done put h e = tt
own (cause.Refused r) put h e = e
own (cause.BadText b) put h e = e
own c put h e = absurd h

pub explain_answers : (result : Result Found Memory) → IfOk result (λ a. IsExplainEnd a.cause) → IfOk result (λ a. a.bytes ≡ None) → IfOk result (λ a. IsOwnAnswer a.cause (bytes_of a))
explain_answers (Ok a) h e = own a.cause (bytes_of a) h (ap (option_map (λ b. b.items)) e)
explain_answers (Err m) h e = tt
