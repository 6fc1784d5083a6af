-- The number of each cause, and of words that are no text, of which there is no run; and which causes are answers.
use Rattle.std.specs.Prelude.{◌≡◌, ℕ, List, Option, None}
use Rattle.run_inputs.specs.declared.cause.Cause.{Cause}
use Rattle.run_inputs.specs.declared.cause.Cause.TheVariants as cause

abbrev pub number_of : Cause → ℕ
number_of cause.Done = 0
number_of cause.NoTiming = 1
number_of (cause.Stopped stop) = 2
number_of (cause.Refused r) = 3
number_of (cause.BadText b) = 3
number_of (cause.Fails f) = 4
number_of (cause.Rejected r) = 4
number_of (cause.LinkRejected r) = 4
number_of cause.Words = 5
number_of (cause.ReadFault file) = 6
number_of cause.WriteFault = 7
number_of cause.Memory = 8
number_of (cause.TooLong file) = 9
number_of (cause.Unplanned end) = 10
number_of cause.Untimed = 10
number_of (cause.Unmatched end) = 11
number_of (cause.TooFine ticks) = 11

abbrev pub no_words : ℕ
no_words = 12

-- an answer that neither a fault nor want of memory gave
abbrev pub IsReached : Cause → Type 0
IsReached (cause.ReadFault file) = ⊥
IsReached cause.WriteFault = ⊥
IsReached cause.Memory = ⊥
IsReached _ = Unit {0}

-- an answer that a command may give once its files were read: no fault, no want of memory, no words that aren't understood; and what it refuses puts nothing
abbrev pub IsOwnAnswer : Cause → Option (List ℕ) → Type 0
IsOwnAnswer cause.Words put = ⊥
IsOwnAnswer (cause.ReadFault file) put = ⊥
IsOwnAnswer cause.WriteFault put = ⊥
IsOwnAnswer cause.Memory put = ⊥
IsOwnAnswer cause.Done put = Unit {0}
IsOwnAnswer cause.NoTiming put = Unit {0}
IsOwnAnswer (cause.Stopped stop) put = Unit {0}
IsOwnAnswer c put = put ≡ None
