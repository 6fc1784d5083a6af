-- The causes with which commands end, once their files were read.
use Rattle.std.specs.Prelude.{◌≡◌}
use Rattle.time_space.specs.declared.failing.Failing.TheVariants as rule
use Rattle.run_inputs.specs.declared.cause.Cause.{Cause}
use Rattle.run_inputs.specs.declared.cause.Cause.TheVariants as cause

-- there is no other
abbrev pub IsDone : Cause → Type 0
IsDone c = c ≡ cause.Done

-- an answer that a search gave
abbrev pub IsVerdict : Cause → Type 0
IsVerdict cause.Done = Unit {0}
IsVerdict cause.NoTiming = Unit {0}
IsVerdict (cause.Stopped stop) = Unit {0}
IsVerdict _ = ⊥

-- a timing keeps the rules that are looked at, or breaks this one
abbrev pub IsTestEnd : Cause → Type 0
IsTestEnd cause.Done = Unit {0}
IsTestEnd (cause.Fails f) = Unit {0}
IsTestEnd c = ⊥

-- a certificate is accepted or rejected
abbrev pub IsCheckEnd : Cause → Type 0
IsCheckEnd cause.Done = Unit {0}
IsCheckEnd (cause.Rejected r) = Unit {0}
IsCheckEnd c = ⊥

abbrev pub IsLinkCheckEnd : Cause → Type 0
IsLinkCheckEnd cause.Done = Unit {0}
IsLinkCheckEnd (cause.LinkRejected r) = Unit {0}
IsLinkCheckEnd c = ⊥

-- a plan is made, the certificate is rejected, or no plan is made of its timing
abbrev pub IsRoundEnd : Cause → Type 0
IsRoundEnd (cause.Unplanned e) = Unit {0}
IsRoundEnd c = IsCheckEnd c

-- or the other timing breaks a rule
abbrev pub IsRoundFromEnd : Cause → Type 0
IsRoundFromEnd (cause.Fails f) = Unit {0}
IsRoundFromEnd c = IsRoundEnd c

-- half-cycle plans are looked for, a rule of the base fails, or the timing can have no such plan
abbrev pub IsHalfEnd : Cause → Type 0
IsHalfEnd (cause.Unmatched e) = Unit {0}
IsHalfEnd c = IsTestEnd c

-- a typed plan's timing is made, or the plan isn't of the artery, or has too many ticks
abbrev pub IsTypedEnd : Cause → Type 0
IsTypedEnd cause.Done = Unit {0}
IsTypedEnd (cause.Refused r) = Unit {0}
IsTypedEnd (cause.TooFine ticks) = Unit {0}
IsTypedEnd c = ⊥

-- a timing is drawn or made a table, or has another number of signals, or there is none
abbrev pub IsDrawingEnd : Cause → Type 0
IsDrawingEnd cause.Done = Unit {0}
IsDrawingEnd (cause.Fails rule.Shape) = Unit {0}
IsDrawingEnd cause.Untimed = Unit {0}
IsDrawingEnd c = ⊥

-- a file is explained, or refused, whether as a document or as a text
abbrev pub IsExplainEnd : Cause → Type 0
IsExplainEnd cause.Done = Unit {0}
IsExplainEnd (cause.Refused r) = Unit {0}
IsExplainEnd (cause.BadText b) = Unit {0}
IsExplainEnd c = ⊥
