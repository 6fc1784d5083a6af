-- What is found of a plan's timing that was made is the answer of `timing`.
use Rattle.std.proofs.Common.{inl, Result, Ok, Err}
use Rattle.std.specs.Prelude.{IfOk}
use Rattle.narrow_fraction.specs.declared.memory.Memory.{Memory}
use Rattle.progression.specs.Street.{Street}
use Rattle.artery_model.specs.Valid.{IsValid}
use Rattle.description_reader.specs.Typed.{Typed}
use Rattle.typed_plan.specs.Ends.{IsTimingOf}
use Rattle.typed_plan.specs.declared.timing.Measured.{Measured}
use Rattle.run_inputs.specs.Puts.{bytes_of}
use Rattle.run_inputs.specs.declared.found.Found.{Found}
use Rattle.run_commands.specs.Typed.{WritesTiming, TypedFinds}

pub timing_found : (a : Street) (p : Typed) (m : Measured) (r : Result Found Memory) → IsValid a → IsTimingOf a p m
    → IfOk r (λ x. WritesTiming a m x.cause x.lines.items (bytes_of x)) → IfOk r (λ x. TypedFinds a p x.cause x.lines.items (bytes_of x))
timing_found a p m (Ok x) v t f = inl (record { valid = v; made = m; made_is = t; finds = f })
timing_found a p m (Err e) v t f = tt
