use Rattle.std.proofs.Common.{◌≡◌, true, false, rules}
use Rattle.run_inputs.specs.Timed.{is_timing}
use Rattle.run_inputs.proofs.Timing.{timing_refused, certificate_refused}
use Rattle.run_inputs.proofs.readable.TimedReadable.read.Goals as goal

pub returns-in_err-timing-clause-refused : goal.returns-in_err-timing-clause-refused
returns-in_err-timing-clause-refused c =
    let first : is_timing c.args.bytes.items ≡ true = search rules in
    let told = timing_refused c.args.bytes.items c.in_err-timing.field-0.0 first c.in_err-timing.ensures.refused in search (rules, told)

pub returns-in_err-warrant-clause-refused : goal.returns-in_err-warrant-clause-refused
returns-in_err-warrant-clause-refused c =
    let other : is_timing c.args.bytes.items ≡ false = search rules in
    let told = certificate_refused c.args.bytes.items c.in_err-warrant.field-0.0 other c.in_err-warrant.ensures.refused in search (rules, told)
