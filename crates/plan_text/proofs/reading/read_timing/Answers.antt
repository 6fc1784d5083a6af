use Rattle.std.proofs.Common.{subst, ap, ◌∙◌}
use Rattle.plan_text.specs.Lines.{Gives}
use Rattle.plan_text.specs.Reading.{timing_of}
use Rattle.plan_text.proofs.Timings.{is_found, timing_again}
use Rattle.plan_text.proofs.reading.read_timing.Goals as goal

pub returns-clause-found : goal.returns-clause-found
returns-clause-found c = is_found c.args.bytes.now c.timing_of.result c.timing_of.ensures

pub returns-clause-only : goal.returns-clause-only
returns-clause-only c = λ t held e. subst (λ read. Gives (λ t. t) c.timing_of.result read) (ap timing_of e ∙ timing_again t held) c.timing_of.ensures
