use Rattle.std.proofs.Common.{map, refl, sym, ◌∙◌}
use Rattle.std.specs.Prelude.{string_bytes}
use Rattle.run_commands.specs.Words.{request_of}
use Rattle.maxband_tests.proofs.ReadFaults.{no_read_fault}
use Rattle.maxband_tests.proofs.running.run_surely.Goals as goal

pub returns-clause-read : goal.returns-clause-read
returns-clause-read c = λ e. no_read_fault _ _ (request_of (map string_bytes c.args.words.now)) _ (λ name. refl) (λ name. refl) c.run.ensures.ends (sym c.run.ensures.number ∙ e)
