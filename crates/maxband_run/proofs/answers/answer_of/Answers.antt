use Rattle.run_commands.specs.Words.{view}
use Rattle.maxband_run.proofs.Told.{tells}
use Rattle.maxband_run.proofs.answers.answer_of.Goals as goal

pub returns-clause-answered : goal.returns-clause-answered
returns-clause-answered g c =
    tells (view c.args.request) g.C.Command.usage g.C.Reads.Inputs.readers g.met.C.Command.same (g.C.Reads.Inputs.values c.in_ok-read.read) c.in_ok-found.found
    c.in_ok-read.ensures.read c.in_ok-found.ensures.finds c.in_ok-found.ensures.ends c.in_ok-found.ensures.answer
