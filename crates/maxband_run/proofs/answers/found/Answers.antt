use Rattle.std.proofs.Common.{rules}
use Rattle.maxband_run.proofs.Told.{words_told}
use Rattle.maxband_run.proofs.answers.found.Goals as goal

pub returns-in_ok-words_answer-in-None-clause-answered : goal.returns-in_ok-words_answer-in-None-clause-answered
returns-in_ok-words_answer-in-None-clause-answered g c =
    let told = words_told {files = g.F.Files} {before = c.args.files.now} c.in_ok-words_answer-in-None.field-0 c.in_ok-words_answer-in-None.ensures.cause
    c.in_ok-words_answer-in-None.ensures.lines in
    search (rules, told)
