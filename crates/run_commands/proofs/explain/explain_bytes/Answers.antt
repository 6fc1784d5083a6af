use Rattle.run_commands.proofs.Explained.{explain_ends, explain_answers}
use Rattle.run_commands.proofs.explain.explain_bytes.Goals as goal

pub returns-clause-ends : goal.returns-clause-ends
returns-clause-ends c = explain_ends c.args.bytes.now c.explained.result c.explained.ensures.told

pub returns-clause-answer : goal.returns-clause-answer
returns-clause-answer c = explain_answers c.explained.result (explain_ends c.args.bytes.now c.explained.result c.explained.ensures.told) c.explained.ensures.no_put
