use Rattle.plan_text.proofs.Fields.{read_fewest, read_most, read_each}
use Rattle.plan_text.proofs.lines.numbers_at.Goals as goal

pub returns-clause-fewest : goal.returns-clause-fewest
returns-clause-fewest c = read_fewest c.args.key.now c.args.place c.args.bytes.now c.line_of_numbers.result c.line_of_numbers.ensures

pub returns-clause-most : goal.returns-clause-most
returns-clause-most c = read_most c.args.key.now c.args.place c.args.bytes.now c.line_of_numbers.result c.line_of_numbers.ensures

pub returns-clause-each : goal.returns-clause-each
returns-clause-each c = read_each c.args.key.now c.args.place c.args.bytes.now c.line_of_numbers.result c.line_of_numbers.ensures
