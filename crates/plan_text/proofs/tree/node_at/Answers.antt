use Rattle.plan_text.specs.Namings.{naming_of}
use Rattle.plan_text.proofs.NodeLoop.{is_shorter, has_lines}
use Rattle.plan_text.proofs.tree.node_at.Goals as goal

pub returns-clause-shorter : goal.returns-clause-shorter
returns-clause-shorter c = is_shorter (naming_of c.args.names) c.args.line c.args.bytes.now c.node_from.result c.node_from.ensures

pub returns-clause-lines : goal.returns-clause-lines
returns-clause-lines c = has_lines (naming_of c.args.names) c.args.line c.args.bytes.now c.node_from.result c.node_from.ensures
