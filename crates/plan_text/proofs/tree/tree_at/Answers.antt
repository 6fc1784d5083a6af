use Rattle.std.proofs.Common.{arith}
use Rattle.plan_text.specs.CertificateText.{tree_line}
use Rattle.plan_text.proofs.Fields.{fixed_shorter}
use Rattle.plan_text.proofs.tree.tree_at.Goals as goal

pub nodes_at-requires-clause-lines : goal.nodes_at-requires-clause-lines
nodes_at-requires-clause-lines c = omega (arith, c.requires.lines, fixed_shorter c.args.line tree_line c.args.bytes.now c.in_ok-rest.rest.now c.in_ok-rest.ensures)

pub ends_after-requires : goal.ends_after-requires
ends_after-requires c = omega (arith, c.requires.lines, c.in_ok-nodes.ensures.lines, fixed_shorter c.args.line tree_line c.args.bytes.now c.in_ok-rest.rest.now c.in_ok-rest.ensures)
