use Rattle.std.proofs.Common.{map}
use Rattle.std.proofs.lemmas.Result.{on_ok_weaker}
use Rattle.certificate_model.specs.Warrants.{node_of}
use Rattle.plan_text.specs.Namings.{naming_of}
use Rattle.plan_text.proofs.WrittenTexts.{tree_written}
use Rattle.plan_text.proofs.tree_writing.push_tree.Goals as goal

pub returns-clause-text : goal.returns-clause-text
returns-clause-text c =
    on_ok_weaker c.push_line-2.result (λ e. tree_written c.args.out.now.items _ _ _ (naming_of c.args.names) (map node_of c.args.nodes.now)
    c.in_ok-push_line.ensures c.in_ok-push_nodes.ensures.text e) c.push_line-2.ensures
