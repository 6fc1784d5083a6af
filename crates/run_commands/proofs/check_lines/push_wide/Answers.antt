use Rattle.std.proofs.Common.{codes}
use Rattle.std.specs.Fmt.{decimal}
use Rattle.std.proofs.lemmas.Result.{on_ok_weaker}
use Rattle.certificate_model.specs.Families.{table_of}
use Rattle.diagram_print.specs.Names.{row_text_in}
use Rattle.run_commands.proofs.Pushed.{end_pushed}
use Rattle.run_commands.proofs.check_lines.push_wide.Goals as goal

pub returns : goal.returns
returns c =
    on_ok_weaker c.push_at.result
    (end_pushed c.args.out.now.items (codes "rejected wide leaf ") (decimal c.args.leaf) (codes " ") (row_text_in (table_of c.args.names.now) c.args.row) _ _ _ c.in_ok-push_leaf_row.ensures)
    c.push_at.ensures
