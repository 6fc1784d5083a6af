use Rattle.std.proofs.Common.{◌≡◌, List, ℕ, ◌++◌, OnOk, sym, ◌∙◌, subst}
use Rattle.certificate_model.specs.Families.{table_of}
use Rattle.diagram_print.specs.Names.{numbered}
use Rattle.diagram_print.proofs.RowNames.{indexed}
use Rattle.diagram_print.proofs.names.push_row.Goals as goal

pub returns-else-is_lone_in : goal.returns-else-is_lone_in
returns-else-is_lone_in c =
    let e = indexed (table_of c.args.names.now) c.args.row (sym c.is_lone_in.ensures ∙ c.if-is_lone_in.false) in
    subst (λ (y : List ℕ). OnOk c.push_numbered.result (c.push_numbered.new.out.items ≡ c.args.out.now.items ++ y))
    (sym (e ∙ (λ t. numbered (sym c.family_name_in-family.ensures t) (sym c.from.ensures t)))) c.push_numbered.ensures
