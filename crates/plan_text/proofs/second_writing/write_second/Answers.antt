use Rattle.std.proofs.Common.{◌≡◌, ◌∙◌, ◌++◌, ◌∷◌, [], ℕ, sym, ap, subst, map, List, All, arith}
use Rattle.plan_text.specs.Namings.{Listed, tree_lines}
use Rattle.named_row.specs.declared.names.RowId.{RowId}
use Rattle.certificate_model.specs.declared.certificate.CertNode.{CertNode}
use Rattle.plan_text.specs.Spelling.{ended}
use Rattle.certificate_model.specs.Families.{IsNamed}
use Rattle.certificate_model.specs.Warrants.{Warrant, warrant_of, node_of}
use Rattle.plan_text.specs.CertificateText.{IsHeldNode, IsHeldWarrant}
use Rattle.plan_text.specs.SecondText.{second_line, row_lines, second_text}
use Rattle.plan_text.specs.Leaves.{rows_of}
use Rattle.plan_text.specs.CertificateReading.{certificate_of}
use Rattle.plan_text.proofs.Certificates.{second_text_again}
use Rattle.plan_text.proofs.ListedRows.{rows_named}
use Rattle.plan_text.proofs.WrittenTexts.{second_written}
use Rattle.std.proofs.lemmas.Grind.{common_steps}
use Rattle.plan_text.proofs.second_writing.write_second.Goals as goal

pub push_rows-requires : goal.push_rows-requires
push_rows-requires c =
    let is = c.as_slice-2.ensures.value ∙ c.in_ok-rows.ensures.value ∙ ap (λ (y : List CertNode). rows_of (map node_of y)) c.as_slice.ensures.value in
    subst (All IsNamed) (sym is) (rows_named (map node_of c.certificate.inside.nodes.items) c.certificate.invariant.nodes)

pub returns : goal.returns
returns c =
    let s = c.certificate.inside in
    let w : Warrant = warrant_of s.claim s.timing s.nodes.items in
    let second = c.push_claim.new.out.items in
    let own : c.in_ok-rows.rows.items ≡ rows_of w.nodes = c.in_ok-rows.ensures.value ∙ ap (λ (y : List CertNode). rows_of (map node_of y)) c.as_slice.ensures.value in
    let first : c.push_line.new.out.items ≡ ended (second_line ∷ []) = c.in_ok-push_line.ensures ∙ ap (λ (y : List ℕ). y ++ ended (second_line ∷ [])) c.new-out.ensures.items in
    let rows : c.push_rows.new.out.items ≡ second ++ ended (row_lines (rows_of w.nodes)) = c.in_ok-push_rows.ensures
    ∙ ap (λ (y : List RowId). second ++ ended (row_lines y)) (c.as_slice-2.ensures.value ∙ own) in
    let tree : c.push_tree.new.out.items ≡ c.push_rows.new.out.items ++ ended (tree_lines (Listed (rows_of w.nodes)) w.nodes) =
    c.in_ok-push_tree.ensures.text
    ∙ ap (λ (y : List RowId). c.push_rows.new.out.items ++ ended (tree_lines (Listed y) (map node_of c.as_slice-4.result.now))) (c.as_slice-3.ensures.value ∙ own)
    ∙ ap (λ (y : List CertNode). c.push_rows.new.out.items ++ ended (tree_lines (Listed (rows_of w.nodes)) (map node_of y))) c.as_slice-4.ensures.value in
    let text = second_written c.push_line.new.out.items second c.push_rows.new.out.items c.push_tree.new.out.items w first c.in_ok-push_claim.ensures.text rows tree in
    let held : IsHeldWarrant w = record {
      kept = c.certificate.invariant;
      claim = c.in_ok-push_claim.ensures.claim;
      timing = c.in_ok-push_claim.ensures.timing;
      nodes = subst (λ (y : List CertNode). All IsHeldNode (map node_of y)) c.as_slice-4.ensures.value c.in_ok-push_tree.ensures.held;
    } in
    let whole = text ∙ ap second_text c.certificate.view_is in
    record { text = whole; read_back = ap certificate_of whole ∙ second_text_again _ (subst IsHeldWarrant c.certificate.view_is held) }

pub returns-in_err-rows : goal.returns-in_err-rows
returns-in_err-rows c = grind (arith, common_steps)

pub returns-in_err-push_rows : goal.returns-in_err-push_rows
returns-in_err-push_rows c = grind (arith, common_steps)
