use Rattle.std.proofs.Common.{◌∙◌, ◌++◌, ◌∷◌, [], ℕ, ap, List}
use Rattle.plan_text.specs.Spelling.{ended}
use Rattle.certificate_model.specs.Warrants.{warrant_of}
use Rattle.plan_text.proofs.WrittenTexts.{first_written}
use Rattle.plan_text.proofs.cert_writing.write_named.Goals as goal

pub push_claim-requires : goal.push_claim-requires
push_claim-requires g c = c.requires.timing

pub push_named_tree-requires : goal.push_named_tree-requires
push_named_tree-requires g c = c.requires.nodes

pub returns : goal.returns
returns g c =
    let a = c.args in
    let w = warrant_of a.claim.now a.timing.now a.nodes.now in
    let first = c.in_ok-push_line.ensures ∙ ap (λ (y : List ℕ). y ++ ended (a.head.now ∷ [])) c.new-out.ensures.items in
    record {
      text = first_written g.K.CertificateKind.text g.K.CertificateKind.table a.head.now c.push_line.new.out.items c.push_claim.new.out.items c.push_named_tree.new.out.items
          w first c.in_ok-push_claim.ensures.text c.in_ok-push_named_tree.ensures.text;
      held = record { kept = c.requires; claim = c.in_ok-push_claim.ensures.claim; timing = c.in_ok-push_claim.ensures.timing; nodes = c.in_ok-push_named_tree.ensures.held };
    }
