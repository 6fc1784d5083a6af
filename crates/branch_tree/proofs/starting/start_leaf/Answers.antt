use Rattle.std.proofs.Common.{Some, sym, subst}
use Rattle.linear_theory.specs.Boxes.{root_box}
use Rattle.certificate_checker.specs.Accepted.{IsProof}
use Rattle.branch_tree.specs.Starts.{start_bound}
use Rattle.branch_tree.proofs.BoxProofs.{start_covers}
use Rattle.branch_tree.proofs.starting.start_leaf.Goals as goal

pub returns-clause-covers : goal.returns-clause-covers
returns-clause-covers c =
    let a = c.args.artery.now in
    subst (λ x. IsProof a (Some x) (root_box a) c.in_ok-leaf.leaf.multipliers.items) (sym c.in_ok-bound.ensures)
    (subst (λ ws. IsProof a (Some (start_bound a)) (root_box a) ws) (sym c.in_ok-leaf.ensures) (start_covers a c.known_valid.ensures))
