use Rattle.std.proofs.Common.{List, take, subst}
use Rattle.fraction_tableau.specs.declared.kept.Kept.{Kept}
use Rattle.fraction_tableau.specs.Marks.{AreMarked}
use Rattle.fraction_tableau.proofs.sparse_row.SparseRow.mark.Goals as goal

pub invariant_of-self : goal.invariant_of-self
invariant_of-self c =
    (c.self.invariant.0, (c.self.invariant.1.0, subst (λ (t : List Kept). AreMarked c.marks_of-self-inside.result (take c.self.inside.count t)) c.deref.ensures.value c.marks_of-self-inside.ensures))
