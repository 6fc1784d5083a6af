use Rattle.std.proofs.Common.{sym, subst}
use Rattle.std.specs.Prelude.{IfSome}
use Rattle.progression.specs.Good.{Good}
use Rattle.whole_plan.specs.Sought.{IsCeiling}
use Rattle.whole_plan.proofs.Searches.{ceiling_of}
use Rattle.whole_plan.proofs.searching.sought_in.Goals as goal

pub returns-clause-sought : goal.returns-clause-sought
returns-clause-sought c = record {
  found = c.in_ok-searched.searched.found;
  searched = c.in_ok-searched.ensures.searched;
  timing_is = c.sought_of.ensures.timing;
  bound_is = c.sought_of.ensures.bound;
}

pub returns-clause-ceiling : goal.returns-clause-ceiling
returns-clause-ceiling c =
    let found = c.in_ok-searched.searched.found in
    subst (λ b. IsCeiling c.args.street.now b) (sym c.sought_of.ensures.bound) (ceiling_of c.args.street.now found.timing found.bound found.verdict c.in_ok-searched.ensures.searched.proves)

pub returns-clause-good : goal.returns-clause-good
returns-clause-good c = subst (λ o. IfSome o (λ t. Good c.args.street.now t)) (sym c.sought_of.ensures.timing) c.in_ok-searched.ensures.good
