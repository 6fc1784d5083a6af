use Rattle.std.proofs.Common.{inr, refl, sym}
use Rattle.branch_and_bound.proofs.greatest.enlarge.Goals as goal

pub returns-then-not-is_over : goal.returns-then-not-is_over
returns-then-not-is_over g c = inr (record {
  bound = c.in-Some.bound;
  is = sym c.in-Some.ensures;
  new_is = refl;
  over = c.if-not-is_over.ensures.more refl;
})
