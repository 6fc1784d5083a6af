use Rattle.std.proofs.Common.{◌≡◌, arith, subst}
use Rattle.std.proofs.lemmas.Int.{ints}
use mir.Val.{to_z, of_z}
use mir.Syntax.{w64}
use Rattle.engine_tests.specs.CappedRules.{EndsAs}
use Rattle.engine_tests.proofs.tests.branch_and_bound_tests.toy.end_with.Goals as goal

pub returns-then-links-eq1 : goal.returns-then-links-eq1
returns-then-links-eq1 c = λ a line e.
    let cap : to_z w64 (of_z w64 c.args.cap) ≡ c.args.cap = omega (arith, ints) in
    subst (λ z. EndsAs a z line c.end_of.result) cap (c.end_of.ensures a line e)
