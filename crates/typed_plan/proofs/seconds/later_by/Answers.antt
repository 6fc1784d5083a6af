use Rattle.std.proofs.Common.{subst, sym}
use Rattle.std.specs.Prelude.{◌≤◌, unsigned_abs}
use Rattle.rational_theory.specs.Rational.{ℚ}
use Rattle.typed_plan.proofs.Sizes.{later_num, later_fits}
use Rattle.typed_plan.proofs.seconds.later_by.Goals as goal

pub unreachable-requires : goal.unreachable-requires
unreachable-requires c = c.in-Err.ensures.wide.1 (later_fits c.args.one c.args.other c.requires.one_num c.requires.one_den c.requires.other_num c.requires.other_den)

pub returns-clause-num : goal.returns-clause-num
returns-clause-num c =
    let P : ℚ → Type 0 = λ x. unsigned_abs x.num ≤ 200000000 in
    subst P (sym c.in-Ok.ensures.value.1) (later_num c.args.one c.args.other c.requires.one_num c.requires.one_den c.requires.other_num c.requires.other_den)
