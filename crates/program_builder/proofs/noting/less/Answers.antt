use Rattle.program_builder.proofs.WrittenBounds.{less_nothing, zero_own, zero_factor}
use Rattle.program_builder.proofs.noting.less.Goals as goal

pub returns-then-is_zero-clause-less : goal.returns-then-is_zero-clause-less
returns-then-is_zero-clause-less c =
    less_nothing c.args.factor.now c.args.own c.args.bound c.requires (zero_own c.args.factor.now c.args.own (c.is_zero.ensures.0 c.if-is_zero.true))

pub returns-then-is_zero-2-clause-less : goal.returns-then-is_zero-2-clause-less
returns-then-is_zero-2-clause-less c =
    less_nothing c.args.factor.now c.args.own c.args.bound c.requires (zero_factor c.args.factor.now c.args.own (c.is_zero-2.ensures.0 c.if-is_zero-2.true))
