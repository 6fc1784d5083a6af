use Rattle.std.proofs.Common.{refl}
use Rattle.narrow_fraction.proofs.Signs.{zero_by_size}
use Rattle.narrow_fraction.proofs.frac.Frac.is_zero.Goals as goal

pub returns : goal.returns
returns c = zero_by_size c.args.self.now c.parts.result.top _ c.parts.ensures.top refl
