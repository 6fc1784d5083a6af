use Rattle.narrow_fraction.proofs.Signs.{negative_by_sign}
use Rattle.narrow_fraction.proofs.frac.Frac.is_negative.Goals as goal

pub returns : goal.returns
returns c = negative_by_sign c.args.self.now c.parts.result.negative c.parts.ensures.sign
