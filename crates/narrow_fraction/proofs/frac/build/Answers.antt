use Rattle.std.proofs.Common.{arith}
use Rattle.narrow_fraction.proofs.Parts.{fits_parts}
use Rattle.narrow_fraction.proofs.frac.build.Goals as goal

pub returns-then-top-gt-MOST : goal.returns-then-top-gt-MOST
returns-then-top-gt-MOST c = λ f.
    let p = fits_parts c.args.negative c.args.top c.args.bottom c.requires.above c.requires.reduced f in
    grind (arith, p.0, p.1, c.then-top-gt-MOST.either)
