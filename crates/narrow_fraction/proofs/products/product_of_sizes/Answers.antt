use Rattle.narrow_fraction.proofs.Parts.{zero_product}
use Rattle.narrow_fraction.proofs.products.product_of_sizes.Goals as goal

pub returns-then-a-eq0 : goal.returns-then-a-eq0
returns-then-a-eq0 c = zero_product c.args.negative c.args.a c.args.b c.args.c c.args.d c.requires.b c.requires.d c.then-a-eq0.either c.whole.result c.whole.ensures
