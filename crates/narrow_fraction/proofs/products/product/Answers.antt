use Rattle.narrow_fraction.proofs.Parts.{signed-times, product-over}
use Rattle.narrow_fraction.proofs.products.product.Goals as goal

pub returns : goal.returns
returns c =
    let x = c.parts-left.ensures in
    let y = c.parts-right.ensures in
    simp (x.sign, x.top, x.bottom, y.sign, y.top, y.bottom, signed-times, product-over) at c.product_of_sizes.ensures
