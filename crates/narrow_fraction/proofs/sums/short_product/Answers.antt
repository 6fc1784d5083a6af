use Rattle.std.proofs.Common.{refl, pos, ◌*ℤ◌}
use Rattle.std.proofs.lemmas.Int.{to_z-of_z}
use Rattle.narrow_fraction.proofs.Short.{times_short, word_fits, short_in}
use Rattle.narrow_fraction.proofs.sums.short_product.Goals as goal

pub overflow_cast-result : goal.overflow_cast-result
overflow_cast-result c = word_fits c.args.by c.requires.by

pub overflow_mul-result : goal.overflow_mul-result
overflow_mul-result c =
    simp (to_z-of_z, c.ranges.n, word_fits c.args.by c.requires.by) (short_in (c.args.n *ℤ pos c.args.by) (times_short c.args.n c.args.by c.requires.n c.requires.by))

pub returns-clause-value : goal.returns-clause-value
returns-clause-value c =
    simp (to_z-of_z, c.ranges.n, word_fits c.args.by c.requires.by, short_in (c.args.n *ℤ pos c.args.by) (times_short c.args.n c.args.by c.requires.n c.requires.by)) refl

pub returns-clause-size : goal.returns-clause-size
returns-clause-size c =
    let t = times_short c.args.n c.args.by c.requires.n c.requires.by in
    simp (to_z-of_z, c.ranges.n, word_fits c.args.by c.requires.by, short_in (c.args.n *ℤ pos c.args.by) t) t
