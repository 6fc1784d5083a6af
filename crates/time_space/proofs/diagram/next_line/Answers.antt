use Rattle.std.proofs.Common.{refl}
use Rattle.std.proofs.lemmas.Int.{to_z-of_z}
use Rattle.time_space.proofs.Fits.{returned, next_size, next_fits}
use Rattle.time_space.proofs.diagram.next_line.Goals as goal

pub overflow_add-result : goal.overflow_add-result
overflow_add-result c =
    simp (to_z-of_z, c.ranges.line, returned c.advance.result c.advance.type_inv)
    (next_fits c.args.line c.advance.result c.args.place c.requires.near c.advance.ensures.small c.ranges.place.fits)

pub returns-clause-value : goal.returns-clause-value
returns-clause-value c =
    let f = next_fits c.args.line c.advance.result c.args.place c.requires.near c.advance.ensures.small c.ranges.place.fits in
    simp (to_z-of_z, c.ranges.line, returned c.advance.result c.advance.type_inv, f)
    (rw c.advance.ensures.value refl)

pub returns-clause-near : goal.returns-clause-near
returns-clause-near c =
    let f = next_fits c.args.line c.advance.result c.args.place c.requires.near c.advance.ensures.small c.ranges.place.fits in
    simp (to_z-of_z, c.ranges.line, returned c.advance.result c.advance.type_inv, f)
    (next_size c.args.line c.advance.result c.args.place c.requires.near c.advance.ensures.small)
