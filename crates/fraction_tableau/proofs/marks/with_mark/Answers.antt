use Rattle.std.proofs.Common.{◌<◌, ◌%◌, arith}
use Rattle.std.specs.Int.{w64}
use Rattle.std.proofs.lemmas.Nat.Bits.{bit_at_set_same, bit_at_set_other}
use Rattle.fraction_tableau.proofs.marks.with_mark.Goals as goal

pub returns-clause-set : goal.returns-clause-set
returns-clause-set c =
    let low : c.args.place % 64 < 64 = omega arith in
    bit_at_set_same w64 c.args.marks (c.args.place % 64) low

pub returns-clause-others : goal.returns-clause-others
returns-clause-others c = λ i apart.
    let low : c.args.place % 64 < 64 = omega arith in
    bit_at_set_other w64 c.args.marks (c.args.place % 64) low i apart
