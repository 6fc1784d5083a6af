use Rattle.std.proofs.Common.{arith}
use Rattle.std.proofs.lemmas.Grind.{common_steps}
use Rattle.rational_theory.proofs.Compare.{ne_false, eq_true, lt_true, lt_false, le_true, le_false}
use Rattle.narrow_fraction.proofs.two_words.TwoWords.of.Goals as goal

pub overflow_cast-result : goal.overflow_cast-result
overflow_cast-result c = grind (arith, common_steps)

pub returns : goal.returns
returns c = grind (arith, ne_false, eq_true, lt_true, lt_false, le_true, le_false)
