-- The rows of an artery are a set of rows.
use Rattle.std.proofs.Common.{arith}
use Rattle.progression.specs.Street.{Street}
use Rattle.artery_model.specs.Valid.{IsValid}
use Rattle.linear_theory.specs.Rows.{goal_form}
use Rattle.linear_theory.specs.Names.{form_of}
use Rattle.linear_theory.proofs.Families.{family_least, family_most, index_most}
use Rattle.loop_rows.specs.laws.Writing.{written_width}
use Rattle.loop_rows.specs.Weights.{name_at}
use Rattle.loop_rows.specs.RowSets.{IsRowSet, artery_set}
use Rattle.loop_rows.proofs.RowTests.{row_decided}

pub artery_is_set : (a : Street) → IsValid a → IsRowSet (artery_set a)
artery_is_set a v = record {
  least = λ r e. family_least a r.family r.index ((row_decided a (name_at r)).0 e);
  family = λ r e. family_most a r.family r.index ((row_decided a (name_at r)).0 e);
  index = λ r e. index_most a r.family r.index ((row_decided a (name_at r)).0 e);
  rows = λ box r. written_width a (form_of a box (name_at r));
  goal = written_width a (goal_form a);
  few = let n = v.many in omega arith;
}
