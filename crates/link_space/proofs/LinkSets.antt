-- The rows of links of an artery are a set of rows.
use Rattle.std.proofs.Common.{◌≡◌, ◌≤◌, ◌-◌, length, replicate, ◌∙◌, arith, length-append}
use Rattle.std.proofs.lemmas.List.{length-replicate}
use Rattle.rational_theory.specs.Rational.{◌*ℚ◌}
use Rattle.progression.specs.Street.{Street, count}
use Rattle.progression.specs.Speeds.{number}
use Rattle.artery_model.specs.Valid.{IsValid}
use Rattle.linear_theory.specs.Places.{width}
use Rattle.loop_rows.specs.RowSets.{IsRowSet}
use Rattle.link_theory.specs.LinkColumns.{link_width}
use Rattle.link_theory.specs.LinkRows.{link_goal}
use Rattle.link_theory.proofs.LinkFamilies.{link_family_least, link_family_most, link_index_most}
use Rattle.link_space.specs.LinkWeights.{link_name_at, link_set}
use Rattle.link_space.specs.laws.LinkSheets.{link_sheet_width}
use Rattle.link_space.proofs.LinkRowTests.{link_row_decided}

pub link_goal_width : (a : Street) → 2 ≤ count a → length (link_goal a) ≡ link_width (count a)
link_goal_width a two =
    let n = count a in
    let m = n - 1 in
    let z = length-replicate (width n) (number 0) in
    let o = length-replicate m (number 2) in
    let b = length-replicate m (number 2 *ℚ a.head.ratio) in
    let e = length-append (replicate m (number 2)) (replicate m (number 2 *ℚ a.head.ratio)) in
    length-append (replicate (width n) (number 0)) _ ∙ omega arith

pub links_are_set : (a : Street) → IsValid a → IsRowSet (link_set a)
links_are_set a v = record {
  least = λ r e. link_family_least a r.family r.index ((link_row_decided a (link_name_at r)).0 e);
  family = λ r e. link_family_most a r.family r.index ((link_row_decided a (link_name_at r)).0 e);
  index = λ r e. link_index_most a r.family r.index ((link_row_decided a (link_name_at r)).0 e);
  rows = λ box r. link_sheet_width a box v.few (link_name_at r);
  goal = link_goal_width a v.few;
  few = let n = v.many in omega arith;
}
