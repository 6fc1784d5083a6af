use Rattle.std.proofs.Common.{◌≤◌, arith}
use Rattle.progression.specs.Street.{Street, count}
use Rattle.artery_model.specs.Valid.{IsValid}
use Rattle.linear_theory.specs.Boxes.{root_box}
use Rattle.linear_theory.proofs.RootBoxes.{root_is, root_boxed}
use Rattle.box_search.proofs.roots.known_searchable.Goals as goal

some : (a : Street) → IsValid a → 1 ≤ count a
some a v = let n = v.few in omega arith

pub returns : goal.returns
returns c =
    let a = c.args.artery.now in
    let v = c.known_valid.ensures in
    record { valid = v; root = root_boxed a (root_box a) c.have_shifts.ensures.some (root_is a (some a v)) }
