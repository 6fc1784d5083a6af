use Rattle.std.proofs.Common.{◌≤◌, arith}
use Rattle.progression.specs.Street.{Street, count}
use Rattle.artery_model.specs.Valid.{IsValid}
use Rattle.linear_theory.proofs.Roots.{root_law}
use Rattle.search_box.proofs.Streets.{street_of}
use Rattle.search_box.proofs.Views.{root_of, root_boxed_of}
use Rattle.search_box.proofs.area.SearchBox.root.Goals as goal

some : (a : Street) → IsValid a → 1 ≤ count a
some a v = let n = v.few in omega arith

pub returns-clause-root : goal.returns-clause-root
returns-clause-root c = root_of c.args.artery.now c.in_ok-loops.loops.items c.in_ok-turns.turns.items c.in_ok-loops.ensures c.in_ok-turns.ensures.value (some c.args.artery.now c.known_valid.ensures)

pub returns-clause-street : goal.returns-clause-street
returns-clause-street c = grind (arith, street_of)

pub returns-clause-boxed : goal.returns-clause-boxed
returns-clause-boxed c = root_boxed_of c.args.artery.now c.in_ok-loops.loops.items c.in_ok-turns.turns.items c.in_ok-loops.ensures c.in_ok-turns.ensures.value
    (some c.args.artery.now c.known_valid.ensures) c.in_ok-turns.ensures.some

pub returns-clause-holds : goal.returns-clause-holds
returns-clause-holds c =
    let a = c.args.artery.now in
    let v = c.known_valid.ensures in
    λ t g. root_law a t (street_of a v) g _ (root_of a c.in_ok-loops.loops.items c.in_ok-turns.turns.items c.in_ok-loops.ensures c.in_ok-turns.ensures.value (some a v))

pub returns-in_err-loops : goal.returns-in_err-loops
returns-in_err-loops c = grind (arith, street_of)

pub returns-in_err-turns : goal.returns-in_err-turns
returns-in_err-turns c = grind (arith, street_of)
