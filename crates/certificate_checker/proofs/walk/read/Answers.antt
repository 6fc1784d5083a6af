use Rattle.std.proofs.Common.{◌+◌, drop, sym, subst, All}
use Rattle.std.proofs.lemmas.List.Elements.{All-head, All-tail}
use Rattle.certificate_checker.specs.Owed.{first_of}
use Rattle.certificate_checker.proofs.PlaceTests.{split_ready}
use Rattle.certificate_checker.proofs.Ways.{begins}
use Rattle.certificate_checker.proofs.walk.read.Goals as goal

pub check_leaf-requires-clause-ready : goal.check_leaf-requires-clause-ready
check_leaf-requires-clause-ready g c =
    let Ready = g.K.CheckedKind.Ready c.args.kind.now in
    All-head Ready c.first.result.now (drop 1 c.args.walk.now.owed) (subst (All Ready) c.first.ensures c.requires.ready)

pub returns-in-Split-clause-ready : goal.returns-in-Split-clause-ready
returns-in-Split-clause-ready g c =
    let Ready = g.K.CheckedKind.Ready c.args.kind.now in
    let old = c.args.walk.now.owed in
    let ready = subst (All Ready) (begins old c.requires.some) c.requires.ready in
    split_ready Ready (g.met.K.CheckedKind.parts c.args.kind.now) (first_of old) (drop 1 old) c.split.new.owed (c.args.before + 1) _ c.split.result
    (All-head Ready (first_of old) (drop 1 old) ready) (All-tail Ready (first_of old) (drop 1 old) ready) c.split.ensures.none c.split.ensures.parts

pub returns-in_ok-check_leaf-in-Leaf-clause-ready : goal.returns-in_ok-check_leaf-in-Leaf-clause-ready
returns-in_ok-check_leaf-in-Leaf-clause-ready g c =
    let Ready = g.K.CheckedKind.Ready c.args.kind.now in
    subst (All Ready) (sym c.done.ensures) (All-tail Ready c.first.result.now (drop 1 c.args.walk.now.owed) (subst (All Ready) c.first.ensures c.requires.ready))
