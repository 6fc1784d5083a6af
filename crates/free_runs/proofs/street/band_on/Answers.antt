use Rattle.std.proofs.Common.{◌≡◌, ◌+◌, length, arith}
use Rattle.free_runs.proofs.Ways.{found_free, way_is}
use Rattle.free_runs.proofs.FinerWays.{outer_of, found_finer, way_is as finer_way_is}
use Rattle.free_runs.proofs.street.band_on.Goals as goal

pub returns-then-is_way-clause-widest : goal.returns-then-is_way-clause-widest
returns-then-is_way-clause-widest c =
    found_free c.args.artery.now c.args.base.now c.args.dir c.args.signals.now c.args.links.now c.requires c.widest_free.result (rw c.cycle-cycle.ensures.value at c.widest_free.ensures.widest)

pub returns-else-is_way-clause-widest : goal.returns-else-is_way-clause-widest
returns-else-is_way-clause-widest c = λ out ins x b k g.
    let n = c.requires.count_signals in
    let m = c.requires.count_links in
    let two = c.known_valid.ensures.few in
    let few = c.known_valid.ensures.many in
    let cycle = c.cycle-cycle.ensures.value in
    let most = c.cycle-cycle.ensures.most in
    let way = way_is c.args.artery.now c.args.base.now c.args.dir c.args.signals.now c.args.links.now c.requires out ins k (omega (arith, two)) (omega (arith, few)) (omega (arith, cycle, most)) in
    let test = rw c.cycle-cycle.ensures.value at c.is_way.ensures in
    let yes = test.1 (let l : length c.args.links.now + 1 ≡ length c.args.signals.now = omega (arith, n, m) in l, way) in
    let no = c.if-is_way.false in
    absurd (cc)

pub returns-then-is_way-clause-finer : goal.returns-then-is_way-clause-finer
returns-then-is_way-clause-finer c = λ v.
    found_finer c.args.artery.now c.args.base.now c.args.dir c.args.signals.now c.args.links.now
    (outer_of c.args.artery.now c.args.base.now c.args.dir c.args.signals.now c.args.links.now c.requires v) c.widest_free.result (rw c.cycle-cycle.ensures.value at c.widest_free.ensures.finer)

pub returns-else-is_way-clause-finer : goal.returns-else-is_way-clause-finer
returns-else-is_way-clause-finer c = λ v g q out ins x b k e.
    let n = c.requires.count_signals in
    let m = c.requires.count_links in
    let two = c.known_valid.ensures.few in
    let few = c.known_valid.ensures.many in
    let cycle = c.cycle-cycle.ensures.value in
    let most = c.cycle-cycle.ensures.most in
    let way = finer_way_is c.args.artery.now c.args.base.now c.args.dir c.args.signals.now c.args.links.now
    (outer_of c.args.artery.now c.args.base.now c.args.dir c.args.signals.now c.args.links.now c.requires v) g q out ins k (omega (arith, two)) (omega (arith, few))
    (omega (arith, cycle, most)) in
    let test = rw c.cycle-cycle.ensures.value at c.is_way.ensures in
    let yes = test.1 (let l : length c.args.links.now + 1 ≡ length c.args.signals.now = omega (arith, n, m) in l, way) in
    let no = c.if-is_way.false in
    absurd (cc)
