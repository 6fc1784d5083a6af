use Rattle.std.proofs.Common.{◌≡◌, ◌≤◌, arith, subst, rules}
use Rattle.progression.specs.Street.{count}
use Rattle.band_measure.specs.Tried.{FoundOfEdges}
use Rattle.band_measure.proofs.Tries.{widest_of_edges, some_run, first_below_cycle, band_below_cycle}
use Rattle.std.proofs.lemmas.Grind.{common_steps}
use Rattle.band_measure.proofs.measure.widest_on.Goals as goal

pub returns : goal.returns
returns c =
    let all : c.loop-place.place ≡ count c.args.artery.now = omega (arith, c.count-place-end.ensures.value, c.loop-place.auto.place-end, c.loop-place-test.false) in
    let two : 2 ≤ c.args.base.now.unit = omega (arith, c.unit.ensures.value, c.unit.ensures.least) in
    let found = subst (λ n. FoundOfEdges c.args.artery.now c.args.base.now c.args.dir n c.loop-place.best) all c.loop-place.invariant.best in
    record {
      widest = widest_of_edges c.args.artery.now c.args.base.now c.args.dir c.loop-place.best c.known_valid.ensures two found;
      some = some_run c.args.artery.now c.args.base.now c.args.dir c.loop-place.best c.known_valid.ensures two found;
      first = first_below_cycle c.args.artery.now c.args.base.now c.args.dir c.loop-place.best found;
      band = band_below_cycle c.args.artery.now c.args.base.now c.args.dir c.loop-place.best c.known_valid.ensures two found;
    }

pub with_edge-best-requires : goal.with_edge-best-requires
with_edge-best-requires c = grind (arith, common_steps)

pub loop-place-preserved : goal.loop-place-preserved
loop-place-preserved c = search rules
