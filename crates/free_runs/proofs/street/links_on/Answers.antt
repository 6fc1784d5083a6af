use Rattle.std.proofs.Common.{◌<◌, ℕ, length, arith, length-set}
use Rattle.free_band.specs.declared.way.WayLink.{WayLink}
use Rattle.free_runs.specs.Street.{IsLeg}
use Rattle.free_runs.proofs.Lists.{set_more}
use Rattle.free_runs.proofs.street.links_on.Goals as goal

pub loop-place-preserved : goal.loop-place-preserved
loop-place-preserved c =
    let n = c.loop-place.invariant.room in
    let few = c.count-place-end.ensures.many in
    let inside : c.loop-place.place < length c.loop-place.links = omega (arith, n, few) in
    record {
      room = simp length-set n;
      legs = set_more (λ (j : ℕ) (l : WayLink). IsLeg c.args.artery.now c.args.base.now c.args.dir j l) c.loop-place.links (record { least = 0; most = 0; clear = 0 }) c.loop-place.place
          c.link_on.result
          inside c.loop-place.invariant.legs c.link_on.ensures;
    }
