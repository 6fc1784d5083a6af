use Rattle.free_band.specs.Way.{way, least_of, clear_of}
use Rattle.free_band.specs.Rays.{ray}
use Rattle.free_band.specs.Cells.{PickOf}
use Rattle.free_band.proofs.Same.{same_stepped}
use Rattle.std.proofs.Common.{◌≡◌, ℕ, length, subst, arith, get_or}
use Rattle.free_band.proofs.rows.pick_for.Goals as goal

pub with_ray-best-requires-clause-left : goal.with_ray-best-requires-clause-left
with_ray-best-requires-clause-left c =
    let w = way c.args.cycle c.args.signals.now c.args.links.now in
    let i = c.args.place in
    let link = c.link_at-link.result in
    same_stepped c.args.cycle c.later-left.result (get_or c.args.at.now c.loop-from.from 0) c.advance-slow.result link.least link.clear (least_of c.args.links.now i)
    (clear_of c.args.links.now i) (ray w c.loop-from.from i)
    c.later-left.ensures.is (c.requires.at c.loop-from.from c.loop-from-test.true).1 c.advance-slow.ensures.is c.link_at-link.ensures.least c.link_at-link.ensures.clear

pub returns : goal.returns
returns c =
    let all : c.loop-from.from ≡ length c.args.signals.now = omega (arith, c.loop-from.auto.from-end, c.loop-from-test.false) in
    subst (λ (n : ℕ). PickOf (way c.args.cycle c.args.signals.now c.args.links.now) c.args.row.now c.args.place c.args.to n c.loop-from.best) all c.loop-from.invariant
