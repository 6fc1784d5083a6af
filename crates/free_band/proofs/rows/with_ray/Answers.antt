use Rattle.std.proofs.Common.{◌+◌, sym, subst, arith, Option}
use Rattle.free_band.specs.Way.{way}
use Rattle.free_band.specs.Cells.{CellOf, PickOf}
use Rattle.free_band.specs.declared.way.FreeBand.{FreeBand}
use Rattle.free_band.specs.declared.rows.Pick.{Pick}
use Rattle.free_band.proofs.Picks.{pick_none, pick_held, pick_either}
use Rattle.free_band.proofs.rows.with_ray.Goals as goal

pub returns-in-None : goal.returns-in-None
returns-in-None c =
    let w = way c.args.cycle c.args.signals.now c.args.links.now in
    pick_none w c.args.row.now c.args.place c.args.to c.args.from c.args.best
    (subst (λ (f : Option FreeBand). CellOf w c.args.place c.args.from f) c.in-None.is (c.requires.row c.args.from c.requires.from))
    c.requires.best

pub returns-then-is_wider : goal.returns-then-is_wider
returns-then-is_wider c =
    let w = way c.args.cycle c.args.signals.now c.args.links.now in
    let picked = rw (c.link_at-link.ensures.most, c.link_at-link.ensures.least) at c.pick_by.ensures in
    subst (λ (p : Option Pick). PickOf w c.args.row.now c.args.place c.args.to (c.args.from + 1) p) (sym c.or.ensures)
    (pick_either w c.args.row.now c.args.place c.args.to c.args.from c.args.best c.pick_by.result c.in-Some.cell c.args.left
    (subst (λ (f : Option FreeBand). CellOf w c.args.place c.args.from f) c.in-Some.is (c.requires.row c.args.from c.requires.from))
    c.in-Some.is (c.is_wider.ensures.yes c.if-is_wider.true) c.requires.left (c.requires.way.proper.ordered c.args.place (omega (arith, c.requires.links, c.requires.on_way)))
    picked c.requires.best)

pub returns-else-is_wider : goal.returns-else-is_wider
returns-else-is_wider c =
    let w = way c.args.cycle c.args.signals.now c.args.links.now in
    pick_held w c.args.row.now c.args.place c.args.to c.args.from c.args.best c.in-Some.cell
    (subst (λ (f : Option FreeBand). CellOf w c.args.place c.args.from f) c.in-Some.is (c.requires.row c.args.from c.requires.from))
    (c.is_wider.ensures.no c.if-is_wider.false) c.requires.best
