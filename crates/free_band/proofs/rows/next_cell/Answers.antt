use Rattle.std.proofs.Common.{◌+◌, pos, ℕ, suc, rules, arith, sym, subst, Option, FitsSigned, add-one}
use Rattle.std.specs.Int.{w128}
use Rattle.std.proofs.lemmas.Int.{to_z-of_z}
use Rattle.free_band.specs.Way.{way}
use Rattle.free_band.specs.Rays.{Same, ray}
use Rattle.free_band.specs.Cells.{NoCell, CellOf, IsCell}
use Rattle.free_band.specs.declared.way.FreeBand.{FreeBand}
use Rattle.free_band.proofs.Fronts.{no_width_cell, no_pick_cell, next_is}
use Rattle.free_band.proofs.rows.next_cell.Goals as goal

pub returns-in-None : goal.returns-in-None
returns-in-None c =
    let fits : FitsSigned w128 c.signal_at-signal.result.start = search rules in
    let e = simp to_z-of_z at c.in-None.ensures in
    let f = rw (c.signal_at-signal.ensures.start, c.signal_at-signal.ensures.red) at e in
    no_width_cell (way c.args.cycle c.args.signals.now c.args.links.now) c.requires.way.proper (c.args.place + 1) c.args.index c.args.to (omega (arith, c.requires.links, c.requires.on_way))
    c.requires.to f

pub returns-in-None-pick_for : goal.returns-in-None-pick_for
returns-in-None-pick_for c =
    let w = way c.args.cycle c.args.signals.now c.args.links.now in
    let to = subst (λ (n : ℕ). Same c.args.cycle (pos c.args.to) (ray w c.args.index n)) (add-one c.args.place) c.requires.to in
    subst (λ (n : ℕ). NoCell w n c.args.index) (sym (add-one c.args.place))
    (no_pick_cell w c.requires.way.proper c.requires.way.few c.args.place c.args.index c.args.to (omega (arith, c.requires.links, c.requires.on_way)) to c.in-None-pick_for.ensures)

pub returns-in-Some-row : goal.returns-in-Some-row
returns-in-Some-row c =
    let w = way c.args.cycle c.args.signals.now c.args.links.now in
    let i = c.args.place in
    let to = subst (λ (n : ℕ). Same c.args.cycle (pos c.args.to) (ray w c.args.index n)) (add-one i) c.requires.to in
    let fits : FitsSigned w128 c.signal_at-signal.result.start = search rules in
    let e = simp to_z-of_z at c.in-Some.ensures in
    let f = rw (c.signal_at-signal.ensures.start, c.signal_at-signal.ensures.red, add-one) at e in
    let pick = c.in-Some-pick_for.ensures in
    let cell = subst (λ (g : Option FreeBand). CellOf w i c.in-Some-pick_for.pick.from g) c.in-Some-row.is (c.requires.row c.in-Some-pick_for.pick.from pick.on) in
    let made = rw (c.link_at-link.ensures.least) at c.extended.ensures in
    subst (λ (n : ℕ). IsCell w n c.args.index c.extended.result) (sym (add-one i))
    (subst (λ (g : FreeBand). IsCell w (suc i) c.args.index g) (sym made)
    (next_is w c.requires.way.proper c.requires.way.few i c.args.index c.args.to (omega (arith, c.requires.links, c.requires.on_way)) to c.args.row.now c.in-Some-pick_for.pick
    c.in-Some-row.cell pick c.in-Some-row.is cell
    c.in-Some.wide c.lesser-band.result f c.lesser-band.ensures.one c.lesser-band.ensures.other c.lesser-band.ensures.most))
