use Rattle.std.proofs.Common.{refl, sym, subst, ◌∷◌, [], arith}
use Rattle.branch_and_bound.specs.Lines.{top_line}
use Rattle.branch_and_bound.specs.OpenedNodes.{Opens}
use Rattle.branch_and_bound.specs.State.{IsSearchState}
use Rattle.work_meter.specs.declared.meter.Meter.{Meter}
use Rattle.branch_and_bound.proofs.Rooting.{root_holds, root_stuck, root_left}
use Rattle.std.proofs.lemmas.Grind.{common_steps}
use Rattle.branch_and_bound.proofs.best_first.search.Goals as goal

pub run-requires-clause-holds : goal.run-requires-clause-holds
run-requires-clause-holds g c =
    let r = g.P.Relaxation.rules c.args.relaxation.now in
    let before : Meter = record { spent = 0; limit = c.args.limit } in
    let new = c.settle.new.progress in
    let top = r.bound (top_line r.root) in
    let opens = subst (λ a. Opens r (top_line a) before c.open_root.new.meter c.in_ok-opened.opened) c.in_ok-area.ensures c.in_ok-opened.ensures.opens in
    let s = c.in-Done.ensures.settles (top_line r.root) before c.in_ok-area.ensures opens in
    let h = root_holds r new.incumbent before c.open_root.new.meter c.in-Done.node c.requires.sound refl s.0 s.1 in
    let now = subst (λ (m : Meter). IsSearchState r (c.in-Done.node ∷ []) new.incumbent top m.spent) (sym c.settle.ensures.meter) h in
    (top, subst (λ ns. IsSearchState r ns new.incumbent top new.meter.spent) (sym c.in_ok-nodes-in-Done.ensures) now)

pub returns-in_ok-tree-in-Stuck : goal.returns-in_ok-tree-in-Stuck
returns-in_ok-tree-in-Stuck g c =
    let r = g.P.Relaxation.rules c.args.relaxation.now in
    let before : Meter = record { spent = 0; limit = c.args.limit } in
    let opens = subst (λ a. Opens r (top_line a) before c.open_root.new.meter c.in_ok-opened.opened) c.in_ok-area.ensures c.in_ok-opened.ensures.opens in
    let s = c.in-Stuck.ensures.settles (top_line r.root) before c.in_ok-area.ensures opens in
    let h = root_stuck r c.args.limit c.settle.new.progress.incumbent before c.open_root.new.meter c.in-Stuck.leaf c.in-Stuck.bound c.in-Stuck.site
    c.requires.sound refl c.in_ok-opened.ensures.limit s.0 s.1 in
    record {
      best = c.settle.new.progress.incumbent;
      timing = c.halt.ensures.timing;
      answer = rw (c.halt.ensures.nodes, c.halt.ensures.bound, c.halt.ensures.spent, c.halt.ensures.verdict, c.settle.ensures.meter, c.in_ok-tree-in-Stuck.ensures) h;
    }

pub returns-in_ok-tree-in-Left : goal.returns-in_ok-tree-in-Left
returns-in_ok-tree-in-Left g c =
    let r = g.P.Relaxation.rules c.args.relaxation.now in
    let before : Meter = record { spent = 0; limit = c.args.limit } in
    let opens = subst (λ a. Opens r (top_line a) before c.open_root.new.meter c.in_ok-opened.opened) c.in_ok-area.ensures c.in_ok-opened.ensures.opens in
    let s = c.in-Left.ensures.settles (top_line r.root) before c.in_ok-area.ensures opens in
    let start = c.in_ok-leaf-in-Left.ensures in
    let h = root_left r c.args.limit c.settle.new.progress.incumbent before c.open_root.new.meter c.in_ok-leaf-in-Left.leaf c.in_ok-leaf-in-Left.bound
    c.in-Left.stop refl c.in_ok-opened.ensures.limit s.0 start.leaf start.bound start.covers s.1 in
    record {
      best = c.settle.new.progress.incumbent;
      timing = c.halt-in-Left.ensures.timing;
      answer = rw (c.halt-in-Left.ensures.nodes, c.halt-in-Left.ensures.bound, c.halt-in-Left.ensures.spent, c.halt-in-Left.ensures.verdict, c.settle.ensures.meter, c.in_ok-tree-in-Left.ensures) h;
    }

pub run-requires-clause-within : goal.run-requires-clause-within
run-requires-clause-within g c = grind (arith, common_steps)
