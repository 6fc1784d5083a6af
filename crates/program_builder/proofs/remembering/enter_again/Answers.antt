use Rattle.std.proofs.Common.{◌≡◌, ◌∙◌, ap, subst, arith}
use Rattle.simplex_theory.specs.Tableau.{height}
use Rattle.fraction_tableau.specs.NamedTableaus.{NamedTableau}
use Rattle.program_builder.specs.Remembering.{HasBounds}
use Rattle.program_builder.proofs.RememberedPivots.{entry_height, entered_again}
use Rattle.program_builder.proofs.remembering.enter_again.Goals as goal

pub write_bounds-requires : goal.write_bounds-requires
write_bounds-requires c =
    let a = c.pivot_all.auto.bounds in
    let b = c.read_bounds.auto.bounds in
    let e : height c.swap.new.x.table ≡ height c.args.tableau.now.table = ap (λ (t : NamedTableau). height t.table) c.swap.ensures.x_after
    ∙ entry_height c.args.basis.now c.args.tableau.now c.args.kept.now c.requires.entered in
    let f = c.requires.bounds in
    omega arith

pub returns-clause-entered : goal.returns-clause-entered
returns-clause-entered c =
    λ _. entered_again c.args.basis.now c.args.tableau.now c.args.kept.now c.write_bounds.new.tableau c.pivot_all.new.bounds c.requires.ready c.requires.entered
    (c.pivot_all.ensures.bounds c.if-not-pivot_all.false)
    (subst (λ (t : NamedTableau). HasBounds c.pivot_all.new.bounds t c.write_bounds.new.tableau) c.swap.ensures.x_after c.write_bounds.ensures)
