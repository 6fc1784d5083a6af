use Rattle.std.proofs.Common.{◌≡◌, length, ◌+◌, ◌<◌, refl, sym, ◌∙◌, ap, subst, arith}
use Rattle.linear_theory.specs.Names.{HasRow, form_of, name_of}
use Rattle.named_row.specs.declared.names.RowId.{RowId}
use Rattle.simplex_theory.specs.Tableau.{height, width}
use Rattle.fraction_tableau.specs.NamedTableaus.{NamedTableau}
use Rattle.program_builder.specs.BoxRows.{rows_of}
use Rattle.program_builder.specs.Opening.{artery_table}
use Rattle.program_builder.proofs.LoadedTables.{height-loaded, width-loaded}
use Rattle.program_builder.proofs.BoxBounds.{IsBounding, none_bounded, name_there, row_kept, row_set, all_bounded}
use Rattle.program_builder.proofs.loaded.load_from.Goals as goal
use Rattle.program_builder.proofs.loaded.load_from.Goals.{in-Some, in_default}

pub copy_from-requires-clause-rows : goal.copy_from-requires-clause-rows
copy_from-requires-clause-rows c =
    c.requires.made.rows ∙ sym (ap (λ (t : NamedTableau). height t.table) c.requires.loaded.is ∙ height-loaded (artery_table c.args.artery.now) c.requires.loaded.box)

pub copy_from-requires-clause-columns : goal.copy_from-requires-clause-columns
copy_from-requires-clause-columns c =
    c.requires.made.columns ∙ sym (ap (λ (t : NamedTableau). width t.table) c.requires.loaded.is ∙ width-loaded (artery_table c.args.artery.now) c.requires.loaded.box)

pub loop-row-init : goal.loop-row-init
loop-row-init c = none_bounded c.args.artery.now c.args.area.now c.copy_from.new.self (record { box = c.requires.loaded.box; is = c.copy_from.ensures ∙ c.requires.loaded.is })

pub box_bound-requires-clause-there : goal.box_bound-requires-clause-there
box_bound-requires-clause-there c =
    let a = c.args.artery.now in
    let n : c.rows-row-end.result ≡ length (rows_of a) =
    c.rows-row-end.ensures.count ∙ ap (λ (t : NamedTableau). height t.table) (c.copy_from.ensures ∙ c.requires.loaded.is) ∙ height-loaded (artery_table a) c.requires.loaded.box in
    let h : c.loop-row.row < height c.loop-row.tableau.table = omega (arith, n, c.loop-row.invariant.rows, c.loop-row-test.true) in
    subst (λ (r : RowId). HasRow a (name_of r.family r.index)) (sym c.name.ensures) (name_there a c.args.area.now c.loop-row.tableau c.loop-row.row c.loop-row.invariant h)

pub loop-row-preserved : goal.loop-row-preserved
loop-row-preserved c =
    let a = c.args.artery.now in
    let box = c.args.area.now in
    let n : c.rows-row-end.result ≡ length (rows_of a) =
    c.rows-row-end.ensures.count ∙ ap (λ (t : NamedTableau). height t.table) (c.copy_from.ensures ∙ c.requires.loaded.is) ∙ height-loaded (artery_table a) c.requires.loaded.box in
    let h : c.loop-row.row < height c.loop-row.tableau.table = omega (arith, n, c.loop-row.invariant.rows, c.loop-row-test.true) in
    elim c.match-box_bound.branch [
      | in-Some w ↦
          row_set a box c.loop-row.tableau c.match-box_bound.tableau c.loop-row.row w.in-Some.bound c.loop-row.invariant h
          (w.in-Some.ensures.bound ∙ ap (λ (r : RowId). (form_of a box (name_of r.family r.index)).bound) c.name.ensures) (w.tableau-is ∙ w.set_bound.ensures)
      | in_default w ↦
          subst (λ (t : NamedTableau). IsBounding a box t (c.loop-row.row + 1)) (sym w.tableau-is)
          (row_kept a box c.loop-row.tableau c.loop-row.row c.loop-row.invariant
          (λ other. subst (λ (r : RowId). form_of a other (name_of r.family r.index) ≡ form_of a box (name_of r.family r.index)) c.name.ensures (w.in_default.ensures.same refl other)))
    ]

pub returns : goal.returns
returns c =
    let a = c.args.artery.now in
    let n : c.rows-row-end.result ≡ length (rows_of a) =
    c.rows-row-end.ensures.count ∙ ap (λ (t : NamedTableau). height t.table) (c.copy_from.ensures ∙ c.requires.loaded.is) ∙ height-loaded (artery_table a) c.requires.loaded.box in
    all_bounded a c.args.area.now c.loop-row.tableau c.loop-row.row c.loop-row.invariant (omega (arith, n, c.loop-row.invariant.rows, c.loop-row-test.false))
