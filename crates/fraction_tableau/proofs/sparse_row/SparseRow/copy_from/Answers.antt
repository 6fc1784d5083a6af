use Rattle.std.proofs.Common.{◌≡◌, length, take, ◌+◌, ◌≤◌, refl, sym, ◌∙◌, ap, subst, arith}
use Rattle.fraction_tableau.specs.Scales.{HasScale}
use Rattle.fraction_tableau.specs.Marks.{AreMarked}
use Rattle.std.proofs.lemmas.List.{with_items_is}
use Rattle.fraction_tableau.specs.KeptCells.{number_in, kept_below}
use Rattle.fraction_tableau.proofs.KeptCells.{open_row, sparse_new}
use Rattle.fraction_tableau.proofs.sparse_row.SparseRow.copy_from.Goals as goal

pub overflow_cast-width : goal.overflow_cast-width
overflow_cast-width c =
    let r = open_row _ _ _ _ _ c.self.invariant.0 c.self.view_is in
    let wide = r.wide in
    omega (arith, c.requires.short, c.len-width.ensures, c.self.inside.cells.ok.0)

pub keep_before-requires-clause-width : goal.keep_before-requires-clause-width
keep_before-requires-clause-width c =
    let r = open_row _ _ _ _ _ c.self.invariant.0 c.self.view_is in
    let wide = r.wide in
    omega (arith, c.requires.width, ap length c.deref_mut.ensures.value)

pub invariant_of-self : goal.invariant_of-self
invariant_of-self c =
    let i = c.self.inside in
    let r = open_row _ _ _ _ _ c.self.invariant.0 c.self.view_is in
    let wide = r.wide in
    let same = with_items_is i.cells c.keep_before.new.cells (c.keep_before.auto.cells ∙ ap length c.deref_mut.ensures.value ∙ sym i.cells.ok.0) in
    let len = c.keep_before.auto.cells ∙ ap length c.deref_mut.ensures.value in
    let e : length c.args.row.now ≡ length i.cells.items + 1 = omega (arith, c.requires.width) in
    let p : c.len-width.result ≡ length i.cells.items = omega (arith, c.len-width.ensures, i.cells.ok.0) in
    let k = c.keep_before.ensures.cells (number_in c.args.row.now) (λ m a b. refl) refl ∙ ap (kept_below (number_in c.args.row.now)) p in
    let high : c.keep_before.result.made ≤ length i.cells.items = omega (arith, c.keep_before.ensures.made) in
    let o = open_row _ _ _ _ _ c.row.invariant.0 c.row.view_is in
    let n : length c.row.inside.cells.items ≡ length i.cells.items = (let a = o.wide in omega (arith, e)) in
    let b = c.copied-self-inside.ensures ∙ o.bound ∙ ap (number_in c.args.row.now) n in
    let m = (sparse_new c.args.row.now _ c.keep_before.new.cells (length i.cells.items) c.keep_before.result.made (number_in c.args.row.now) _ same len e high k (λ m h. refl) b) in
    let cells = ap (λ t. take c.keep_before.result.made t) same ∙ k ∙ ap (kept_below (number_in c.args.row.now)) (sym n) ∙ sym o.kept in
    (m.0, (subst (HasScale c.row.inside.scale) (c.row.view_is ∙ sym m.1) c.row.invariant.1.0, subst (AreMarked c.row.inside.marks) (sym cells) c.row.invariant.1.1))

pub returns : goal.returns
returns c =
    let i = c.self.inside in
    let r = open_row _ _ _ _ _ c.self.invariant.0 c.self.view_is in
    let wide = r.wide in
    let same = with_items_is i.cells c.keep_before.new.cells (c.keep_before.auto.cells ∙ ap length c.deref_mut.ensures.value ∙ sym i.cells.ok.0) in
    let len = c.keep_before.auto.cells ∙ ap length c.deref_mut.ensures.value in
    let e : length c.args.row.now ≡ length i.cells.items + 1 = omega (arith, c.requires.width) in
    let p : c.len-width.result ≡ length i.cells.items = omega (arith, c.len-width.ensures, i.cells.ok.0) in
    let k = c.keep_before.ensures.cells (number_in c.args.row.now) (λ m a b. refl) refl ∙ ap (kept_below (number_in c.args.row.now)) p in
    let high : c.keep_before.result.made ≤ length i.cells.items = omega (arith, c.keep_before.ensures.made) in
    let o = open_row _ _ _ _ _ c.row.invariant.0 c.row.view_is in
    let n : length c.row.inside.cells.items ≡ length i.cells.items = (let a = o.wide in omega (arith, e)) in
    let b = c.copied-self-inside.ensures ∙ o.bound ∙ ap (number_in c.args.row.now) n in
    (sparse_new c.args.row.now _ c.keep_before.new.cells (length i.cells.items) c.keep_before.result.made (number_in c.args.row.now) _ same len e high k (λ m h. refl) b).1
