use Rattle.std.proofs.Common.{◌<◌, length, sym, ◌∙◌, ap, ap₂, subst}
use Rattle.std.proofs.lemmas.List.{with_items_is}
use Rattle.rational_theory.specs.Rational.{◌+ℚ◌, ◌*ℚ◌}
use Rattle.rational_theory.specs.Rows.{add, scale}
use Rattle.narrow_fraction.specs.Attempt.{attempt, first_below}
use Rattle.narrow_fraction.proofs.Attempt.{attempt_err, attempt_ok}
use Rattle.named_row.specs.Sheets.{Sheet, coefs_left}
use Rattle.named_row.specs.declared.names.Place.TheVariants.{Bound}
use Rattle.named_row.specs.Refusals.{place_refusal, cell_refusal}
use Rattle.named_row.proofs.Operations.{refused_there}
use Rattle.named_row.proofs.Whole.{cells_stop, bound_stops, sum_passes, with_times_is, left_is, left_at_bound}
use Rattle.named_row.proofs.row.Row.add_scaled.Goals as goal

pub returns-in-Err-clause-outcome : goal.returns-in-Err-clause-outcome
returns-in-Err-clause-outcome c =
    let a = c.deref_mut.ensures.value ∙ ap (λ (t : Sheet). t.coefs) c.self.view_is in
    let b = c.deref.ensures.value ∙ ap (λ (t : Sheet). t.coefs) c.other.view_is in
    let e = ap₂ (λ x y. first_below (cell_refusal c.args.by x y) (length x)) (sym a) (sym b) ∙ attempt_err _ _ _ c.in-Err.ensures.outcome in
    sym (ap (λ o. attempt o tt) (cells_stop c.args.by c.args.other.now c.args.self.now c.in-Err.wide e))

pub returns-in-Ok-clause-outcome : goal.returns-in-Ok-clause-outcome
returns-in-Ok-clause-outcome c =
    let a = c.deref_mut.ensures.value ∙ ap (λ (t : Sheet). t.coefs) c.self.view_is in
    let b = c.deref.ensures.value ∙ ap (λ (t : Sheet). t.coefs) c.other.view_is in
    let p = ap (λ (t : Sheet). t.bound) c.self.view_is in
    let q = ap (λ (t : Sheet). t.bound) c.other.view_is in
    let e = ap₂ (λ x y. first_below (cell_refusal c.args.by x y) (length x)) (sym a) (sym b) ∙ (attempt_ok _ _ _ c.in_default.ensures.outcome).0 in
    let f = ap₂ (λ x y. place_refusal Bound c.args.by x y) (sym p) (sym q) ∙ (attempt_ok _ _ _ c.in-Ok.ensures).0 in
    sym (ap (λ o. attempt o tt) (sum_passes c.args.by c.args.other.now c.args.self.now e f))

pub returns-in-Ok-clause-sum : goal.returns-in-Ok-clause-sum
returns-in-Ok-clause-sum c =
    let a = c.deref_mut.ensures.value ∙ ap (λ (t : Sheet). t.coefs) c.self.view_is in
    let b = c.deref.ensures.value ∙ ap (λ (t : Sheet). t.coefs) c.other.view_is in
    let p = ap (λ (t : Sheet). t.bound) c.self.view_is in
    let q = ap (λ (t : Sheet). t.bound) c.other.view_is in
    let w = with_items_is c.self.inside.coefs c.add_cells.new.coefs (c.in_default.ensures.width ∙ ap length c.deref_mut.ensures.value ∙ sym c.self.inside.coefs.ok.0) in
    let e = w ∙ c.in_default.ensures.sum ∙ ap₂ (λ x y. add x (scale c.args.by y)) a b in
    let f = (attempt_ok _ _ _ c.in-Ok.ensures).1 ∙ ap₂ (λ x y. x +ℚ c.args.by *ℚ y) p q in
    with_times_is c.args.by c.args.other.now c.args.self.now _ _ _ e f (ap (λ (t : Sheet). t.spent) c.self.view_is)

pub returns-in-Err-add_number-clause-outcome : goal.returns-in-Err-add_number-clause-outcome
returns-in-Err-add_number-clause-outcome c =
    let a = c.deref_mut.ensures.value ∙ ap (λ (t : Sheet). t.coefs) c.self.view_is in
    let b = c.deref.ensures.value ∙ ap (λ (t : Sheet). t.coefs) c.other.view_is in
    let p = ap (λ (t : Sheet). t.bound) c.self.view_is in
    let q = ap (λ (t : Sheet). t.bound) c.other.view_is in
    let e = ap₂ (λ x y. first_below (cell_refusal c.args.by x y) (length x)) (sym a) (sym b) ∙ (attempt_ok _ _ _ c.in_default.ensures.outcome).0 in
    let f = ap₂ (λ x y. place_refusal Bound c.args.by x y) (sym p) (sym q) ∙ attempt_err _ _ _ c.in-Err-add_number.ensures in
    sym (ap (λ o. attempt o tt) (bound_stops c.args.by c.args.other.now c.args.self.now c.in-Err-add_number.wide e f))

pub returns-in-Err-clause-left : goal.returns-in-Err-clause-left
returns-in-Err-clause-left c =
    let a = c.deref_mut.ensures.value ∙ ap (λ (t : Sheet). t.coefs) c.self.view_is in
    let b = c.deref.ensures.value ∙ ap (λ (t : Sheet). t.coefs) c.other.view_is in
    let p = ap (λ (t : Sheet). t.bound) c.self.view_is in
    let w = with_items_is c.self.inside.coefs c.add_cells.new.coefs (c.in-Err.ensures.width ∙ ap length c.deref_mut.ensures.value ∙ sym c.self.inside.coefs.ok.0) in
    left_is _ c.args.by c.args.other.now c.args.self.now _ _ (w ∙ c.in-Err.ensures.left ∙ ap₂ (λ x y. coefs_left c.in-Err.wide.place c.args.by x y) a b) p

pub returns-in-Err-add_number-clause-left : goal.returns-in-Err-add_number-clause-left
returns-in-Err-add_number-clause-left c =
    let a = c.deref_mut.ensures.value ∙ ap (λ (t : Sheet). t.coefs) c.self.view_is in
    let b = c.deref.ensures.value ∙ ap (λ (t : Sheet). t.coefs) c.other.view_is in
    let p = ap (λ (t : Sheet). t.bound) c.self.view_is in
    let w = with_items_is c.self.inside.coefs c.add_cells.new.coefs (c.in_default.ensures.width ∙ ap length c.deref_mut.ensures.value ∙ sym c.self.inside.coefs.ok.0) in
    let e = w ∙ c.in_default.ensures.sum ∙ ap₂ (λ x y. add x (scale c.args.by y)) a b in
    let q = refused_there _ _ _ _ _ (attempt_err _ _ _ c.in-Err-add_number.ensures) in
    left_is _ c.args.by c.args.other.now c.args.self.now _ _ (left_at_bound c.args.by c.args.self.now.coefs c.args.other.now.coefs _ _ q e) p

pub invariant_of-self : goal.invariant_of-self
invariant_of-self c =
    let w = with_items_is c.self.inside.coefs c.add_cells.new.coefs (c.in-Err.ensures.width ∙ ap length c.deref_mut.ensures.value ∙ sym c.self.inside.coefs.ok.0) in
    subst (λ n. n < 4294967296) (sym (ap length w ∙ c.in-Err.ensures.width ∙ ap length c.deref_mut.ensures.value)) c.self.invariant

pub invariant_of-self-in-Ok : goal.invariant_of-self-in-Ok
invariant_of-self-in-Ok c =
    let w = with_items_is c.self.inside.coefs c.add_cells.new.coefs (c.in_default.ensures.width ∙ ap length c.deref_mut.ensures.value ∙ sym c.self.inside.coefs.ok.0) in
    subst (λ n. n < 4294967296) (sym (ap length w ∙ c.in_default.ensures.width ∙ ap length c.deref_mut.ensures.value)) c.self.invariant

pub invariant_of-self-in-Err-add_number : goal.invariant_of-self-in-Err-add_number
invariant_of-self-in-Err-add_number c =
    let w = with_items_is c.self.inside.coefs c.add_cells.new.coefs (c.in_default.ensures.width ∙ ap length c.deref_mut.ensures.value ∙ sym c.self.inside.coefs.ok.0) in
    subst (λ n. n < 4294967296) (sym (ap length w ∙ c.in_default.ensures.width ∙ ap length c.deref_mut.ensures.value)) c.self.invariant

pub returns-in-Err-clause-width : goal.returns-in-Err-clause-width
returns-in-Err-clause-width c =
    let a = c.deref_mut.ensures.value ∙ ap (λ (t : Sheet). t.coefs) c.self.view_is in
    let w = with_items_is c.self.inside.coefs c.add_cells.new.coefs (c.in-Err.ensures.width ∙ ap length c.deref_mut.ensures.value ∙ sym c.self.inside.coefs.ok.0) in
    ap length w ∙ c.in-Err.ensures.width ∙ ap length a

pub returns-in-Ok-clause-width : goal.returns-in-Ok-clause-width
returns-in-Ok-clause-width c =
    let a = c.deref_mut.ensures.value ∙ ap (λ (t : Sheet). t.coefs) c.self.view_is in
    let w = with_items_is c.self.inside.coefs c.add_cells.new.coefs (c.in_default.ensures.width ∙ ap length c.deref_mut.ensures.value ∙ sym c.self.inside.coefs.ok.0) in
    ap length w ∙ c.in_default.ensures.width ∙ ap length a

pub returns-in-Err-add_number-clause-width : goal.returns-in-Err-add_number-clause-width
returns-in-Err-add_number-clause-width c =
    let a = c.deref_mut.ensures.value ∙ ap (λ (t : Sheet). t.coefs) c.self.view_is in
    let w = with_items_is c.self.inside.coefs c.add_cells.new.coefs (c.in_default.ensures.width ∙ ap length c.deref_mut.ensures.value ∙ sym c.self.inside.coefs.ok.0) in
    ap length w ∙ c.in_default.ensures.width ∙ ap length a

pub returns-in-Ok-clause-unspent : goal.returns-in-Ok-clause-unspent
returns-in-Ok-clause-unspent c = ap (λ (t : Sheet). t.spent) c.self.view_is ∙ c.requires.unspent

pub add_cells-requires-clause-same : goal.add_cells-requires-clause-same
add_cells-requires-clause-same c =
    let a = c.deref_mut.ensures.value ∙ ap (λ (t : Sheet). t.coefs) c.self.view_is in
    let b = c.deref.ensures.value ∙ ap (λ (t : Sheet). t.coefs) c.other.view_is in
    ap length b ∙ c.requires.width ∙ sym (ap length a)

pub add_cells-requires-clause-width : goal.add_cells-requires-clause-width
add_cells-requires-clause-width c = subst (λ n. n < 4294967296) (sym (ap length c.deref_mut.ensures.value)) c.self.invariant
