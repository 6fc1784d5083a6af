use Rattle.std.proofs.Common.{◌≡◌, pos, length, ◌+◌, ◌-◌, ◌<◌, ◌≤◌, ◌^◌, unsigned_abs, sym, ◌∙◌, ap, subst, arith}
use Rattle.std.proofs.lemmas.Int.{to_z-of_z}
use Rattle.rational_theory.specs.Rational.{ℚ, whole, over}
use Rattle.fraction_tableau.specs.KeptCells.{number_in, kept_below}
use Rattle.fraction_tableau.specs.Scales.{numerator}
use Rattle.fraction_tableau.proofs.KeptCells.{other_side, next_in, step_count, reached_at, reached_here, reached_past, reached_end, none_more}
use Rattle.narrow_fraction.proofs.Fitting.{fits_i64}
use Rattle.fraction_tableau.proofs.Scales.{numerator_zero}
use Rattle.fraction_tableau.proofs.merging.take_numerator.Goals as goal
use Rattle.fraction_tableau.proofs.merging.take_numerator.Goals.{After-kept-kept, After-index-kept-taken}

-- the row's cell at the place, where the next one stands there
here : (c : After-index-kept-taken) → c.index-kept-taken.result.place ≡ c.args.place → c.index-kept-taken.result.cell ≡ number_in c.args.row.now c.args.place
here c e = reached_here (number_in c.args.row.now) c.args.place c.args.taken (length c.args.row.now - 1) c.kept-kept.result.now c.index-kept-taken.result
    (reached_at _ _ _ c.requires.taken) (omega arith) c.kept-kept.ensures c.index-kept-taken.is (omega arith) e

pub numerator_of-requires-clause-same : goal.numerator_of-requires-clause-same
numerator_of-requires-clause-same c =
    subst (λ (x : ℚ). over (numerator c.args.denominator x) c.args.denominator ≡ x) (sym (here (goal.at.numerator_of-requires-clause-same c).After-index-kept-taken (omega arith))) c.requires.same

pub numerator_of-requires-clause-size : goal.numerator_of-requires-clause-size
numerator_of-requires-clause-size c =
    subst (λ (x : ℚ). unsigned_abs (numerator c.args.denominator x) < 2 ^ 62) (sym (here (goal.at.numerator_of-requires-clause-size c).After-index-kept-taken (omega arith))) c.requires.size

pub returns-then-next-place-clause-numerator : goal.returns-then-next-place-clause-numerator
returns-then-next-place-clause-numerator c =
    let e = here (goal.at.returns-then-next-place-clause-numerator c).After-index-kept-taken (omega arith) in
    let small : unsigned_abs (numerator c.args.denominator c.index-kept-taken.result.cell) < 2 ^ 62 =
    subst (λ (x : ℚ). unsigned_abs (numerator c.args.denominator x) < 2 ^ 62) (sym e) c.requires.size in
    let f = fits_i64 (numerator c.args.denominator c.index-kept-taken.result.cell) (omega (arith, small)) in
    simp (c.numerator_of.ensures, f, to_z-of_z) (ap (numerator c.args.denominator) e)

pub returns-then-next-place-clause-taken : goal.returns-then-next-place-clause-taken
returns-then-next-place-clause-taken c =
    let k = c.index-kept-taken.result in
    let x = next_in (number_in c.args.row.now) c.args.place (length c.args.row.now - 1) c.args.taken c.kept-kept.result.now k c.kept-kept.ensures
    c.index-kept-taken.is (omega arith) c.requires.taken (omega arith) in
    let e : k.place ≡ c.args.place = omega arith in
    ap (λ n. n + 1) c.requires.taken ∙ sym (step_count (number_in c.args.row.now) c.args.place (length c.args.row.now - 1) k x) ∙ ap (λ n. length (kept_below (number_in c.args.row.now) (n + 1))) e

-- 0 stands at the place where the next cell is past it
past : (c : After-index-kept-taken) → c.args.taken < length c.kept-kept.result.now → (c.index-kept-taken.result.place ≡ c.args.place → ⊥) → whole (pos 0) ≡ number_in c.args.row.now c.args.place
past c l n =
    let f = number_in c.args.row.now in
    let x = next_in f c.args.place (length c.args.row.now - 1) c.args.taken c.kept-kept.result.now c.index-kept-taken.result c.kept-kept.ensures
    c.index-kept-taken.is (omega arith) c.requires.taken l in
    reached_past f c.args.place c.args.taken (length c.args.row.now - 1) c.kept-kept.result.now c.index-kept-taken.result (reached_at _ _ _ c.requires.taken)
    (omega arith) c.kept-kept.ensures c.index-kept-taken.is l (other_side _ _ x.after n)

pub returns-else-next-place-clause-numerator : goal.returns-else-next-place-clause-numerator
returns-else-next-place-clause-numerator c =
    sym (numerator_zero c.args.denominator _ (sym (past (goal.at.returns-else-next-place-clause-numerator c).After-index-kept-taken (omega arith) c.if-next-place.false)))

pub returns-else-next-place-clause-taken : goal.returns-else-next-place-clause-taken
returns-else-next-place-clause-taken c =
    none_more (number_in c.args.row.now) c.args.place c.args.taken c.requires.taken (past (goal.at.returns-else-next-place-clause-taken c).After-index-kept-taken (omega arith) c.if-next-place.false)

-- and where no cell is left
none_left : (c : After-kept-kept) → length c.kept-kept.result.now ≤ c.args.taken → whole (pos 0) ≡ number_in c.args.row.now c.args.place
none_left c l = reached_end (number_in c.args.row.now) c.args.place c.args.taken (length c.args.row.now - 1) c.kept-kept.result.now (reached_at _ _ _ c.requires.taken)
    (omega arith) c.kept-kept.ensures l

pub returns-else-taken-kept-clause-numerator : goal.returns-else-taken-kept-clause-numerator
returns-else-taken-kept-clause-numerator c =
    sym (numerator_zero c.args.denominator _ (sym (none_left (goal.at.returns-else-taken-kept-clause-numerator c).After-kept-kept (omega arith))))

pub returns-else-taken-kept-clause-taken : goal.returns-else-taken-kept-clause-taken
returns-else-taken-kept-clause-taken c =
    none_more (number_in c.args.row.now) c.args.place c.args.taken c.requires.taken (none_left (goal.at.returns-else-taken-kept-clause-taken c).After-kept-kept (omega arith))
