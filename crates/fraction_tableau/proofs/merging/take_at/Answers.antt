use Rattle.std.proofs.Common.{◌≡◌, length, ◌+◌, ◌-◌, sym, ◌∙◌, ap, arith}
use Rattle.fraction_tableau.specs.KeptCells.{number_in, kept_below}
use Rattle.fraction_tableau.proofs.KeptCells.{other_side, next_in, step_count, reached_at, reached_here, reached_past, reached_end, none_more}
use Rattle.fraction_tableau.proofs.merging.take_at.Goals as goal
use Rattle.fraction_tableau.proofs.merging.take_at.Goals.{then-taken-kept+else-next-place, else-taken-kept}

pub returns-then-next-place-clause-cell : goal.returns-then-next-place-clause-cell
returns-then-next-place-clause-cell c =
    c.copied.ensures
    ∙ reached_here (number_in c.args.row.now) c.args.place c.args.taken (length c.args.row.now - 1) c.kept-kept.result.now c.index-kept-taken.result
    (reached_at _ _ _ c.requires.taken) (omega arith) c.kept-kept.ensures c.index-kept-taken.is (omega arith) (omega arith)

pub returns-then-next-place-clause-taken : goal.returns-then-next-place-clause-taken
returns-then-next-place-clause-taken c =
    let k = c.index-kept-taken.result in
    let x = next_in (number_in c.args.row.now) c.args.place (length c.args.row.now - 1) c.args.taken c.kept-kept.result.now k c.kept-kept.ensures
    c.index-kept-taken.is (omega arith) c.requires.taken (omega arith) in
    let e : k.place ≡ c.args.place = omega arith in
    ap (λ n. n + 1) c.requires.taken ∙ sym (step_count (number_in c.args.row.now) c.args.place (length c.args.row.now - 1) k x) ∙ ap (λ n. length (kept_below (number_in c.args.row.now) (n + 1))) e

pub returns-clause-cell : goal.returns-clause-cell
returns-clause-cell c =
    let f = number_in c.args.row.now in
    let w = length c.args.row.now - 1 in
    let r = reached_at f c.args.place c.args.taken c.requires.taken in
    c.of_fraction.ensures ∙ c.whole.ensures
    ∙ elim c.if-taken-kept.branch [
      | then-taken-kept+else-next-place v ↦
          let x = next_in f c.args.place w c.args.taken c.kept-kept.result.now v.index-kept-taken.result c.kept-kept.ensures v.index-kept-taken.is
          (omega arith) c.requires.taken (omega (arith, v.if-taken-kept.true)) in
          reached_past f c.args.place c.args.taken w c.kept-kept.result.now v.index-kept-taken.result r (omega arith) c.kept-kept.ensures v.index-kept-taken.is
          (omega (arith, v.if-taken-kept.true)) (other_side _ _ x.after v.if-next-place.false)
      | else-taken-kept v ↦ reached_end f c.args.place c.args.taken w c.kept-kept.result.now r (omega arith) c.kept-kept.ensures (omega (arith, v.if-taken-kept.false))
    ]

pub returns-clause-taken : goal.returns-clause-taken
returns-clause-taken c = none_more (number_in c.args.row.now) c.args.place c.args.taken c.requires.taken (sym (c.of_fraction.ensures ∙ c.whole.ensures) ∙ returns-clause-cell c)
