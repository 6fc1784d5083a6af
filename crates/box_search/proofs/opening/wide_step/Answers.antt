use Rattle.std.proofs.Common.{◌≡◌, inl, refl, subst}
use Rattle.dual_simplex.specs.declared.outcome.Step.TheVariants as steps
use Rattle.box_search.specs.Sites.{step_at, IsWide}
use Rattle.box_search.proofs.Runs.{wide_ratio, wide_pivot}
use Rattle.box_search.proofs.opening.wide_step.Goals as goal

pub returns-then-ratio : goal.returns-then-ratio
returns-then-ratio g c = λ line k left r e.
    let p = g.P.Sought.program c.args.program.now in (
      inl left,
      subst (IsWide p line k) (c.known_program.ensures.ends.ratios_named c.args.cell) (wide_ratio p line k c.args.cell r (subst (λ b. step_at p line k ≡ steps.Wide b c.args.cell) c.if-ratio.true e)),
      refl,
    )

pub returns-else-ratio : goal.returns-else-ratio
returns-else-ratio g c = λ line k left r e.
    let p = g.P.Sought.program c.args.program.now in (
      inl left,
      subst (IsWide p line k) (c.known_program.ensures.ends.pivots_named c.args.cell) (wide_pivot p line k c.args.cell r (subst (λ b. step_at p line k ≡ steps.Wide b c.args.cell) c.if-ratio.false e)),
      refl,
    )
