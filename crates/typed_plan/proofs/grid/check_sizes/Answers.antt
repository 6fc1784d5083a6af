use Rattle.std.proofs.Common.{◌≡◌, ◌*◌, ◌<◌, ◌≤◌, ◌^◌, [], ◌∷◌, ◌++◌, sym, ◌∙◌, ap, ap₂, subst, arith}
use Rattle.std.specs.Prelude.{Some}
use Rattle.std.proofs.lemmas.Result.{err_from_is_err_and}
use Rattle.progression.specs.declared.parts.Dir.TheVariants.{Outbound, Inbound}
use Rattle.typed_plan.specs.Grid.{least_grid, least_unit, runs}
use Rattle.typed_plan.proofs.First.{skip, stop, skip_one, stop_one}
use Rattle.std.proofs.lemmas.Grind.{common_steps}
use Rattle.typed_plan.proofs.grid.check_sizes.Goals as goal

pub returns-in_err-check_runs-clause-first : goal.returns-in_err-check_runs-clause-first
returns-in_err-check_runs-clause-first c =
    let a = c.args.artery.now in let p = c.args.plan.now in
    let grid : least_grid a p < 2 ^ 80 = subst (λ n. n < 2 ^ 80) (c.in_ok-grid.ensures.held.0 ∙ c.requires.grid) c.in_ok-grid.ensures.held.1 in
    let last = a.head.parts * least_unit a p ∷ [] in
    let q = err_from_is_err_and c.from_residual-in_err-check_runs.result c.from_residual-in_err-check_runs.ensures.1 in
    rw (q.1, q.2)
    (skip_one (least_grid a p) (runs a p Outbound ++ (runs a p Inbound ++ last)) grid ∙ stop (runs a p Outbound) (runs a p Inbound ++ last)
    c.in_err-check_runs.field-0.0 c.in_err-check_runs.ensures.first)

pub returns-in_err-check_runs-2-clause-first : goal.returns-in_err-check_runs-2-clause-first
returns-in_err-check_runs-2-clause-first c =
    let a = c.args.artery.now in let p = c.args.plan.now in
    let grid : least_grid a p < 2 ^ 80 = subst (λ n. n < 2 ^ 80) (c.in_ok-grid.ensures.held.0 ∙ c.requires.grid) c.in_ok-grid.ensures.held.1 in
    let last = a.head.parts * least_unit a p ∷ [] in
    let q = err_from_is_err_and c.from_residual-in_err-check_runs-2.result c.from_residual-in_err-check_runs-2.ensures.1 in
    rw (q.1, q.2)
    (skip_one (least_grid a p) (runs a p Outbound ++ (runs a p Inbound ++ last)) grid ∙ skip (runs a p Outbound) (runs a p Inbound ++ last) c.in_ok-check_runs.ensures.none
    ∙ stop (runs a p Inbound) last c.in_err-check_runs-2.field-0.0 c.in_err-check_runs-2.ensures.first)

pub returns-in_err-held-clause-first : goal.returns-in_err-held-clause-first
returns-in_err-held-clause-first c =
    let a = c.args.artery.now in let p = c.args.plan.now in
    let grid : least_grid a p < 2 ^ 80 = subst (λ n. n < 2 ^ 80) (c.in_ok-grid.ensures.held.0 ∙ c.requires.grid) c.in_ok-grid.ensures.held.1 in
    let cycle = a.head.parts * least_unit a p in
    let is : c.in_err-held.field-0.0 ≡ cycle = c.in_err-held.ensures.large.0 ∙ ap₂ (λ m n. m * n) (c.from.ensures ∙ c.parts.ensures.value) c.size-unit.ensures.value in
    let q = err_from_is_err_and c.from_residual-in_err-held.result c.from_residual-in_err-held.ensures.1 in
    rw (q.1, q.2)
    (skip_one (least_grid a p) (runs a p Outbound ++ (runs a p Inbound ++ cycle ∷ [])) grid ∙ skip (runs a p Outbound) (runs a p Inbound ++ cycle ∷ []) c.in_ok-check_runs.ensures.none
    ∙ skip (runs a p Inbound) (cycle ∷ []) c.in_ok-check_runs-2.ensures.none ∙ stop_one cycle [] (subst (λ n. 2 ^ 80 ≤ n) is c.in_err-held.ensures.large.1) ∙ ap Some (sym is))

pub returns-clause-none : goal.returns-clause-none
returns-clause-none c =
    let a = c.args.artery.now in let p = c.args.plan.now in
    let grid : least_grid a p < 2 ^ 80 = subst (λ n. n < 2 ^ 80) (c.in_ok-grid.ensures.held.0 ∙ c.requires.grid) c.in_ok-grid.ensures.held.1 in
    let cycle = a.head.parts * least_unit a p in
    let is = c.in_ok-held.ensures.held.0 ∙ ap₂ (λ m n. m * n) (c.from.ensures ∙ c.parts.ensures.value) c.size-unit.ensures.value in
    skip_one (least_grid a p) (runs a p Outbound ++ (runs a p Inbound ++ cycle ∷ [])) grid ∙ skip (runs a p Outbound) (runs a p Inbound ++ cycle ∷ []) c.in_ok-check_runs.ensures.none
    ∙ skip (runs a p Inbound) (cycle ∷ []) c.in_ok-check_runs-2.ensures.none ∙ skip_one cycle [] (subst (λ n. n < 2 ^ 80) is c.in_ok-held.ensures.held.1)

pub overflow_mul-from : goal.overflow_mul-from
overflow_mul-from c = grind (arith, common_steps)
