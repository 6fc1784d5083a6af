use Rattle.std.proofs.Common.{◌≡◌, ◌∙◌, ap, sym, subst}
use Rattle.std.proofs.lemmas.Result.{IfOk-weaker}
use Rattle.rational_theory.specs.Rational.{ℚ}
use Rattle.progression.specs.Street.{Street}
use Rattle.artery_model.specs.Bounds.{least_cycle, most_cycle}
use Rattle.artery_model.specs.Valid.{IsQuantity}
use Rattle.cycle_sweep.specs.Rows.{at_cycle}
use Rattle.whole_plan.specs.Sought.{street_at, IsSought, IsCeiling}
use Rattle.whole_plan.proofs.Wholes.{most_seconds, is_quantity}
use Rattle.whole_plan.proofs.Searches.{all_within}
use Rattle.whole_plan.proofs.searching.sought_at.Goals as goal

pub whole_cycle-cycle-requires : goal.whole_cycle-cycle-requires
whole_cycle-cycle-requires c = most_seconds c.args.artery.now c.args.seconds c.known_valid.ensures c.requires

pub artery_at-requires : goal.artery_at-requires
artery_at-requires c =
    subst (λ (x : ℚ). IsQuantity least_cycle most_cycle x) (sym c.whole_cycle-cycle.ensures) (is_quantity c.args.artery.now c.args.seconds c.known_valid.ensures c.requires)

pub returns-clause-sought : goal.returns-clause-sought
returns-clause-sought c =
    let same : c.in_ok-street.street ≡ street_at c.args.artery.now c.args.seconds = c.in_ok-street.ensures ∙ ap (at_cycle c.args.artery.now) c.whole_cycle-cycle.ensures in
    IfOk-weaker c.sought_in.result _ _ (λ s h. subst (λ (a : Street). IsSought a s) same h) c.sought_in.ensures.sought

pub returns-clause-ceiling : goal.returns-clause-ceiling
returns-clause-ceiling c =
    let same : c.in_ok-street.street ≡ street_at c.args.artery.now c.args.seconds = c.in_ok-street.ensures ∙ ap (at_cycle c.args.artery.now) c.whole_cycle-cycle.ensures in
    IfOk-weaker c.sought_in.result _ _ (λ s h. subst (λ (a : Street). IsCeiling a s.bound) same h) c.sought_in.ensures.ceiling

pub returns-clause-good : goal.returns-clause-good
returns-clause-good c =
    let same : c.in_ok-street.street ≡ street_at c.args.artery.now c.args.seconds = c.in_ok-street.ensures ∙ ap (at_cycle c.args.artery.now) c.whole_cycle-cycle.ensures in
    IfOk-weaker c.sought_in.result _ _ (λ s h. all_within c.args.artery.now c.args.seconds c.in_ok-street.street s.timing c.requires same h) c.sought_in.ensures.good
