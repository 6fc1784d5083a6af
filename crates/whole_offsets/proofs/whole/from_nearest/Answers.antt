use Rattle.std.proofs.Common.{◌≡◌, ap, subst, List, ℕ}
use Rattle.second_plan.specs.declared.seconds.Rounded.{Rounded}
use Rattle.whole_offsets.specs.Offsets.{IsPlanOf}
use Rattle.whole_offsets.specs.Tried.{IsTried, NoMoveIsBetter}
use Rattle.whole_offsets.proofs.Same.{no_better_plan}
use Rattle.whole_offsets.proofs.Bests.{best_of_runs}
use Rattle.whole_offsets.proofs.Nearest.{nearest_within}
use Rattle.whole_offsets.proofs.whole.from_nearest.Goals as goal

pub returns-clause-steady : goal.returns-clause-steady
returns-clause-steady c =
    let a = c.args.artery.now in let t = c.args.base.now in let k = c.args.seconds in let first = c.in_ok-first.first in let x = c.in_ok-rounded.field-0 in
    let seconds : first.rounded.seconds ≡ k = ap (λ (r : Rounded). r.seconds) c.in_ok-first.ensures.offsets in
    let offsets : first.rounded.offsets.items ≡ c.in_ok-offsets.offsets.items = ap (λ (r : Rounded). r.offsets.items) c.in_ok-first.ensures.offsets in
    let was = c.in_ok-first.ensures.plan in
    let now : IsTried a t k x = subst (λ j. IsTried a t j x) seconds c.in_ok-rounded.ensures.tried in
    record {
      fine = c.requires.scale.fits;
      within = now.within;
      plan = now.plan;
      steady = subst (λ j. NoMoveIsBetter a t j x) seconds c.in_ok-rounded.ensures.settled;
      first = c.in_ok-offsets.offsets.items;
      nearest = c.in_ok-offsets.ensures.value;
      no_worse = λ q h. no_better_plan a c.known_valid.ensures t k x.rounded.offsets.items c.in_ok-offsets.offsets.items q first.timing x.timing first.score x.score h
          (subst (λ (xs : List ℕ). IsPlanOf a t k xs first.timing) offsets was.plan) now.plan was.score_is now.score_is c.in_ok-rounded.ensures.no_worse;
    }

pub returns-clause-best : goal.returns-clause-best
returns-clause-best c = λ g.
    let a = c.args.artery.now in let t = c.args.base.now in let first = c.in_ok-first.first in let x = c.in_ok-rounded.field-0 in
    best_of_runs a c.known_valid.ensures t first.rounded.seconds x.rounded.offsets.items x.timing c.in_ok-rounded.ensures.tried.plan

pub try_offsets-requires-clause-within : goal.try_offsets-requires-clause-within
try_offsets-requires-clause-within c =
    nearest_within c.args.artery.now c.args.base.now c.args.seconds c.in_ok-offsets.offsets.items c.known_valid.ensures c.requires.base c.in_ok-offsets.ensures.value c.in_ok-offsets.ensures.below
