use Rattle.std.proofs.Common.{◌≡◌, ◌∙◌, ◌*◌, sym, ap, subst, length, Option, Some, None}
use Rattle.progression.specs.BaseRecord.{cycle}
use Rattle.progression.specs.TimingRecord.{base}
use Rattle.whole_offsets.specs.Scale.{whole_unit}
use Rattle.whole_offsets.specs.Moves.{moves}
use Rattle.whole_offsets.specs.Tried.{IsTried, IsMade, NoMoveIsBetter}
use Rattle.whole_offsets.specs.declared.plan.Tried.{Tried}
use Rattle.whole_offsets.proofs.Scores.{better_irrefl, no_better_on}
use Rattle.whole_offsets.proofs.Rank.{ranked}
use Rattle.whole_offsets.proofs.Moving.{none_better}
use Rattle.whole_offsets.proofs.search.settled.Goals as goal

pub loop-there-smaller : goal.loop-there-smaller
loop-there-smaller c =
    let a = c.args.artery.now in let t = c.args.base.now in let there = c.loop-there.there in let better = c.in-Some.better in
    let all = moves there.rounded.seconds (length there.rounded.offsets.items) in
    let made : IsMade a t there all (Some better) = subst (λ (o : Option Tried). IsMade a t there all o) c.in-Some.is c.in_ok-better.ensures in
    let old = c.loop-there.invariant.tried in
    let new = made.0.plan.tried in
    let same : cycle a (base better.timing) ≡ cycle a (base there.timing) = ap (cycle a) new.plan.on ∙ ap (λ k. a.head.parts * whole_unit a t k) old.seconds_are ∙ sym (ap (cycle a) old.plan.on) in
    ranked a c.known_valid.ensures better.timing there.timing new.small old.small same better.score there.score new.score_is old.score_is made.1

pub loop-there-preserved : goal.loop-there-preserved
loop-there-preserved c =
    let a = c.args.artery.now in let t = c.args.base.now in let there = c.loop-there.there in let better = c.in-Some.better in
    let all = moves there.rounded.seconds (length there.rounded.offsets.items) in
    let made : IsMade a t there all (Some better) = subst (λ (o : Option Tried). IsMade a t there all o) c.in-Some.is c.in_ok-better.ensures in
    record {
      tried = subst (λ k. IsTried a t k better) c.loop-there.invariant.tried.seconds_are made.0.plan.tried;
      no_worse = no_better_on c.args.first.score there.score better.score c.loop-there.invariant.no_worse made.1;
    }

pub loop-there-init : goal.loop-there-init
loop-there-init c = record { tried = c.requires.first; no_worse = better_irrefl c.args.first.score }

pub returns-in-None-clause-settled : goal.returns-in-None-clause-settled
returns-in-None-clause-settled c =
    let a = c.args.artery.now in let t = c.args.base.now in let there = c.loop-there.there in
    let all = moves there.rounded.seconds (length there.rounded.offsets.items) in
    let was : IsTried a t there.rounded.seconds there = subst (λ k. IsTried a t k there) (sym c.loop-there.invariant.tried.seconds_are) c.loop-there.invariant.tried in
    let made : IsMade a t there all None = subst (λ (o : Option Tried). IsMade a t there all o) c.in-None.is c.in_ok-better.ensures in
    subst (λ k. NoMoveIsBetter a t k there) c.loop-there.invariant.tried.seconds_are (none_better a t there c.known_valid.ensures was made)
