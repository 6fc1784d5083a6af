use Rattle.std.proofs.Common.{[], ◌∷◌, sym, subst, true≢false, ◌∙◌, Option, Some, None}
use Rattle.whole_offsets.specs.Tried.{IsMadeWith}
use Rattle.whole_offsets.specs.declared.plan.Tried.{Tried}
use Rattle.whole_offsets.proofs.Moving.{none_stays, first_better, better_takes, best_stays}
use Rattle.whole_offsets.proofs.search.better_of.Goals as goal

pub returns-then-beats : goal.returns-then-beats
returns-then-beats c = λ a t m after.
    subst (λ (o : Option Tried). IsMadeWith a t c.args.there.now (m ∷ []) o (Some c.args.found)) (sym c.in-None.is)
    (first_better a t c.args.there.now m c.args.found after (c.beats.ensures.0 c.if-beats.true))

pub returns-else-beats : goal.returns-else-beats
returns-else-beats c = λ a t m after.
    subst (λ (o : Option Tried). IsMadeWith a t c.args.there.now (m ∷ []) o None) (sym c.in-None.is)
    (none_stays a t c.args.there.now m c.args.found after (λ b. true≢false (sym (c.beats.ensures.1 b) ∙ c.if-beats.false)))

pub returns-then-beats-2 : goal.returns-then-beats-2
returns-then-beats-2 c = λ a t m after.
    subst (λ (o : Option Tried). IsMadeWith a t c.args.there.now (m ∷ []) o (Some c.args.found)) (sym c.in-Some.is)
    (better_takes a t c.args.there.now m c.args.found after c.in-Some.before (c.beats-in-Some.ensures.0 c.if-beats-2.true))

pub returns-else-beats-2 : goal.returns-else-beats-2
returns-else-beats-2 c = λ a t m after.
    subst (λ (o : Option Tried). IsMadeWith a t c.args.there.now (m ∷ []) o (Some c.in-Some.before)) (sym c.in-Some.is)
    (best_stays a t c.args.there.now m c.args.found after c.in-Some.before (λ b. true≢false (sym (c.beats-in-Some.ensures.1 b) ∙ c.if-beats-2.false)))
