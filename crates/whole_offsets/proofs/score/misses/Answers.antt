use Rattle.std.proofs.Common.{◌∙◌, ap, ap₂, pos, FitsSigned, rules}
use Rattle.std.specs.Int.{w128}
use Rattle.std.proofs.lemmas.Int.{to_z-of_z}
use Rattle.rational_theory.specs.Rational.{over}
use Rattle.whole_offsets.proofs.Rank.{misses_are}
use Rattle.whole_offsets.proofs.score.misses.Goals as goal

pub returns : goal.returns
returns c =
    let fits : FitsSigned w128 c.signed-ticks.result = search rules in
    let made = rw (to_z-of_z w128 c.signed-ticks.result fits) at c.reduced.ensures.value in
    made
    ∙ ap₂ (λ z d. over z d) (c.signed-ticks.ensures.value ∙ ap pos c.missed_both.ensures.value) c.common_cycle-parts.ensures.value
    ∙ misses_are c.args.artery.now c.known_valid.ensures c.args.timing.now c.known_small.ensures
