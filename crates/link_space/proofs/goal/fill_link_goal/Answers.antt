use Rattle.std.proofs.Common.{◌≡◌, ◌≤◌, ◌∙◌, ap, arith}
use Rattle.rational_theory.specs.Rational.{◌*ℚ◌}
use Rattle.progression.specs.Street.{count}
use Rattle.progression.specs.Speeds.{number}
use Rattle.named_row.specs.Sheets.{Sheet}
use Rattle.link_space.specs.LinkSheets.{link_goal_sheet}
use Rattle.link_space.proofs.LinkGoalSheets.{goal_is}
use Rattle.link_space.proofs.goal.fill_link_goal.Goals as goal

pub returns-clause-row : goal.returns-clause-row
returns-clause-row c =
    let few = c.count.ensures.few in let value = c.count.ensures.value in
    let two : 2 ≤ count c.args.artery.now = omega arith in
    let doubled = c.twice-inbound.ensures ∙ ap (λ k. number 2 *ℚ k) c.ratio.ensures.value in
    rw (c.fill_halves-2.ensures.value, c.fill_halves.ensures.value, c.whole.ensures, doubled, c.clear.ensures.value, c.requires.columns) (goal_is c.args.artery.now two)

pub returns-clause-unspent : goal.returns-clause-unspent
returns-clause-unspent c =
    let few = c.count.ensures.few in let value = c.count.ensures.value in
    let two : 2 ≤ count c.args.artery.now = omega arith in
    let doubled = c.twice-inbound.ensures ∙ ap (λ k. number 2 *ℚ k) c.ratio.ensures.value in
    let row : c.fill_halves-2.new.into ≡ link_goal_sheet c.args.artery.now =
    rw (c.fill_halves-2.ensures.value, c.fill_halves.ensures.value, c.whole.ensures, doubled, c.clear.ensures.value, c.requires.columns) (goal_is c.args.artery.now two) in
    ap (λ (s : Sheet). s.spent) row
