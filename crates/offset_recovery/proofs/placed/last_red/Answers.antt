use Rattle.std.proofs.Common.{◌<◌, ◌≤◌, ◌^◌, ◌∙◌, ◌-◌, pos, ap, ap₂, sym, subst, arith, get_or, length}
use Rattle.progression.specs.Street.{count}
use Rattle.offset_recovery.proofs.Making.{last_listed, reds_long}
use Rattle.offset_recovery.proofs.Places.{red_listed}
use Rattle.offset_recovery.proofs.placed.last_red.Goals as goal

pub bounds-reds-count : goal.bounds-reds-count
bounds-reds-count c =
    subst (λ n. n - 1 < length c.args.reds.now) (sym c.count.ensures.value) (reds_long c.args.artery.now c.args.point.now.values.items c.args.reds.now c.requires.some c.requires.reds)

pub returns-clause-value : goal.returns-clause-value
returns-clause-value c =
    let a = c.args.artery.now in let x = c.args.point.now.values.items in
    let first : 1 ≤ count a = omega arith in let last : count a ≤ count a = omega arith in
    ap pos (ap₂ (λ xs n. get_or xs (n - 1) 0) c.requires.reds c.count.ensures.value) ∙ red_listed a x (count a) (first, last)

pub returns-clause-small : goal.returns-clause-small
returns-clause-small c =
    subst (λ n. get_or c.args.reds.now (n - 1) 0 < 2 ^ 80) (sym c.count.ensures.value) (last_listed c.args.artery.now c.args.point.now.values.items
    c.args.reds.now c.requires.some c.requires.reds c.requires.fit)
