use Rattle.std.proofs.Common.{◌≡◌, ◌*◌, ◌<◌, ◌∙◌, sym, ap₂, pos, arith, rules, unsigned_abs}
use Rattle.rational_theory.specs.Rational.{whole, over}
use Rattle.artery_model.proofs.Quotients.{over_times}
use Rattle.speed_steps.proofs.Numbers.{num_is, zero_is}
use Rattle.speed_steps.proofs.Speeds.{over_nothing}
use Rattle.speed_steps.proofs.steps.quotient.Goals as goal

pub returns-then-run_top-eq0 : goal.returns-then-run_top-eq0
returns-then-run_top-eq0 c =
    let nothing : c.whole.result ≡ whole (pos 0) = search rules in
    let zero : unsigned_abs c.args.run.num ≡ 0 = sym c.numerator-run_top.ensures ∙ c.if-run_top-eq0.true in
    nothing ∙ sym (over_nothing (c.args.top * c.args.distance) c.args.bottom c.args.run (zero_is c.args.run zero))

pub returns : goal.returns
returns c =
    let size = c.numerator-run_top.ensures in
    let other = c.if-run_top-eq0.false in
    let some : 0 < unsigned_abs c.args.run.num = omega (arith, size, other) in
    c.share.ensures.value
    ∙ ap₂ (λ m n. over (pos m) n) (ap₂ (λ m n. m * n) c.from.ensures c.denominator.ensures) (ap₂ (λ m n. m * n) c.from-2.ensures size)
    ∙ over_times (c.args.top * c.args.distance) c.args.bottom (unsigned_abs c.args.run.num) c.args.run (num_is c.args.run c.requires.run.least) some c.requires.bottom
