use Rattle.std.proofs.Common.{◌≡◌, ◌∙◌, refl, ◌*◌, ◌<◌, pos, FitsSigned, rules, unsigned_abs, mul-pos, arith}
use Rattle.std.specs.Int.{w128}
use Rattle.std.proofs.lemmas.Int.{to_z-of_z}
use Rattle.std.proofs.Math.Nat.{mul-le-mul}
use Rattle.rational_theory.specs.Rational.{over}
use Rattle.rational_theory.proofs.Lowest.{num_size}
use Rattle.artery_model.proofs.Quotients.{over_times, over_positive, above_zero}
use Rattle.artery_model.proofs.runs.run.Goals as goal

-- the numbers of the quotient
parts : (c : goal.After-reduced) → c.reduced.result ≡ over (pos (c.args.top * c.args.distance * c.args.speed.den)) (c.args.bottom * unsigned_abs c.args.speed.num)
parts c =
    let top : FitsSigned w128 c.from-3.result = search rules in
    let den : FitsSigned w128 c.den.result = search rules in
    let num : FitsSigned w128 c.num.result = search rules in
    c.reduced.ensures.value ∙ rw (
      to_z-of_z w128 c.from-3.result top,
      c.from-3.ensures,
      to_z-of_z w128 c.den.result den,
      c.den.ensures.value,
      c.from.ensures,
      c.from-2.ensures,
      c.unsigned_abs.ensures.value,
      to_z-of_z w128 c.num.result num,
      c.num.ensures.value,
    ) refl

below_line : (c : goal.After-reduced) → 0 < c.args.bottom * unsigned_abs c.args.speed.num
below_line c = mul-pos c.requires.bottom (above_zero c.args.speed c.requires.speed).1

pub returns-clause-value : goal.returns-clause-value
returns-clause-value c =
    let v = c.args.speed in
    let p = above_zero v c.requires.speed in
    parts c ∙ over_times (c.args.top * c.args.distance) c.args.bottom (unsigned_abs v.num) v p.0 p.1 c.requires.bottom

pub returns-clause-positive : goal.returns-clause-positive
returns-clause-positive c = rw (parts c) (over_positive _ _ (mul-pos (mul-pos c.requires.top c.requires.least) c.args.speed.positive) (below_line c))

pub returns-clause-num : goal.returns-clause-num
returns-clause-num c =
    let size = num_size (pos (c.args.top * c.args.distance * c.args.speed.den)) (c.args.bottom * unsigned_abs c.args.speed.num) (below_line c) in
    rw (parts c) (omega (arith, size, mul-le-mul (mul-le-mul c.requires.top_most c.requires.most) c.requires.speed.den))
