use Rattle.std.proofs.Common.{◌≡◌, ℕ, ◌∙◌, sym, ap, ◌*◌, ◌/◌, pos, unsigned_abs}
use Rattle.std.specs.Prelude.{◌≤ℤ◌}
use Rattle.rational_theory.specs.Rational.{ℚ, ◌*ℚ◌}
use Rattle.progression.specs.Speeds.{number}
use Rattle.band_measure.specs.Cut.{whole_part}
use Rattle.whole_offsets.proofs.Runs.{part_is}
use Rattle.whole_offsets.proofs.scale.most_run.Goals as goal

part : (x y : ℚ) (g n d : ℕ) → x ≡ y → pos 1 ≤ℤ x.num → n ≡ unsigned_abs x.num → d ≡ x.den → g * n / d ≡ whole_part (y *ℚ number g)
part x y g n d e p f h = rw (f, h) (sym (part_is x p g)) ∙ ap (λ z. whole_part (z *ℚ number g)) e

pub returns-clause-value : goal.returns-clause-value
returns-clause-value c = part c.run_high-limit.result _ c.args.grid c.numerator.result c.denominator.result c.run_high-limit.ensures.value c.run_high-limit.ensures.positive
    c.numerator.ensures.value c.denominator.ensures.value
