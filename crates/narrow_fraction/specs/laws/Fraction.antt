-- Lemmas on the definitions of `Fraction`.
use Rattle.std.specs.Prelude.{ℕ, ℤ}
use Rattle.std.specs.Coded.{Coded, coded×, coded_ℤ, coded_ℕ, code_by}
use Rattle.rational_theory.specs.Rational.{ℚ, over}
use Rattle.rational_theory.proofs.Lowest.{over-own}

abbrev pub ℚ_code : Coded ℚ
ℚ_code = code_by (ℤ × ℕ) (coded× coded_ℤ coded_ℕ) (λ x. (x.num, x.den)) (λ p. over p.0 p.1) over-own
