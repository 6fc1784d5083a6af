-- The operations of a sum of rows in their order, and the first of them that leaves 128 bits.
use Rattle.std.specs.Prelude.{ℕ, pos, Option, Some, None, List, length, slice_index_or}
use Rattle.rational_theory.specs.Rational.{ℚ, whole, ◌*ℚ◌}
use Rattle.narrow_fraction.specs.Attempt.{earlier, first_below}
use Rattle.narrow_fraction.specs.Past128.{past_wide}
use Rattle.narrow_fraction.specs.declared.wide.Op.TheVariants.{Add, Mul}
use Rattle.narrow_fraction.specs.declared.wide.Wide.{Wide}
use Rattle.named_row.specs.declared.names.Place.{Place}
use Rattle.named_row.specs.declared.names.Place.TheVariants.{Cell, Bound}
use Rattle.named_row.specs.declared.wide_at.WideAt.{WideAt}
use Rattle.named_row.specs.Sheets.{Sheet}

-- an operation's refusal, at a place
abbrev pub at : Place → Option Wide → Option WideAt
at p None = None
at p (Some w) = Some (record { place = p; wide = w })

-- at one place: the product of the multiplier k and the other row's number c, then its sum with the own number x
unfoldable pub place_refusal : Place → ℚ → ℚ → ℚ → Option WideAt
place_refusal p k x c = earlier (at p (past_wide Mul k c)) (at p (past_wide Add x (k *ℚ c)))

-- in column j
abbrev pub cell_refusal : ℚ → List ℚ → List ℚ → ℕ → Option WideAt
cell_refusal k xs cs j = place_refusal (Cell j) k (slice_index_or xs j (whole (pos 0))) (slice_index_or cs j (whole (pos 0)))

-- the columns in order, then the bound
unfoldable pub sum_refusal : ℚ → Sheet → Sheet → Option WideAt
sum_refusal k s r = earlier (first_below (cell_refusal k r.coefs s.coefs) (length r.coefs)) (place_refusal Bound k r.bound s.bound)
