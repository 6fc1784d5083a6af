-- The band of a pair that is below the cycle is.
use Rattle.std.proofs.Common.{ℕ, ◌<◌, Option, None, Some}
use Rattle.std.specs.Prelude.{IfSome}
use Rattle.band_measure.specs.declared.pair.Widest.{Widest}
use Rattle.typed_plan.specs.Ends.{IsBelow}

pub band_below : (cycle : ℕ) (found : Option Widest) → IsBelow cycle found → IfSome found (λ (w : Widest). w.band < cycle)
band_below cycle None h = tt
band_below cycle (Some w) h = h.1
