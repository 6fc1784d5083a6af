-- The sum of a leaf over an artery's rows has no fault but an operation that leaves 128 bits; and where it has none, the leaf is a proof of what its sum shows.
use Rattle.std.proofs.Common.{◌≡◌, List, [], ◌∷◌, map, Option, Some, None}
use Rattle.rational_theory.specs.Rational.{ℚ}
use Rattle.progression.specs.Street.{Street, count}
use Rattle.linear_theory.specs.Places.{width}
use Rattle.linear_theory.specs.Boxes.{Area}
use Rattle.linear_theory.specs.Trees.{leaf_sum, AreWeights}
use Rattle.named_row.specs.Sheets.{blank}
use Rattle.named_row.specs.declared.leaves.Weight.{Weight}
use Rattle.loop_rows.proofs.RowTests.{row_decided}
use Rattle.loop_rows.specs.Weights.{named, name_at, leaf_fault, fault_of, artery_rows}
use Rattle.loop_rows.specs.declared.fault.SumFault.{SumFault}
use Rattle.loop_rows.proofs.LeafSums.{no_fault, total_weights}
use Rattle.certificate_checker.specs.TreeProofs.{AreRows}
use Rattle.certificate_checker.specs.Accepted.{Shows, IsProof}
use Rattle.box_search.proofs.LeafFaults.{IsWideFault, AddsRight, rows_only_wide, fault_none, fits_in}

artery_adds : (a : Street) (box : Area) → AddsRight (artery_rows a box)
artery_adds a box sum w e = let p = no_fault a box sum w e in ((row_decided a (name_at w.row)).1 p.there, p.positive, p.fits)

artery_there : (a : Street) (box : Area) (ws : List Weight) → AreWeights a (map named ws) → AreRows (artery_rows a box) ws
artery_there a box [] h = tt
artery_there a box (w ∷ ws) h = ((row_decided a (name_at w.row)).1 h.0, h.1, artery_there a box ws h.2)

pub only_wide : (a : Street) (box : Area) (ws : List Weight) → AreWeights a (map named ws) → (f : SumFault) → leaf_fault a box ws ≡ Some f → IsWideFault f
only_wide a box ws h f e = rows_only_wide (artery_rows a box) ws (artery_there a box ws h) f e

pub proof_of : (a : Street) (limit : Option ℚ) (box : Area) (ws : List Weight) → leaf_fault a box ws ≡ None → Shows a limit (leaf_sum a box (map named ws)) → IsProof a limit box ws
unfolding fault_of
proof_of a limit box ws e s = record { rows = total_weights a box ws e; fits = fits_in (artery_rows a box) (artery_adds a box) (blank (width (count a))) ws e; shows = s }

-- and back: no operation of a proof's sum is refused
pub proof_free : (a : Street) (limit : Option ℚ) (box : Area) (ws : List Weight) → IsProof a limit box ws → leaf_fault a box ws ≡ None
unfolding fault_of
proof_free a limit box ws p = fault_none (artery_rows a box) (blank (width (count a))) ws (artery_there a box ws p.rows) p.fits
