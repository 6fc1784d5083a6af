-- A leaf of an artery: what it shows as a sum of the linear model.
use Rattle.std.proofs.Common.{◌≡◌, ℕ, inl, inr, Option, None, Some, List, [], ◌∷◌, map, sym, ap, subst, arith}
use Rattle.rational_theory.specs.Rational.{ℚ, ◌≤ℚ◌, ◌<ℚ◌}
use Rattle.rational_theory.specs.Rows as maths
use Rattle.progression.specs.Street.{Street}
use Rattle.progression.specs.Speeds.{number}
use Rattle.linear_theory.specs.Boxes.{Area}
use Rattle.linear_theory.specs.Rows.{line, goal_form}
use Rattle.linear_theory.specs.Covering.{coef, CoversGoal, RefutesAll}
use Rattle.linear_theory.specs.Trees.{leaf_sum, AreWeights}
use Rattle.named_row.specs.Covering.{Covers, Refutes, number_at}
use Rattle.named_row.specs.declared.leaves.Weight.{Weight}
use Rattle.loop_rows.specs.Writing.{written}
use Rattle.loop_rows.proofs.Writing.{written_row}
use Rattle.loop_rows.specs.Weights.{named, name_at, artery_rows, leaf_total}
use Rattle.loop_rows.proofs.LeafSums.{total_coef, total_bound, total_width}
use Rattle.loop_rows.proofs.RowTests.{row_decided}
use Rattle.certificate_checker.specs.TreeProofs.{AreRows, Keeps, IsLeafProof}
use Rattle.certificate_checker.specs.Accepted.{Shows, IsProof}
use Rattle.certificate_checker.specs.Refusals.{one_band}
use Rattle.certificate_checker.specs.declared.leaves.Aim.{Aim}
use Rattle.certificate_checker.specs.Checked.{aim_at}

-- what each leaf is to show: that its box has no timing, or that no weighted band is above the limit
abbrev pub aim_of : Street → Option ℚ → Aim
aim_of a = aim_at (one_band a)

-- ---- on a leaf's sum
module _ (a : Street) (box : Area) (ws : List Weight) where
  goal_coef : (j : ℕ) → number_at (written a (goal_form a)).coefs j ≡ coef (line a (goal_form a)).coefs j
  goal_coef j = ap (λ (r : maths.Row). coef r.coefs j) (written_row a (goal_form a))

  covers_in : (limit : ℚ) → Covers (leaf_total a box ws) (written a (goal_form a)) limit → CoversGoal a limit (leaf_sum a box (map named ws))
  covers_in limit h = let n = total_width a box ws in record {
    coefs = λ j l. subst (λ x. x ≤ℚ coef (leaf_sum a box (map named ws)).coefs j) (goal_coef j)
        (subst (λ x. number_at (written a (goal_form a)).coefs j ≤ℚ x) (total_coef a box ws j) (h.coefs j (omega arith)));
    bound = subst (λ x. x ≤ℚ limit) (total_bound a box ws) h.bound;
  }

  covers_out : (limit : ℚ) → CoversGoal a limit (leaf_sum a box (map named ws)) → Covers (leaf_total a box ws) (written a (goal_form a)) limit
  covers_out limit h = let n = total_width a box ws in record {
    coefs = λ j l. subst (λ x. x ≤ℚ number_at (leaf_total a box ws).coefs j) (sym (goal_coef j))
        (subst (λ x. coef (line a (goal_form a)).coefs j ≤ℚ x) (sym (total_coef a box ws j)) (h.coefs j (omega arith)));
    bound = subst (λ x. x ≤ℚ limit) (sym (total_bound a box ws)) h.bound;
  }

  refutes_in : Refutes (leaf_total a box ws) → RefutesAll a (leaf_sum a box (map named ws))
  refutes_in h = let n = total_width a box ws in record {
    coefs = λ j l. subst (λ x. number 0 ≤ℚ x) (total_coef a box ws j) (h.coefs j (omega arith));
    bound = subst (λ x. x <ℚ number 0) (total_bound a box ws) h.bound;
  }

  refutes_out : RefutesAll a (leaf_sum a box (map named ws)) → Refutes (leaf_total a box ws)
  refutes_out h = let n = total_width a box ws in record {
    coefs = λ j l. subst (λ x. number 0 ≤ℚ x) (sym (total_coef a box ws j)) (h.coefs j (omega arith));
    bound = subst (λ x. x <ℚ number 0) (sym (total_bound a box ws)) h.bound;
  }

  -- a sum shows what is claimed
  keeps_in : (limit : Option ℚ) → Keeps (written a (goal_form a)) limit (leaf_total a box ws) → Shows a limit (leaf_sum a box (map named ws))
  keeps_in None h = refutes_in h
  keeps_in (Some limit) (inl h) = inl (covers_in limit h)
  keeps_in (Some limit) (inr h) = inr (refutes_in h)

  keeps_out : (limit : Option ℚ) → Shows a limit (leaf_sum a box (map named ws)) → Keeps (written a (goal_form a)) limit (leaf_total a box ws)
  keeps_out None h = refutes_out h
  keeps_out (Some limit) (inl h) = inl (covers_out limit h)
  keeps_out (Some limit) (inr h) = inr (refutes_out h)

-- its rows are there
weights_in : (a : Street) (box : Area) (ws : List Weight) → AreRows (artery_rows a box) ws → AreWeights a (map named ws)
weights_in a box [] h = tt
weights_in a box (w ∷ ws) h = ((row_decided a (name_at w.row)).0 h.0, h.1, weights_in a box ws h.2)

weights_out : (a : Street) (box : Area) (ws : List Weight) → AreWeights a (map named ws) → AreRows (artery_rows a box) ws
weights_out a box [] h = tt
weights_out a box (w ∷ ws) h = ((row_decided a (name_at w.row)).1 h.0, h.1, weights_out a box ws h.2)

pub leaf_in : (a : Street) (limit : Option ℚ) (box : Area) (ws : List Weight) → IsLeafProof (artery_rows a box) (aim_of a limit) ws → IsProof a limit box ws
leaf_in a limit box ws h = record { rows = weights_in a box ws h.there; fits = h.fits; shows = keeps_in a box ws limit h.keeps }

pub leaf_out : (a : Street) (limit : Option ℚ) (box : Area) (ws : List Weight) → IsProof a limit box ws → IsLeafProof (artery_rows a box) (aim_of a limit) ws
leaf_out a limit box ws h = record { there = weights_out a box ws h.rows; fits = h.fits; keeps = keeps_out a box ws limit h.shows }
