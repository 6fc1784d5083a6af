-- Lemmas on the definitions of `Spans`.
use Rattle.std.proofs.Common.{◌≡◌, ℕ, pos, ◌-ℤ◌, ◌+◌, ◌<◌, refl, ◌∙◌, ap, arith, [], ◌∷◌}
use Rattle.std.proofs.lemmas.Int.{ints}
use Rattle.rational_theory.specs.Rational.{ℚ, over, ◌+ℚ◌, ◌-ℚ◌}
use Rattle.rational_theory.proofs.Arithmetic.{IsRatio, over_terms, rebase, same_ratio}
use Rattle.rational_theory.proofs.Ring.{ring, at, lit, ◌⊕◌}
use Rattle.rational_theory.proofs.Shares.{nothing, one_cycle, joined_ticks, less_ticks}
use Rattle.progression.specs.Street.{Street, red_parts}
use Rattle.progression.specs.Speeds.{number}
use Rattle.progression.specs.declared.parts.Dir.TheVariants.{Outbound, Inbound}
use Rattle.linear_theory.specs.Blocks.{part, block_of}
use Rattle.linear_theory.specs.Boxes.{run_least, run_greatest, least_sum, greatest_sum}
use Rattle.linear_theory.proofs.Shares.{part_ratio}
use Rattle.linear_theory.proofs.Terms.{block_term}
use Rattle.linear_theory.specs.Spans.{least_parts, greatest_parts}

-- a block sum with no runs, and the runs
split_runs : (w w' v v' y y' s s' r r' k k' : ℚ) → block_of w w' v v' y y' s s' r r' k k' ≡ block_of w w' v v' (number 0) (number 0) s s' r r' k k' +ℚ y +ℚ y'
split_runs w w' v v' y y' s s' r r' k k' =
    ring (block_term (at 0) (at 1) (at 2) (at 3) (at 4) (at 5) (at 6) (at 7) (at 8) (at 9) (at 10) (at 11))
    (block_term (at 0) (at 1) (at 2) (at 3) (lit (pos 0)) (lit (pos 0)) (at 6) (at 7) (at 8) (at 9) (at 10) (at 11) ⊕ at 4 ⊕ at 5)
    (w ∷ w' ∷ v ∷ v' ∷ y ∷ y' ∷ s ∷ s' ∷ r ∷ r' ∷ k ∷ k' ∷ []) refl

-- a difference of naturals over n
differs : (x : ℚ) (p m n : ℕ) → IsRatio x p m n → x ≡ over (pos p -ℤ pos m) n
differs x p m n h =
    same_ratio _ _ _ _ _ _ _ _ h (over_terms (pos p -ℤ pos m) p m n h.above (omega (arith, ints))) (omega arith)

module _ (a : Street) (h : 0 < a.head.parts) where
  -- a number of parts
  parts : (r : ℕ) → IsRatio (part a r) r 0 a.head.parts
  parts r = part_ratio a h r

  -- sums and differences of parts
  plus_parts : {x y : ℚ} {p n q m : ℕ} → IsRatio x p n a.head.parts → IsRatio y q m a.head.parts → IsRatio (x +ℚ y) (p + q) (n + m) a.head.parts
  plus_parts {x} {y} {p} {n} {q} {m} k l = joined_ticks a.head.parts h x y p n q m k l

  less_parts : {x y : ℚ} {p n q m : ℕ} → IsRatio x p n a.head.parts → IsRatio y q m a.head.parts → IsRatio (x -ℚ y) (p + m) (n + q) a.head.parts
  less_parts {x} {y} {p} {n} {q} {m} k l = less_ticks a.head.parts h x y p n q m k l

  -- what is left of the cycle
  rest_ratio : (r : ℕ) → IsRatio (number 1 -ℚ part a r) (a.head.parts + 0) (0 + r) a.head.parts
  rest_ratio r = less_parts (one_cycle a.head.parts h) (parts r)

  -- a block sum with no runs
  block_parts : (w w' v v' : ℚ) (p1 n1 p2 n2 p3 n3 p4 n4 r5 r6 r k k' l : ℕ) → IsRatio w p1 n1 a.head.parts → IsRatio w' p2 n2 a.head.parts
      → IsRatio v p3 n3 a.head.parts → IsRatio v' p4 n4 a.head.parts
      → IsRatio (block_of w w' v v' (number 0) (number 0) (part a r5) (part a r6) (part a r) (part a k) (part a k') (part a l))
      (p1 + p2 + n3 + n4 + r5 + r) (n1 + n2 + p3 + p4 + r6 + k + k' + l) a.head.parts
  block_parts w w' v v' p1 n1 p2 n2 p3 n3 p4 n4 r5 r6 r k k' l e1 e2 e3 e4 =
      rebase _ _ _ _ _ _ _
      (less_parts (less_parts (less_parts (plus_parts (less_parts (plus_parts (plus_parts (plus_parts (less_parts (less_parts (plus_parts e1 e2) e3) e4)
      (nothing a.head.parts h)) (nothing a.head.parts h)) (parts r5)) (parts r6)) (parts r)) (parts k)) (parts k')) (parts l))
      h (omega arith)

  -- the least sum is its parts and the two least runs
  pub least_sum_is : (i : ℕ) → least_sum a i ≡ over (least_parts a i) a.head.parts +ℚ run_least a Outbound i +ℚ run_least a Inbound i
  least_sum_is i =
      split_runs _ _ _ _ _ _ _ _ _ _ _ _
      ∙ ap (λ x. x +ℚ run_least a Outbound i +ℚ run_least a Inbound i)
      (differs _ _ _ _ (block_parts _ _ _ _ _ _ _ _ _ _ _ _ _ _ _ _ _ _ (nothing a.head.parts h) (nothing a.head.parts h) (rest_ratio (red_parts a Outbound (i + 1)))
      (rest_ratio (red_parts a Inbound (i + 1))))
      ∙ ap (λ z. over z a.head.parts) (omega (arith, ints)))

  -- and the greatest its parts and the two greatest
  pub greatest_sum_is : (i : ℕ) → greatest_sum a i ≡ over (greatest_parts a i) a.head.parts +ℚ run_greatest a Outbound i +ℚ run_greatest a Inbound i
  greatest_sum_is i =
      split_runs _ _ _ _ _ _ _ _ _ _ _ _
      ∙ ap (λ x. x +ℚ run_greatest a Outbound i +ℚ run_greatest a Inbound i)
      (differs _ _ _ _ (block_parts _ _ _ _ _ _ _ _ _ _ _ _ _ _ _ _ _ _ (rest_ratio (red_parts a Outbound i)) (rest_ratio (red_parts a Inbound i)) (nothing a.head.parts h) (nothing a.head.parts h))
      ∙ ap (λ z. over z a.head.parts) (omega (arith, ints)))
