-- The start leaf covers the goal with its bound.
use Rattle.std.proofs.Common.{◌≡◌, ℕ, zero, suc, pos, Bool, true, false, cond, List, [], ◌∷◌, set, replicate, map, ◌≤◌, refl, sym, ◌∙◌, ap, subst, arith}
use Rattle.std.specs.Ordering.{eq_by_cmp}
use Rattle.std.proofs.lemmas.Int.{ints}
use Rattle.std.proofs.lemmas.List.{length-set, length-replicate, get_or-set_same}
use Rattle.rational_theory.specs.Rational.{ℚ, whole, ◌+ℚ◌, ◌*ℚ◌, ◌≤ℚ◌}
use Rattle.rational_theory.specs.Compare.{cmp_ℚ}
use Rattle.rational_theory.proofs.Compare.{eq_true}
use Rattle.rational_theory.proofs.Order.{≤ℚ_refl}
use Rattle.rational_theory.proofs.Linear.{linear, sum_not_negative, product_not_negative}
use Rattle.rational_theory.proofs.Ring.{ring, at, lit, ◌⊕◌, ◌⊗◌}
use Rattle.rational_theory.specs.Rows.{add, scale}
use Rattle.progression.specs.Street.{Street, count}
use Rattle.progression.specs.Speeds.{number}
use Rattle.progression.specs.Columns.{BandOf, WaitOf}
use Rattle.progression.specs.declared.parts.Dir.{Dir}
use Rattle.progression.specs.declared.parts.Dir.TheVariants.{Outbound, Inbound}
use Rattle.artery_model.specs.Valid.{IsValid}
use Rattle.linear_theory.specs.Places.{width}
use Rattle.linear_theory.specs.Blocks.{green_part}
use Rattle.linear_theory.specs.Boxes.{root_box}
use Rattle.linear_theory.specs.Rows.{line, wait_form, goal_form}
use Rattle.linear_theory.specs.Covering.{coef, CoversGoal}
use Rattle.linear_theory.specs.Trees.{AreWeights}
use Rattle.loop_rows.specs.Weights.{named}
use Rattle.simplex_theory.proofs.Signs.{one_positive}
use Rattle.program_builder.proofs.LineCells.{line_each, line_other, line_first}
use Rattle.simplex_theory.proofs.Lines.{get_or-add, get_or-scale}
use Rattle.branch_tree.specs.LeafRows.{sum_of}
use Rattle.branch_tree.specs.laws.LeafWeights.{weight_there}
use Rattle.branch_tree.specs.Starts.{first_out, first_in, start_leaf, start_bound}

-- a valid artery's ratio is at least 0
pub ratio_low : (a : Street) → IsValid a → number 0 ≤ℚ a.head.ratio
unfolding whole
ratio_low a v = record { cross = let l = v.ratio.least in omega (arith, ints, l) }

pub record IsGoodStart (a : Street) : Type 0 where
  pub rows : AreWeights a (map named (start_leaf a))
  pub covers : CoversGoal a (start_bound a) (sum_of a (root_box a) (start_leaf a))

module _ (a : Street) (v : IsValid a) where
  start_rows : AreWeights a (map named (start_leaf a))
  start_rows = ((omega arith, let n = v.few in omega arith), one_positive, weight_there a first_in a.head.ratio (omega arith, let n = v.few in omega arith) (ratio_low a v))

  -- ---- the numbers of the two rows and of the goal
  abbrev wait_coef : Dir → ℕ → ℚ
  wait_coef d j = coef (line a (wait_form a d 1)).coefs j

  abbrev goal_coef : ℕ → ℚ
  goal_coef j = coef (line a (goal_form a)).coefs j

  wait_low : (d : Dir) (j : ℕ) → number 0 ≤ℚ wait_coef d j
  wait_low d j = line_each (λ x. number 0 ≤ℚ x) a (wait_form a d 1) j (≤ℚ_refl (number 0)) (one_positive, (one_positive, tt))

  out_first : wait_coef Outbound 0 ≡ number 1
  out_first = line_first a (BandOf Outbound, number 1) ((WaitOf Outbound 1, number 1) ∷ []) (green_part a Outbound 1) (omega arith) ((λ e. absurd (omega arith)), tt)

  in_second : wait_coef Inbound 1 ≡ number 1
  in_second = line_first a (BandOf Inbound, number 1) ((WaitOf Inbound 1, number 1) ∷ []) (green_part a Inbound 1) (let n = v.few in omega arith) ((λ e. absurd (omega arith)), tt)

  goal_first : goal_coef 0 ≡ number 1
  goal_first = line_first a (BandOf Outbound, number 1) ((BandOf Inbound, a.head.ratio) ∷ []) (number 0) (omega arith) ((λ e. absurd (omega arith)), tt)

  goal_second : goal_coef 1 ≡ a.head.ratio
  goal_second =
      let zeros = replicate (width (count a)) (number 0) in
      let w = length-replicate (width (count a)) (number 0) in
      let l = length-set zeros 0 (number 1) in
      get_or-set_same (set zeros 0 (number 1)) 1 a.head.ratio (number 0) (let n = v.few in omega arith)

  goal_rest : (j : ℕ) → 2 ≤ j → goal_coef j ≡ number 0
  goal_rest j h = line_other a (goal_form a) j ((λ e. absurd (omega arith)), ((λ e. absurd (omega arith)), tt))

  -- ---- the sum
  sum_coef : (k : ℚ) (c d : List ℚ) (j : ℕ) → coef (add (scale k c) d) j ≡ k *ℚ coef c j +ℚ coef d j
  sum_coef k c d j = get_or-add (scale k c) d j ∙ ap (λ y. y +ℚ coef d j) (get_or-scale k c j)

  -- the sum has the first row's number and so many times as the ratio is the second's
  start_coef : (j : ℕ) → coef (sum_of a (root_box a) (start_leaf a)).coefs j ≡ wait_coef Outbound j +ℚ a.head.ratio *ℚ wait_coef Inbound j
  start_coef j = pick (eq_by_cmp cmp_ℚ a.head.ratio (number 0)) refl
    where
      pick : (b : Bool) → b ≡ eq_by_cmp cmp_ℚ a.head.ratio (number 0)
          → coef (sum_of a (root_box a) (record { row = first_out; by = number 1 } ∷ cond b [] (record { row = first_in; by = a.head.ratio } ∷ []))).coefs
          j ≡ wait_coef Outbound j +ℚ a.head.ratio *ℚ wait_coef Inbound j
      pick true e =
          sum_coef (number 1) (line a (wait_form a Outbound 1)).coefs [] j
          ∙ ring (lit (pos 1) ⊗ at 0 ⊕ lit (pos 0)) (at 0 ⊕ lit (pos 0) ⊗ at 1) (wait_coef Outbound j ∷ wait_coef Inbound j ∷ []) refl
          ∙ ap (λ r. wait_coef Outbound j +ℚ r *ℚ wait_coef Inbound j) (sym (eq_true a.head.ratio (number 0) e))
      pick false e =
          sum_coef (number 1) (line a (wait_form a Outbound 1)).coefs (add (scale a.head.ratio (line a (wait_form a Inbound 1)).coefs) []) j
          ∙ ap (λ y. number 1 *ℚ wait_coef Outbound j +ℚ y) (sum_coef a.head.ratio (line a (wait_form a Inbound 1)).coefs [] j)
          ∙ ring (lit (pos 1) ⊗ at 0 ⊕ (at 1 ⊗ at 2 ⊕ lit (pos 0))) (at 0 ⊕ at 1 ⊗ at 2) (wait_coef Outbound j ∷ a.head.ratio ∷ wait_coef Inbound j ∷ []) refl

  more_left : (x y : ℚ) → number 0 ≤ℚ y → x ≤ℚ (x +ℚ y)
  more_left x y h = linear (record { count = 1; low = lit (pos 0); high = at 1 } ∷ []) 0 (at 0) (at 0 ⊕ at 1) (x ∷ y ∷ []) (h, tt) refl

  more_right : (x y : ℚ) → number 0 ≤ℚ x → y ≤ℚ (x +ℚ y)
  more_right x y h = linear (record { count = 1; low = lit (pos 0); high = at 0 } ∷ []) 0 (at 1) (at 0 ⊕ at 1) (x ∷ y ∷ []) (h, tt) refl

  in_low : (j : ℕ) → number 0 ≤ℚ (a.head.ratio *ℚ wait_coef Inbound j)
  in_low j = product_not_negative _ _ (ratio_low a v) (wait_low Inbound j)

  goal_under : (j : ℕ) → goal_coef j ≤ℚ (wait_coef Outbound j +ℚ a.head.ratio *ℚ wait_coef Inbound j)
  goal_under zero = subst (λ y. y ≤ℚ (wait_coef Outbound 0 +ℚ a.head.ratio *ℚ wait_coef Inbound 0)) (out_first ∙ sym goal_first)
      (more_left (wait_coef Outbound 0) (a.head.ratio *ℚ wait_coef Inbound 0) (in_low 0))
  goal_under (suc zero) =
      subst (λ y. y ≤ℚ (wait_coef Outbound 1 +ℚ a.head.ratio *ℚ wait_coef Inbound 1))
      (ap (λ y. a.head.ratio *ℚ y) in_second ∙ ring (at 0 ⊗ lit (pos 1)) (at 0) (a.head.ratio ∷ []) refl ∙ sym goal_second)
      (more_right (wait_coef Outbound 1) (a.head.ratio *ℚ wait_coef Inbound 1) (wait_low Outbound 1))
  goal_under (suc (suc j)) =
      subst (λ y. y ≤ℚ (wait_coef Outbound (suc (suc j)) +ℚ a.head.ratio *ℚ wait_coef Inbound (suc (suc j)))) (sym (goal_rest (suc (suc j)) (omega arith)))
      (sum_not_negative _ _ (wait_low Outbound (suc (suc j))) (in_low (suc (suc j))))

  pub start_good : IsGoodStart a
  unfolding start_bound
  start_good = record {
    rows = start_rows;
    covers = record {
      coefs = λ j l. subst (λ y. goal_coef j ≤ℚ y) (sym (start_coef j)) (goal_under j);
      bound = ≤ℚ_refl _;
    };
  }
