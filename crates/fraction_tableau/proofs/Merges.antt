-- The steps of a merge and of a division: from one cell of the pivot's row to the next.
use Rattle.std.proofs.Common.{◌≡◌, ℕ, zero, suc, pos, Option, Some, None, List, ◌++◌, length, take, cond, eqb, ◌+◌, ◌<◌, ◌≤◌, ◌⊎◌, inl, inr, add-one, refl, sym, ◌∙◌, ap, ap₂, subst, arith}
use Rattle.std.proofs.lemmas.Bool.{cases_eq, cond-true, cond-false, eq-eqb, ne_eqb}
use Rattle.rational_theory.specs.Rational.{ℚ, whole, neg_ℚ, inverse_ℚ, ◌+ℚ◌, ◌*ℚ◌}
use Rattle.rational_theory.proofs.Arithmetic.{*ℚ-zero, +ℚ-zero, *ℚ_comm, neg-*ℚ}
use Rattle.std.proofs.lemmas.Int.{ints}
use Rattle.rational_theory.proofs.Order.{*ℚ-inverse}
use Rattle.rational_theory.proofs.Ring.{zero-*ℚ}
use Rattle.simplex_theory.specs.Lines.{divided, cleared}
use Rattle.simplex_theory.proofs.Lines.{divided_at, divided_other, cleared_at, cleared_other}
use Rattle.narrow_fraction.specs.Fraction.{FitsFrac}
use Rattle.narrow_fraction.specs.Attempt.{earlier, first_below}
use Rattle.narrow_fraction.proofs.Attempt.{first_next}
use Rattle.narrow_fraction.proofs.Zeros.{zero_fits}
use Rattle.narrow_fraction.specs.declared.wide.Op.TheVariants.{Mul, Div, Sub}
use Rattle.fraction_tableau.specs.Narrow.{IsNarrow}
use Rattle.fraction_tableau.specs.Refusals.{refused, divide_at, divide_refusal, clear_at, clear_refusal}
use Rattle.fraction_tableau.specs.declared.kept.Kept.{Kept}
use Rattle.fraction_tableau.specs.declared.wide_cell.WideCell.{WideCell}
use Rattle.fraction_tableau.specs.KeptCells.{number_in, kept_at, kept_below, divided_cell, merged_at, IsMerged}
use Rattle.fraction_tableau.proofs.Zeros.{negated_zero, zero_quotient, zero_cell}
use Rattle.fraction_tableau.proofs.KeptCells.{IsNext, last_or_before, at_most_one, kept_more, step_count, step_kept, zeros_skip, same_count}

pub pass_none : {E : Type 0} (g : ℕ → Option E) (n p : ℕ) → n ≤ p → first_below g n ≡ None → ((m : ℕ) → n ≤ m → m < p → g m ≡ None) → first_below g p ≡ None
pass_none g n zero h e z = let q : 0 ≡ n = omega arith in ap (first_below g) q ∙ e
pass_none {E = E} g n (suc p) h e z = pick (last_or_before n p h) (λ q. pass_none g n p q e (λ m a b. z m a (omega arith)))
  where
    pick : (n ≡ suc p) ⊎ (n ≤ p) → (n ≤ p → first_below g p ≡ None) → first_below g (suc p) ≡ None
    pick (inl q) f = ap (first_below g) (sym q) ∙ e
    pick (inr q) f = ap₂ earlier (f q) (z p q (omega arith))

sides : (m n : ℕ) → (m < n) ⊎ (n ≤ m)
sides m n = grind arith

-- ---- merging
-- where the divided row has 0, and not at the pivot's place, the row's number stays
pub quiet_number : (j : ℕ) (v : ℚ) (e d : List ℚ) (m : ℕ) → number_in e m ≡ whole (pos 0) → (number_in e j ≡ whole (pos 0) → ⊥) → merged_at j v e d m ≡ number_in d m
quiet_number j v e d m z n =
    cond-false (eqb m j) v _ (ne_eqb m j (λ q. n (ap (number_in e) (sym q) ∙ z)))
    ∙ ap (λ t. number_in d m +ℚ neg_ℚ (number_in d j *ℚ t)) z ∙ ap (λ t. number_in d m +ℚ neg_ℚ t) (*ℚ-zero (number_in d j)) ∙ ap (λ t. number_in d m +ℚ t) negated_zero ∙ +ℚ-zero (number_in d m)

quiet_refusal : (i j : ℕ) (e d : List ℚ) (m : ℕ) → IsNarrow d → number_in e m ≡ whole (pos 0) → clear_at i j e d m ≡ None
quiet_refusal i j e d m n z = zero_cell i j (number_in d j) (number_in e m) d m n (ap (λ t. number_in d j *ℚ t) z ∙ *ℚ-zero (number_in d j))

pub merge_passed : (i j : ℕ) (e d : List ℚ) (n p : ℕ) → IsNarrow d → n ≤ p → first_below (clear_at i j e d) n ≡ None → ((m : ℕ) → n ≤ m → m < p → number_in e m ≡ whole (pos 0))
    → first_below (clear_at i j e d) p ≡ None
merge_passed i j e d n p s h f z = pass_none (clear_at i j e d) n p h f (λ m a b. quiet_refusal i j e d m s (z m a b))

pub merge_fits : (j : ℕ) (v : ℚ) (e d : List ℚ) (n p : ℕ) → IsNarrow d → (number_in e j ≡ whole (pos 0) → ⊥) → ((m : ℕ) → m < n → FitsFrac (merged_at j v e d m))
    → ((m : ℕ) → n ≤ m → m < p → number_in e m ≡ whole (pos 0))
    → (m : ℕ) → m < p → FitsFrac (merged_at j v e d m)
merge_fits j v e d n p s o f z m h = pick (sides m n)
  where
    pick : (m < n) ⊎ (n ≤ m) → FitsFrac (merged_at j v e d m)
    pick (inl a) = f m a
    pick (inr a) = subst FitsFrac (sym (quiet_number j v e d m (z m a h) o)) (s.fits m)

-- the operations and the new number at a place, from what stands there
pub same_refusal : (i j : ℕ) (e d : List ℚ) (k : Kept) (x f : ℚ) → f ≡ number_in d j → number_in e k.place ≡ k.cell → x ≡ number_in d k.place
    → cond (eqb k.place j) None (earlier (refused Mul f k.cell i k.place) (refused Sub x (f *ℚ k.cell) i k.place)) ≡ clear_at i j e d k.place
same_refusal i j e d k x f a b c = rw (a, ← b, c) refl

pub same_number : (j : ℕ) (v : ℚ) (e d : List ℚ) (k : Kept) (x f : ℚ) → f ≡ number_in d j → number_in e k.place ≡ k.cell → x ≡ number_in d k.place
    → cond (eqb k.place j) v (x +ℚ neg_ℚ (f *ℚ k.cell)) ≡ merged_at j v e d k.place
same_number j v e d k x f a b c = rw (a, ← b, c) refl

pub below_next : (m k : ℕ) → m < k + 1 → (m ≡ k) ⊎ (m < k)
below_next m k l = grind arith

pub merge_next_is : (i j : ℕ) (v : ℚ) (e d : List ℚ) (now new : List Kept) (taken made put marks : ℕ) (k : Kept) (x : ℚ) → length new ≡ length now
    → k.place < length now → taken ≡ length (kept_below (number_in d) (k.place + 1)) → made ≤ k.place
    → take made now ≡ kept_below (merged_at j v e d) k.place → x ≡ merged_at j v e d k.place → put ≡ made + length (kept_at k.place x) → take put new ≡ take made now ++ kept_at k.place x
    → first_below (clear_at i j e d) k.place ≡ None → clear_at i j e d k.place ≡ None → ((m : ℕ) → m < k.place → FitsFrac (merged_at j v e d m)) → FitsFrac x
    → IsMerged i j v e d new (record { below = k.place + 1; taken = taken; made = put; marks = marks })
merge_next_is i j v e d now new taken made put marks k x n h t l c q a b f g s u =
    let o = at_most_one k.place x in
    record {
      inside = omega arith;
      taken = t;
      made = omega arith;
      merged = b ∙ ap₂ (λ y z. y ++ z) c (ap (kept_at k.place) q) ∙ sym (kept_more (merged_at j v e d) k.place);
      passed = first_next (clear_at i j e d) k.place f g;
      fits = λ m r. pick m (below_next m k.place r);
    }
  where
    pick : (m : ℕ) → (m ≡ k.place) ⊎ (m < k.place) → FitsFrac (merged_at j v e d m)
    pick m (inl r) = rw r (subst FitsFrac q u)
    pick m (inr r) = s m r

-- ---- dividing
pub record Dividing (i j : ℕ) (v : ℚ) (c : List ℚ) (w : ℕ) (now : List Kept) (index made : ℕ) : Type 0 where
  pub at : ℕ
  pub inside : at ≤ w
  pub kept : length now ≡ w
  pub count : index ≡ length (kept_below (number_in c) at)
  pub fewer : made ≤ at
  pub cells : take made now ≡ kept_below (divided_cell j v c) at
  pub passed : first_below (divide_at i j c) at ≡ None
  pub fits : (m : ℕ) → m < at → FitsFrac (divided_cell j v c m)

idle_number : (j : ℕ) (v : ℚ) (c : List ℚ) (m : ℕ) → number_in c m ≡ whole (pos 0) → (number_in c j ≡ whole (pos 0) → ⊥) → divided_cell j v c m ≡ whole (pos 0)
idle_number j v c m z n =
    cond-false (eqb m j) v _ (ne_eqb m j (λ q. n (ap (number_in c) (sym q) ∙ z))) ∙ ap (λ t. t *ℚ inverse_ℚ (number_in c j)) z ∙ zero-*ℚ (inverse_ℚ (number_in c j))

idle_refusal : (i j : ℕ) (c : List ℚ) (m : ℕ) → number_in c m ≡ whole (pos 0) → divide_at i j c m ≡ None
idle_refusal i j c m z = pick (cases_eq m j)
  where
    pick : (m ≡ j) ⊎ (m ≡ j → ⊥) → divide_at i j c m ≡ None
    pick (inl q) = cond-true (eqb m j) None _ (eq-eqb m j q)
    pick (inr q) = cond-false (eqb m j) None _ (ne_eqb m j q) ∙ ap (λ t. refused Div t (number_in c j) i m) z ∙ zero_quotient (number_in c j) i m

idle_fits : (j : ℕ) (v : ℚ) (c : List ℚ) (n p : ℕ) → (number_in c j ≡ whole (pos 0) → ⊥) → ((m : ℕ) → m < n → FitsFrac (divided_cell j v c m))
    → ((m : ℕ) → n ≤ m → m < p → number_in c m ≡ whole (pos 0))
    → (m : ℕ) → m < p → FitsFrac (divided_cell j v c m)
idle_fits j v c n p o f z m h = pick (sides m n)
  where
    pick : (m < n) ⊎ (n ≤ m) → FitsFrac (divided_cell j v c m)
    pick (inl a) = f m a
    pick (inr a) = subst FitsFrac (sym (idle_number j v c m (z m a h) o)) zero_fits

pub dividing_past : (i j : ℕ) (v : ℚ) (c : List ℚ) (w : ℕ) (now : List Kept) (index made : ℕ) (k : Kept) → (t : Dividing i j v c w now index made)
    → IsNext (number_in c) t.at w k → first_below (divide_at i j c) k.place ≡ None
dividing_past i j v c w now index made k t n = pass_none (divide_at i j c) t.at k.place n.after t.passed (λ m a b. idle_refusal i j c m (n.zeros m a b))

pub record IsDivided (i j : ℕ) (v : ℚ) (c : List ℚ) (w : ℕ) (now : List Kept) (made : ℕ) : Type 0 where
  pub cells : take made now ≡ kept_below (divided_cell j v c) w
  pub passed : first_below (divide_at i j c) w ≡ None
  pub fits : (m : ℕ) → m < w → FitsFrac (divided_cell j v c m)

pub dividing_end : (i j : ℕ) (v : ℚ) (c : List ℚ) (w : ℕ) (now : List Kept) (index made : ℕ) → (number_in c j ≡ whole (pos 0) → ⊥) → (t : Dividing i j v c w now index made)
    → length (kept_below (number_in c) w) ≤ index → IsDivided i j v c w now made
dividing_end i j v c w now index made o t h =
    let u = t.count in
    let z = same_count (number_in c) t.at w t.inside (omega arith) in
    record {
      cells = t.cells ∙ sym (zeros_skip (divided_cell j v c) t.at w t.inside (λ m a b. idle_number j v c m (z m a b) o));
      passed = pass_none (divide_at i j c) t.at w t.inside t.passed (λ m a b. idle_refusal i j c m (z m a b));
      fits = idle_fits j v c t.at w o t.fits z;
    }

pub divide_refusal_same : (i j : ℕ) (c : List ℚ) (k : Kept) (p : ℚ) → p ≡ number_in c j → number_in c k.place ≡ k.cell
    → cond (eqb k.place j) None (refused Div k.cell p i k.place) ≡ divide_at i j c k.place
divide_refusal_same i j c k p a b = rw (a, ← b) refl

pub divide_number_same : (j : ℕ) (v : ℚ) (c : List ℚ) (k : Kept) (p : ℚ) → p ≡ number_in c j → number_in c k.place ≡ k.cell
    → cond (eqb k.place j) v (k.cell *ℚ inverse_ℚ p) ≡ divided_cell j v c k.place
divide_number_same j v c k p a b = rw (a, ← b) refl

pub dividing_next : (i j : ℕ) (v : ℚ) (c : List ℚ) (w : ℕ) (now new : List Kept) (index made put : ℕ) (k : Kept) (x : ℚ) → (number_in c j ≡ whole (pos 0) → ⊥)
    → (t : Dividing i j v c w now index made) → IsNext (number_in c) t.at w k → length new ≡ length now
    → x ≡ divided_cell j v c k.place → put ≡ made + length (kept_at k.place x) → take put new ≡ take made now ++ kept_at k.place x → divide_at i j c k.place ≡ None
    → FitsFrac x → Dividing i j v c w new (index + 1) put
dividing_next i j v c w now new index made put k x o t n h q a b g u =
    let l = n.inside in
    let s = n.after in
    let y = t.fewer in
    let z = at_most_one k.place x in
    let zeros : (m : ℕ) → t.at ≤ m → m < k.place → divided_cell j v c m ≡ whole (pos 0) = λ m d f. idle_number j v c m (n.zeros m d f) o in
    record {
      at = k.place + 1;
      inside = omega arith;
      kept = h ∙ t.kept;
      count = ap (λ r. r + 1) t.count ∙ sym (step_count (number_in c) t.at w k n);
      fewer = omega arith;
      cells = b ∙ ap₂ (λ d f. d ++ f) t.cells (ap (kept_at k.place) q) ∙ sym (step_kept (divided_cell j v c) t.at k.place s zeros);
      passed = first_next (divide_at i j c) k.place (pass_none (divide_at i j c) t.at k.place s t.passed (λ m d f. idle_refusal i j c m (n.zeros m d f))) g;
      fits = λ m r. pick m (below_next m k.place r);
    }
  where
    pick : (m : ℕ) → (m ≡ k.place) ⊎ (m < k.place) → FitsFrac (divided_cell j v c m)
    pick m (inl r) = rw r (subst FitsFrac q u)
    pick m (inr r) = idle_fits j v c t.at k.place o t.fits n.zeros m r

-- ---- the bound, which comes last
bound_below : {E : Type 0} (g : ℕ → Option E) (n w : ℕ) → n ≡ w + 1 → first_below g n ≡ earlier (first_below g w) (g w)
bound_below g n w e = ap (first_below g) (e ∙ add-one w)

pub divide_stopped : (i j : ℕ) (c : List ℚ) (w : ℕ) (o p : ℚ) (x : WideCell) → length c ≡ w + 1 → o ≡ whole (pos 1) → p ≡ number_in c j → refused Div o p i j ≡ None
    → first_below (divide_at i j c) w ≡ Some x → divide_refusal i j c ≡ Some x
unfolding divide_refusal
divide_stopped i j c w o p x l a b f g =
    ap₂ earlier (ap₂ (λ s t. refused Div s t i j) (sym a) (sym b) ∙ f) (bound_below (divide_at i j c) (length c) w l ∙ ap (λ s. earlier s (divide_at i j c w)) g)

pub divide_ended : (i j : ℕ) (c : List ℚ) (w : ℕ) (o p b : ℚ) → length c ≡ w + 1 → j < w → o ≡ whole (pos 1) → p ≡ number_in c j → b ≡ number_in c w
    → refused Div o p i j ≡ None → first_below (divide_at i j c) w ≡ None
    → divide_refusal i j c ≡ refused Div b p i w
unfolding divide_refusal
divide_ended i j c w o p b l h a e d f g =
    ap₂ earlier (ap₂ (λ s t. refused Div s t i j) (sym a) (sym e) ∙ f)
    (bound_below (divide_at i j c) (length c) w l ∙ ap (λ s. earlier s (divide_at i j c w)) g
    ∙ cond-false (eqb w j) None (refused Div (number_in c w) (number_in c j) i w) (ne_eqb w j (λ q. absurd (omega arith)))
    ∙ ap₂ (λ s t. refused Div s t i w) (sym d) (sym e))

pub clear_stopped : (i j : ℕ) (e d : List ℚ) (p : ℚ) (w : ℕ) (x : WideCell) → length d ≡ w + 1 → first_below (clear_at i j e d) w ≡ Some x → clear_refusal i j e d p ≡ Some x
unfolding clear_refusal
clear_stopped i j e d p w x l g =
    ap (λ s. earlier s (refused Div (number_in d j) p i j)) (bound_below (clear_at i j e d) (length d) w l ∙ ap (λ s. earlier s (clear_at i j e d w)) g)

bound_refusal : (i j : ℕ) (e d : List ℚ) (w : ℕ) (f x y : ℚ) → j < w → f ≡ number_in d j → x ≡ number_in d w → y ≡ number_in e w
    → clear_at i j e d w ≡ earlier (refused Mul f y i w) (refused Sub x (f *ℚ y) i w)
bound_refusal i j e d w f x y h a b c =
    cond-false (eqb w j) None (earlier (refused Mul (number_in d j) (number_in e w) i w) (refused Sub (number_in d w) (number_in d j *ℚ number_in e w) i w)) (ne_eqb w j (λ q. absurd (omega arith)))
    ∙ rw (a, b, c) refl

pub clear_bound : (i j : ℕ) (e d : List ℚ) (p : ℚ) (w : ℕ) (f x y : ℚ) (r : WideCell) → length d ≡ w + 1 → j < w → f ≡ number_in d j → x ≡ number_in d w
    → y ≡ number_in e w → first_below (clear_at i j e d) w ≡ None
    → earlier (refused Mul f y i w) (refused Sub x (f *ℚ y) i w) ≡ Some r → clear_refusal i j e d p ≡ Some r
unfolding clear_refusal
clear_bound i j e d p w f x y r l h a b c g q =
    ap (λ s. earlier s (refused Div (number_in d j) p i j)) (bound_below (clear_at i j e d) (length d) w l ∙ ap₂ earlier g (bound_refusal i j e d w f x y h a b c ∙ q))

pub clear_ended : (i j : ℕ) (e d : List ℚ) (p : ℚ) (w : ℕ) (f x y : ℚ) → length d ≡ w + 1 → j < w → f ≡ number_in d j → x ≡ number_in d w → y ≡ number_in e w → first_below (clear_at i j e d) w ≡ None
    → earlier (refused Mul f y i w) (refused Sub x (f *ℚ y) i w) ≡ None → clear_refusal i j e d p ≡ refused Div f p i j
unfolding clear_refusal
clear_ended i j e d p w f x y l h a b c g q =
    ap₂ earlier (bound_below (clear_at i j e d) (length d) w l ∙ ap₂ earlier g (bound_refusal i j e d w f x y h a b c ∙ q)) (ap (λ s. refused Div s p i j) (sym a))

-- ---- the numbers are those of the divided row, and of the cleared one
pub divided_number : (j : ℕ) (v : ℚ) (c : List ℚ) (m : ℕ) → j < length c → v ≡ inverse_ℚ (number_in c j) → divided_cell j v c m ≡ number_in (divided j c) m
divided_number j v c m h e = pick (cases_eq m j)
  where
    pick : (m ≡ j) ⊎ (m ≡ j → ⊥) → divided_cell j v c m ≡ number_in (divided j c) m
    pick (inl q) = cond-true (eqb m j) v _ (eq-eqb m j q) ∙ e ∙ sym (ap (number_in (divided j c)) q ∙ divided_at j c h)
    pick (inr q) = cond-false (eqb m j) v _ (ne_eqb m j q) ∙ *ℚ_comm _ _ ∙ sym (divided_other j m c q)

pub divided_last : (j w : ℕ) (c : List ℚ) (x b p : ℚ) → j < w → p ≡ number_in c j → b ≡ number_in c w → x ≡ b *ℚ inverse_ℚ p → x ≡ number_in (divided j c) w
divided_last j w c x b p h a d e = e ∙ ap₂ (λ s t. s *ℚ inverse_ℚ t) d a ∙ *ℚ_comm _ _ ∙ sym (divided_other j w c (λ q. absurd (omega arith)))

cleared_others : (j m : ℕ) (e d : List ℚ) → (m ≡ j → ⊥) → number_in d m +ℚ neg_ℚ (number_in d j *ℚ number_in e m) ≡ number_in (cleared j e d) m
cleared_others j m e d q = ap (λ t. number_in d m +ℚ t) (sym (neg-*ℚ _ _)) ∙ sym (cleared_other j m e d q)

pub cleared_is : (j : ℕ) (v p : ℚ) (e d : List ℚ) (m : ℕ) → j < length d → number_in e j ≡ inverse_ℚ p → v ≡ neg_ℚ (number_in d j *ℚ inverse_ℚ p) → merged_at j v e d m ≡ number_in (cleared j e d) m
cleared_is j v p e d m h o w = pick (cases_eq m j)
  where
    pick : (m ≡ j) ⊎ (m ≡ j → ⊥) → merged_at j v e d m ≡ number_in (cleared j e d) m
    pick (inl q) =
        cond-true (eqb m j) v _ (eq-eqb m j q) ∙ w ∙ sym (neg-*ℚ _ _) ∙ ap (λ t. neg_ℚ (number_in d j) *ℚ t) (sym o)
        ∙ sym (ap (number_in (cleared j e d)) q ∙ cleared_at j e d h)
    pick (inr q) = cond-false (eqb m j) v _ (ne_eqb m j q) ∙ cleared_others j m e d q

pub cleared_last : (j w : ℕ) (e d : List ℚ) (z f x y : ℚ) → j < w → f ≡ number_in d j → x ≡ number_in d w → y ≡ number_in e w → z ≡ x +ℚ neg_ℚ (f *ℚ y) → z ≡ number_in (cleared j e d) w
cleared_last j w e d z f x y h a b c q = q ∙ rw (a, b, c) refl ∙ cleared_others j w e d (λ r. absurd (omega arith))

one_not_zero : whole (pos 1) ≡ whole (pos 0) → ⊥
unfolding whole
one_not_zero e = let q = ap (λ x. x.num) e in omega (arith, ints, q)

pub inverse_some : (p : ℚ) → (p ≡ whole (pos 0) → ⊥) → inverse_ℚ p ≡ whole (pos 0) → ⊥
inverse_some p n e = one_not_zero (sym (*ℚ-inverse p n) ∙ ap (λ t. p *ℚ t) e ∙ *ℚ-zero p)
