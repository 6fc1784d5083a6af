-- The goal at the point of a link timing is its value.
use Rattle.std.proofs.Common.{◌≡◌, ℕ, zero, suc, pos, ◌-◌, List, [], ◌∷◌, ◌++◌, length, map, replicate, refl, sym, ◌∙◌, ap, ap₂, subst, arith}
use Rattle.std.specs.List.{sum}
use Rattle.std.proofs.lemmas.List.{length-map, length-replicate}
use Rattle.std.proofs.lemmas.List.Sums.{sum_by-cons}
use Rattle.rational_theory.specs.Rational.{ℚ, inverse_ℚ, ◌+ℚ◌, ◌*ℚ◌, ◌≤ℚ◌}
use Rattle.rational_theory.proofs.Order.{whole-+ℤ}
use Rattle.rational_theory.proofs.Ring.{ring, at, lit, ◌⊕◌, ◌⊗◌}
use Rattle.rational_theory.specs.Rows.{dot, AllNonNegative}
use Rattle.progression.specs.Street.{Street, count}
use Rattle.progression.specs.Speeds.{number}
use Rattle.progression.specs.TimingRecord.{TimingRecord, base}
use Rattle.progression.specs.BaseRecord.{cycle}
use Rattle.progression.specs.Columns.{point}
use Rattle.linear_theory.specs.Places.{width}
use Rattle.linear_theory.proofs.Points.{share, point_width}
use Rattle.linear_theory.proofs.Shares.{share_not_negative}
use Rattle.linear_theory.proofs.Ranges.{parts_above}
use Rattle.linear_theory.proofs.Bounds.{point_not_negative}
use Rattle.link_theory.specs.LinkRecord.{LinkRecord, lines}
use Rattle.link_theory.specs.GoodLinks.{GoodLinks}
use Rattle.link_theory.specs.BestLinks.{link_value}
use Rattle.linear_theory.specs.Counts.{IsStreet}
use Rattle.linear_theory.proofs.PlacedRows.{dot-append, dot-zeros}
use Rattle.link_theory.specs.LinkColumns.{link_point}
use Rattle.link_theory.specs.LinkRows.{link_goal}
use Rattle.link_theory.proofs.LinkPoints.{halves_out, halves_in}
use Rattle.link_theory.specs.Plain.{plain}
use Rattle.link_theory.proofs.PlainStreets.{same_point, plain_street}
use Rattle.link_theory.proofs.LinesAreGood.{good_lines}

-- ---- the same number at each of some ticks
dot_shares : (a : Street) (t : TimingRecord) (v : ℚ) (hs : List ℕ) (m : ℕ) → length hs ≡ m → dot (replicate m v) (map (share a t) hs) ≡ v *ℚ share a t (sum hs)
dot_shares a t v [] zero e = ring (lit (pos 0)) (at 0 ⊗ (lit (pos 0) ⊗ at 1)) (v ∷ inverse_ℚ (number (cycle a (base t))) ∷ []) refl
dot_shares a t v [] (suc m) e = absurd (omega arith)
dot_shares a t v (h ∷ hs) zero e = absurd (omega arith)
dot_shares a t v (h ∷ hs) (suc m) e =
    ap (λ s. v *ℚ share a t h +ℚ s) (dot_shares a t v hs m (omega arith))
    ∙ ring (at 0 ⊗ (at 1 ⊗ at 3) ⊕ at 0 ⊗ (at 2 ⊗ at 3)) (at 0 ⊗ ((at 1 ⊕ at 2) ⊗ at 3)) (v ∷ number h ∷ number (sum hs) ∷ inverse_ℚ (number (cycle a (base t))) ∷ []) refl
    ∙ ap (λ s. v *ℚ (s *ℚ inverse_ℚ (number (cycle a (base t))))) (sym (whole-+ℤ (pos h) (pos (sum hs))))
    ∙ ap (λ n. v *ℚ share a t n) (sym (sum_by-cons (λ (n : ℕ). n) h hs))

-- ---- signs
shares_of_ticks : (a : Street) (t : TimingRecord) → ((k : ℕ) → number 0 ≤ℚ share a t k) → (hs : List ℕ) → AllNonNegative (map (share a t) hs)
shares_of_ticks a t p [] = tt
shares_of_ticks a t p (h ∷ hs) = (p h, shares_of_ticks a t p hs)

joined_not_negative : (x y : List ℚ) → AllNonNegative x → AllNonNegative y → AllNonNegative (x ++ y)
joined_not_negative [] y p q = q
joined_not_negative (u ∷ x) y p q = (p.0, joined_not_negative x y p.1 q)

module _ (a : Street) (t : LinkRecord) (h : IsStreet a) (g : GoodLinks a t) where
  -- no column is below 0
  pub link_point_not_negative : AllNonNegative (link_point a t)
  link_point_not_negative =
      let p = g.formed.base in let u = p.unit in
      let some : (k : ℕ) → number 0 ≤ℚ share a (lines t) k = λ k. share_not_negative a (lines t) (parts_above a h) (omega arith) k in
      joined_not_negative (point a (lines t)) (map (share a (lines t)) t.half_out ++ map (share a (lines t)) t.half_in)
      (subst AllNonNegative (same_point a (lines t)) (point_not_negative (plain a) (lines t) (plain_street a h) (good_lines a t h g)))
      (joined_not_negative (map (share a (lines t)) t.half_out) (map (share a (lines t)) t.half_in) (shares_of_ticks a (lines t) some t.half_out) (shares_of_ticks a (lines t) some t.half_in))

  -- the goal at the point
  pub link_goal_value : dot (link_goal a) (link_point a t) ≡ link_value a t
  link_goal_value =
      let two = h.signals in
      let n = count a in let k = a.head.ratio in let p = lines t in
      dot-append (replicate (width n) (number 0)) _ (point a p) _ (length-replicate (width n) (number 0) ∙ sym (point_width a p (omega arith)))
      ∙ ap₂ (λ u v. u +ℚ v) (dot-zeros (width n) (point a p))
      (dot-append (replicate (n - 1) (number 2)) (replicate (n - 1) (number 2 *ℚ k)) (map (share a p) t.half_out) (map (share a p) t.half_in)
      (length-replicate (n - 1) (number 2) ∙ sym (length-map t.half_out (share a p) ∙ halves_out a t g.formed g.base.shape h.signals))
      ∙ ap₂ (λ u v. u +ℚ v) (dot_shares a p (number 2) t.half_out (n - 1) (halves_out a t g.formed g.base.shape h.signals))
      (dot_shares a p (number 2 *ℚ k) t.half_in (n - 1) (halves_in a t g.formed g.base.shape h.signals)))
      ∙ ring (lit (pos 0) ⊕ (lit (pos 2) ⊗ (at 0 ⊗ at 3) ⊕ (lit (pos 2) ⊗ at 1) ⊗ (at 2 ⊗ at 3))) ((lit (pos 2) ⊗ (at 0 ⊕ at 1 ⊗ at 2)) ⊗ at 3)
      (number (sum t.half_out) ∷ k ∷ number (sum t.half_in) ∷ inverse_ℚ (number (cycle a (base p))) ∷ []) refl
