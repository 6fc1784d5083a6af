-- The rule for the ratio of two numbers of ticks, by cases of the ratio, in shares of the cycle; both ways.
use Rattle.std.proofs.Common.{◌≡◌, ◌≢◌, ◌↔◌, ℕ, ◌<◌, pos, [], ◌∷◌, refl, sym, ◌∙◌, ap, subst, Less, Equal, Greater}
use Rattle.std.specs.Prelude.{if◌then◌else◌}
use Rattle.std.specs.Ordering.{is_lt}
use Rattle.rational_theory.specs.Rational.{ℚ, inverse_ℚ, ◌+ℚ◌, ◌-ℚ◌, ◌*ℚ◌, ◌/ℚ◌, ◌≤ℚ◌, ◌<ℚ◌}
use Rattle.rational_theory.proofs.Arithmetic.{*ℚ_comm, *ℚ_assoc}
use Rattle.rational_theory.proofs.Order.{≤ℚ_refl, ≤ℚ-*ℚ, <ℚ-≤ℚ, <ℚ_not-≤ℚ, above_not_zero, inverse_not_zero}
use Rattle.rational_theory.specs.Compare.{cmp_ℚ}
use Rattle.rational_theory.proofs.Compare.{ranked_ℚ}
use Rattle.rational_theory.proofs.Ring.{ring, at, lit, minus, ◌⊕◌, ◌⊗◌}
use Rattle.rational_theory.proofs.Linear.{linear, gap_not_negative}
use Rattle.rational_theory.proofs.Rows.{≤ℚ-left}
use Rattle.rational_theory.proofs.Shares.{≤ℚ_cancel}
use Rattle.progression.specs.Speeds.{number}
use Rattle.progression.specs.Street.{Street}
use Rattle.progression.specs.TimingRecord.{TimingRecord, base}
use Rattle.progression.specs.BaseRecord.{cycle}
use Rattle.progression.specs.Good.{Good, RatioHolds}
use Rattle.linear_theory.specs.Counts.{IsStreet}
use Rattle.linear_theory.proofs.Points.{share}
use Rattle.linear_theory.proofs.Shares.{cycle_above}
use Rattle.linear_theory.proofs.Ranges.{parts_above, unit_above}
use Rattle.linear_theory.proofs.Divided.{number_above, inverse_not_negative}

-- the difference of two numbers, one below the other, is not 0
apart : (x y : ℚ) → x <ℚ y → (y -ℚ x ≡ number 0) → ⊥
apart x y h e =
    let f : y ≡ x = ring (at 0) ((at 0 ⊕ minus (at 1)) ⊕ at 1) (y ∷ x ∷ []) refl ∙ ap (λ t. t +ℚ x) e ∙ ring (lit (pos 0) ⊕ at 0) (at 0) (x ∷ []) refl in
    <ℚ_not-≤ℚ x y h (rw f (≤ℚ_refl x))

-- an order of multiples by a number above 0
times : (x y k : ℚ) → number 0 ≤ℚ k → (k ≡ number 0 → ⊥) → (k *ℚ x) ≤ℚ (k *ℚ y) ↔ x ≤ℚ y
times x y k p n = (λ l. ≤ℚ_cancel x y k p n (rw (*ℚ_comm x k, *ℚ_comm y k) l), λ l. ≤ℚ-left k x y p l)

-- and over one
over_number : (x y : ℚ) (c : ℕ) → 0 < c → (x /ℚ number c) ≤ℚ (y /ℚ number c) ↔ x ≤ℚ y
over_number x y c h =
    let some = number_above c h in let not_negative = inverse_not_negative (number c) some in (
      λ l. ≤ℚ_cancel x y (inverse_ℚ (number c)) not_negative (inverse_not_zero (number c) (above_not_zero (number c) some)) l,
      λ l. ≤ℚ-*ℚ x y (inverse_ℚ (number c)) l not_negative,
    )

module _ (k : ℚ) (out back c : ℕ) (h : 0 < c) where
  -- where the ratio is below 1, the inbound ticks are at least the ratio times the outbound ones
  pub below_shares : k <ℚ number 1 → RatioHolds k out back ↔ ((k *ℚ (number out /ℚ number c)) ≤ℚ (number back /ℚ number c))
  below_shares w =
      let gap = times (k *ℚ number out) (number back) (number 1 -ℚ k) (gap_not_negative k (number 1) (<ℚ-≤ℚ _ _ w)) (apart k (number 1) w) in
      let over = over_number (k *ℚ number out) (number back) c h in (
        λ r. subst (λ x. x ≤ℚ (number back /ℚ number c)) (*ℚ_assoc k (number out) (inverse_ℚ (number c))) (over.1 (gap.0 r)),
        λ l. gap.1 (over.0 (subst (λ x. x ≤ℚ (number back /ℚ number c)) (sym (*ℚ_assoc k (number out) (inverse_ℚ (number c)))) l)),
      )

  -- turned round
  turned : RatioHolds k out back ↔ (((k -ℚ number 1) *ℚ number back) ≤ℚ ((k -ℚ number 1) *ℚ (k *ℚ number out)))
  turned =
      let values = k ∷ number out ∷ number back ∷ [] in (
        λ r. linear (record { count = 1; low = (lit (pos 1) ⊕ minus (at 0)) ⊗ (at 0 ⊗ at 1); high = (lit (pos 1) ⊕ minus (at 0)) ⊗ at 2 } ∷ []) 0
            ((at 0 ⊕ minus (lit (pos 1))) ⊗ at 2) ((at 0 ⊕ minus (lit (pos 1))) ⊗ (at 0 ⊗ at 1)) values (r, tt) refl,
        λ l. linear (record { count = 1; low = (at 0 ⊕ minus (lit (pos 1))) ⊗ at 2; high = (at 0 ⊕ minus (lit (pos 1))) ⊗ (at 0 ⊗ at 1) } ∷ []) 0
            ((lit (pos 1) ⊕ minus (at 0)) ⊗ (at 0 ⊗ at 1)) ((lit (pos 1) ⊕ minus (at 0)) ⊗ at 2) values (l, tt) refl,
      )

  -- where it is above 1, at most that
  pub above_shares : number 1 <ℚ k → RatioHolds k out back ↔ ((number back /ℚ number c) ≤ℚ (k *ℚ (number out /ℚ number c)))
  above_shares w =
      let gap = times (number back) (k *ℚ number out) (k -ℚ number 1) (gap_not_negative (number 1) k (<ℚ-≤ℚ _ _ w)) (apart (number 1) k w) in
      let over = over_number (number back) (k *ℚ number out) c h in (
        λ r. subst (λ x. (number back /ℚ number c) ≤ℚ x) (*ℚ_assoc k (number out) (inverse_ℚ (number c))) (over.1 (gap.0 (turned.0 r))),
        λ l. turned.1 (gap.1 (over.0 (subst (λ x. (number back /ℚ number c) ≤ℚ x) (sym (*ℚ_assoc k (number out) (inverse_ℚ (number c)))) l))),
      )

-- where it is 1, every two numbers keep it
pub at_one : (k : ℚ) (out back : ℕ) → k ≡ number 1 → RatioHolds k out back
at_one k out back e =
    rw e (linear [] 0 ((lit (pos 1) ⊕ minus (lit (pos 1))) ⊗ (lit (pos 1) ⊗ at 0)) ((lit (pos 1) ⊕ minus (lit (pos 1))) ⊗ at 1) (number out ∷ number back ∷ []) tt refl)

-- from what holds of the one of two that the ratio chooses, as rows, where it is not 1
module _ {X : Type 0} (k : ℚ) (out back : ℕ) (below above : X) (P : X → Type 0)
    (from_below : k <ℚ number 1 → P below → RatioHolds k out back) (from_above : number 1 <ℚ k → P above → RatioHolds k out back) where
  pub ratio_from : (k ≢ number 1 → P (if is_lt (cmp_ℚ k (number 1)) then below else above)) → RatioHolds k out back
  ratio_from m =
      elim (cmp_ℚ k (number 1)) as (λ o. o ≡ cmp_ℚ k (number 1) → (k ≢ number 1 → P (if is_lt o then below else above)) → RatioHolds k out back) [
        | Less ↦ λ e q. let w = ranked_ℚ k (number 1) Less e in from_below w (q (λ f. <ℚ_not-≤ℚ k (number 1) w (rw f (≤ℚ_refl (number 1)))))
        | Equal ↦ λ e q. at_one k out back (ranked_ℚ k (number 1) Equal e)
        | Greater ↦ λ e q. let w = ranked_ℚ k (number 1) Greater e in from_above w (q (λ f. <ℚ_not-≤ℚ (number 1) k w (rw f (≤ℚ_refl (number 1)))))
      ] refl m

-- ---- of the bands of a good timing
module _ (a : Street) (t : TimingRecord) (h : IsStreet a) (g : Good a t) where
  -- where the ratio is below 1
  pub ratio_below : a.head.ratio <ℚ number 1 → (a.head.ratio *ℚ share a t t.band_out) ≤ℚ share a t t.band_in
  ratio_below l = (below_shares a.head.ratio t.band_out t.band_in (cycle a (base t)) (cycle_above a t (parts_above a h) (unit_above a t g)) l).0 g.ratio

  -- where it is above 1
  pub ratio_above : number 1 <ℚ a.head.ratio → share a t t.band_in ≤ℚ (a.head.ratio *ℚ share a t t.band_out)
  ratio_above l = (above_shares a.head.ratio t.band_out t.band_in (cycle a (base t)) (cycle_above a t (parts_above a h) (unit_above a t g)) l).0 g.ratio
