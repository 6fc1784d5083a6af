-- The law of each family of links: the point of a good link timing of the box meets the row. And back: where a point meets the rows of
-- an end, the band is green there.
use Rattle.std.proofs.Common.{◌≡◌, ◌≢◌, ◌↔◌, ℕ, ◌<◌, ◌≤◌, [], ◌∷◌, length, refl, arith, true, false}
use Rattle.std.specs.Prelude.{if◌then◌else◌}
use Rattle.std.specs.Ordering.{is_lt}
use Rattle.rational_theory.specs.Rational.{ℚ, neg_ℚ, ◌+ℚ◌, ◌*ℚ◌, ◌≤ℚ◌}
use Rattle.rational_theory.proofs.Order.{≤ℚ_antisymm, not-≤ℚ}
use Rattle.rational_theory.specs.Compare.{cmp_ℚ}
use Rattle.rational_theory.proofs.Compare.{lt_true, lt_false}
use Rattle.rational_theory.proofs.Ring.{at, minus, ◌⊕◌, ◌⊗◌}
use Rattle.rational_theory.proofs.Linear.{linear}
use Rattle.rational_theory.specs.Rows.{IsMet}
use Rattle.progression.specs.Street.{Street, count, HasLink}
use Rattle.progression.specs.TimingRecord.{base}
use Rattle.progression.specs.Speeds.{number}
use Rattle.progression.specs.BaseRecord.{cycle}
use Rattle.progression.specs.Good.{RatioHolds}
use Rattle.progression.specs.Columns.{WaitOf, wait}
use Rattle.progression.specs.declared.parts.Dir.{Dir}
use Rattle.progression.specs.declared.parts.Dir.TheVariants.{Outbound, Inbound}
use Rattle.linear_theory.specs.Places.{place}
use Rattle.linear_theory.specs.Blocks.{green_part}
use Rattle.linear_theory.specs.Rows.{minus_one}
use Rattle.linear_theory.proofs.Terms.{one, less_one, zero_term, fact}
use Rattle.linear_theory.proofs.Points.{share}
use Rattle.link_theory.specs.LinkRecord.{LinkRecord, IsLinkRecord, link_base, lines, half}
use Rattle.link_theory.specs.GoodLinks.{GoodLinks, IsGreenAround}
use Rattle.linear_theory.specs.Counts.{IsStreet}
use Rattle.linear_theory.proofs.PlacedRows.{Rises, cells_sum, placed_met, met_placed}
use Rattle.link_theory.specs.LinkColumns.{link_width, half_place, link_point}
use Rattle.link_theory.specs.declared.ends.LinkEnd.{LinkEnd}
use Rattle.link_theory.specs.LinkRows.{signal_at, end_cells, half_cells, link_line, near_form, far_form, link_below_form, link_above_form, link_ratio_form}
use Rattle.link_theory.proofs.LinkPoints.{line_column_at, half_at}
use Rattle.link_theory.proofs.LinkTicks.{end_there, some_cycle, around_shares, green_end}
use Rattle.linear_theory.proofs.Ratios.{below_shares, above_shares, ratio_from}

-- ---- the columns stand in order
end_rises_by : (n : ℕ) (d : Dir) (s i : ℕ) (u v : ℚ) → (1 ≤ s) × (s ≤ n) → (1 ≤ i) × (i < n) → Rises (link_width n) 0 ((place n (WaitOf d s), u) ∷ (half_place n d i, v) ∷ [])
end_rises_by n Outbound s i u v h k = let p = h.0 in let q = h.1 in let l = k.0 in let m = k.1 in (omega arith, omega arith, (omega arith, omega arith, tt))
end_rises_by n Inbound s i u v h k = let p = h.0 in let q = h.1 in let l = k.0 in let m = k.1 in (omega arith, omega arith, (omega arith, omega arith, tt))

pub end_rises : (a : Street) (d : Dir) (e : LinkEnd) (i : ℕ) (u v : ℚ) → HasLink a i → Rises (link_width (count a)) 0 (end_cells a d e i u v)
end_rises a d e i u v k = end_rises_by (count a) d (signal_at e i) i u v (end_there a e i k) k

halves_rise_by : (n i : ℕ) (u v : ℚ) → (1 ≤ i) × (i < n) → Rises (link_width n) 0 ((half_place n Outbound i, u) ∷ (half_place n Inbound i, v) ∷ [])
halves_rise_by n i u v k = let l = k.0 in let m = k.1 in (omega arith, omega arith, (omega arith, omega arith, tt))

pub halves_rise : (a : Street) (i : ℕ) (u v : ℚ) → HasLink a i → Rises (link_width (count a)) 0 (half_cells a i u v)
halves_rise a i u v k = halves_rise_by (count a) i u v k

module _ (a : Street) (t : LinkRecord) (h : IsStreet a) (p : IsLinkRecord t) (s : length t.patterns ≡ count a) where
  -- ---- an end of a link
  module _ (d : Dir) (e : LinkEnd) (i : ℕ) (k : HasLink a i) where
    -- the sum of the end's rows at the point
    end_sum : (u v : ℚ) → cells_sum (link_point a t) (end_cells a d e i u v)
        ≡ u *ℚ share a (lines t) (wait a (lines t) d (signal_at e i)) +ℚ (v *ℚ share a (lines t) (half t d i) +ℚ number 0)
    end_sum u v = rw (line_column_at a t p s h.signals (WaitOf d (signal_at e i)) (end_there a e i k), half_at a t p s h.signals d i k) refl

    abbrev wait_share : ℚ
    wait_share = share a (lines t) (wait a (lines t) d (signal_at e i))

    abbrev half_share : ℚ
    half_share = share a (lines t) (half t d i)

    near_rule : IsMet (link_point a t) (link_line a (near_form a d e i)) ↔ (half_share ≤ℚ wait_share)
    near_rule =
        let r = end_rises a d e i minus_one (number 1) k in (
          λ m. linear (record { count = 1; low = less_one ⊗ at 0 ⊕ (one ⊗ at 1 ⊕ zero_term); high = zero_term } ∷ []) 0 (at 1) (at 0) (wait_share ∷ half_share ∷ [])
              (rw (← (end_sum minus_one (number 1))) (met_placed (link_width (count a)) (end_cells a d e i minus_one (number 1)) (number 0) (link_point a t) r m), tt) refl,
          λ l. placed_met (link_width (count a)) (end_cells a d e i minus_one (number 1)) (number 0) (link_point a t) r
              (rw (end_sum minus_one (number 1)) (linear (fact 1 0 ∷ []) 0 (less_one ⊗ at 0 ⊕ (one ⊗ at 1 ⊕ zero_term)) zero_term (wait_share ∷ half_share ∷ []) (l, tt) refl)),
        )

    far_rule : IsMet (link_point a t) (link_line a (far_form a d e i)) ↔ ((wait_share +ℚ half_share) ≤ℚ green_part a d (signal_at e i))
    far_rule =
        let r = end_rises a d e i (number 1) (number 1) k in let green = green_part a d (signal_at e i) in (
          λ m. linear (record { count = 1; low = one ⊗ at 0 ⊕ (one ⊗ at 1 ⊕ zero_term); high = at 2 } ∷ []) 0 (at 0 ⊕ at 1) (at 2) (wait_share ∷ half_share ∷ green ∷ [])
              (rw (← (end_sum (number 1) (number 1))) (met_placed (link_width (count a)) (end_cells a d e i (number 1) (number 1)) green (link_point a t) r m), tt) refl,
          λ l. placed_met (link_width (count a)) (end_cells a d e i (number 1) (number 1)) green (link_point a t) r
              (rw (end_sum (number 1) (number 1))
              (linear (record { count = 1; low = at 0 ⊕ at 1; high = at 2 } ∷ []) 0 (one ⊗ at 0 ⊕ (one ⊗ at 1 ⊕ zero_term)) (at 2) (wait_share ∷ half_share ∷ green ∷ []) (l, tt) refl)),
        )

    -- the band is green at the end exactly where the point meets the end's two rows
    pub end_law : IsGreenAround a t d (signal_at e i) (half t d i) ↔ (IsMet (link_point a t) (link_line a (near_form a d e i)) × IsMet (link_point a t) (link_line a (far_form a d e i)))
    end_law =
        let w = around_shares a t h p.base.unit d (signal_at e i) (half t d i) (end_there a e i k) in (
          λ g. let m = w.0 g in (near_rule.1 m.0, far_rule.1 m.1),
          λ m. w.1 (near_rule.0 m.0, far_rule.0 m.1),
        )

  -- ---- the ratio
  module _ (i : ℕ) (k : HasLink a i) where
    ratio_sum : (u v : ℚ) → cells_sum (link_point a t) (half_cells a i u v)
        ≡ u *ℚ share a (lines t) (half t Outbound i) +ℚ (v *ℚ share a (lines t) (half t Inbound i) +ℚ number 0)
    ratio_sum u v = rw (half_at a t p s h.signals Outbound i k, half_at a t p s h.signals Inbound i k) refl

    abbrev out_share : ℚ
    out_share = share a (lines t) (half t Outbound i)

    abbrev in_share : ℚ
    in_share = share a (lines t) (half t Inbound i)

    below_rule : IsMet (link_point a t) (link_line a (link_below_form a i)) ↔ ((a.head.ratio *ℚ out_share) ≤ℚ in_share)
    below_rule =
        let r = halves_rise a i a.head.ratio minus_one k in (
          λ m. linear (record { count = 1; low = at 0 ⊗ at 1 ⊕ (less_one ⊗ at 2 ⊕ zero_term); high = zero_term } ∷ []) 0 (at 0 ⊗ at 1) (at 2) (a.head.ratio ∷ out_share ∷ in_share ∷ [])
              (rw (← (ratio_sum a.head.ratio minus_one)) (met_placed (link_width (count a)) (half_cells a i a.head.ratio minus_one) (number 0) (link_point a t) r m), tt) refl,
          λ l. placed_met (link_width (count a)) (half_cells a i a.head.ratio minus_one) (number 0) (link_point a t) r
              (rw (ratio_sum a.head.ratio minus_one)
              (linear (record { count = 1; low = at 0 ⊗ at 1; high = at 2 } ∷ []) 0 (at 0 ⊗ at 1 ⊕ (less_one ⊗ at 2 ⊕ zero_term)) zero_term (a.head.ratio ∷ out_share ∷ in_share ∷ []) (l, tt) refl)),
        )

    above_rule : IsMet (link_point a t) (link_line a (link_above_form a i)) ↔ (in_share ≤ℚ (a.head.ratio *ℚ out_share))
    above_rule =
        let r = halves_rise a i (neg_ℚ a.head.ratio) (number 1) k in (
          λ m. linear (record { count = 1; low = minus (at 0) ⊗ at 1 ⊕ (one ⊗ at 2 ⊕ zero_term); high = zero_term } ∷ []) 0 (at 2) (at 0 ⊗ at 1) (a.head.ratio ∷ out_share ∷ in_share ∷ [])
              (rw (← (ratio_sum (neg_ℚ a.head.ratio) (number 1))) (met_placed (link_width (count a)) (half_cells a i (neg_ℚ a.head.ratio) (number 1)) (number 0) (link_point a t) r m), tt) refl,
          λ l. placed_met (link_width (count a)) (half_cells a i (neg_ℚ a.head.ratio) (number 1)) (number 0) (link_point a t) r
              (rw (ratio_sum (neg_ℚ a.head.ratio) (number 1))
              (linear (record { count = 1; low = at 2; high = at 0 ⊗ at 1 } ∷ []) 0 (minus (at 0) ⊗ at 1 ⊕ (one ⊗ at 2 ⊕ zero_term)) zero_term
              (a.head.ratio ∷ out_share ∷ in_share ∷ []) (l, tt) refl)),
        )

    -- the halves keep the rule of the ratio exactly where the point meets its row, if there is one
    pub link_ratio_law : RatioHolds a.head.ratio (half t Outbound i) (half t Inbound i) ↔ (a.head.ratio ≢ number 1 → IsMet (link_point a t) (link_line a (link_ratio_form a i)))
    link_ratio_law =
        let c = some_cycle a t h p.base.unit in (
          λ r n. elim (is_lt (cmp_ℚ a.head.ratio (number 1))) as (λ b. b ≡ is_lt (cmp_ℚ a.head.ratio (number 1))
              → IsMet (link_point a t) (link_line a (if b then link_below_form a i else link_above_form a i))) [
                | true ↦ λ e. below_rule.1 ((below_shares a.head.ratio _ _ (cycle a (link_base t)) c (lt_true a.head.ratio (number 1) e)).0 r)
                | false ↦ λ e. above_rule.1 ((above_shares a.head.ratio _ _ (cycle a (link_base t)) c (not-≤ℚ _ _ (λ l. n (≤ℚ_antisymm _ _ l (lt_false a.head.ratio (number 1) e))))).0 r)
              ] refl,
          λ m. ratio_from a.head.ratio (half t Outbound i) (half t Inbound i) (link_below_form a i) (link_above_form a i) (λ f. IsMet (link_point a t) (link_line a f))
              (λ w q. (below_shares a.head.ratio _ _ (cycle a (link_base t)) c w).1 (below_rule.0 q))
              (λ w q. (above_shares a.head.ratio _ _ (cycle a (link_base t)) c w).1 (above_rule.0 q)) m,
        )

-- ---- of good link timings
module _ (a : Street) (t : LinkRecord) (h : IsStreet a) (g : GoodLinks a t) where
  pub near_law : (d : Dir) (e : LinkEnd) (i : ℕ) → HasLink a i → IsMet (link_point a t) (link_line a (near_form a d e i))
  near_law d e i k = ((end_law a t h g.formed g.base.shape d e i k).0 (green_end a t g d e i k)).0

  pub far_law : (d : Dir) (e : LinkEnd) (i : ℕ) → HasLink a i → IsMet (link_point a t) (link_line a (far_form a d e i))
  far_law d e i k = ((end_law a t h g.formed g.base.shape d e i k).0 (green_end a t g d e i k)).1

  pub ratio_law : (i : ℕ) → HasLink a i → a.head.ratio ≢ number 1 → IsMet (link_point a t) (link_line a (link_ratio_form a i))
  ratio_law i k = (link_ratio_law a t h g.formed g.base.shape i k).0 (g.ratio i k)
