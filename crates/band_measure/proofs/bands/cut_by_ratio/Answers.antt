use Rattle.std.proofs.Common.{◌≡◌, ◌∙◌, inl, inr, sym, ap, min, true≢false}
use Rattle.rational_theory.specs.Rational.{◌*ℚ◌, ◌/ℚ◌}
use Rattle.rational_theory.proofs.Compare.{eq_true, eq_false, lt_true, lt_false}
use Rattle.progression.specs.Speeds.{number}
use Rattle.band_measure.specs.Cut.{whole_part}
use Rattle.band_measure.proofs.Cuts.{cut_none, cut_below, cut_above, num_above}
use Rattle.band_measure.proofs.bands.cut_by_ratio.Goals as goal
use Rattle.band_measure.proofs.bands.cut_by_ratio.Goals.{then-is_zero-via-then-is_zero, then-is_zero-via-else-is_zero+then-eq}

pub returns-then-is_zero-clause-cut : goal.returns-then-is_zero-clause-cut
returns-then-is_zero-clause-cut c =
    cut_none c.args.ratio c.args.bands (elim c.then-is_zero.branch [
      | then-is_zero-via-then-is_zero w ↦ inl (c.is_zero.ensures.0 w.if-is_zero.true)
      | then-is_zero-via-else-is_zero+then-eq w ↦ inr (eq_true c.args.ratio _ (w.if-eq.ensures) ∙ w.whole.ensures)
    ])

pub part_over-requires-clause-above : goal.part_over-requires-clause-above
part_over-requires-clause-above c = num_above c.args.ratio c.requires.least (λ e. true≢false (sym (c.is_zero.ensures.1 e) ∙ c.if-is_zero.false))

pub part_times-requires-clause-above : goal.part_times-requires-clause-above
part_times-requires-clause-above c = num_above c.args.ratio c.requires.least (λ e. true≢false (sym (c.is_zero.ensures.1 e) ∙ c.if-is_zero.false))

pub returns-then-lt-clause-cut : goal.returns-then-lt-clause-cut
returns-then-lt-clause-cut c =
    let lesser : c.lesser.result ≡ min c.args.bands.outbound (whole_part (number c.args.bands.inbound /ℚ c.args.ratio)) = c.lesser.ensures ∙ ap (min c.args.bands.outbound) c.part_over.ensures in
    cut_below c.args.ratio c.args.bands _ (λ e. true≢false (sym (c.is_zero.ensures.1 e) ∙ c.if-is_zero.false))
    (rw c.whole-2.ensures at (lt_true c.args.ratio c.whole-2.result (c.if-lt.ensures)))
    (λ i. record { outbound = lesser i; inbound = c.args.bands.inbound })

pub returns-else-lt-clause-cut : goal.returns-else-lt-clause-cut
returns-else-lt-clause-cut c =
    let lesser : c.lesser-else-lt.result ≡ min c.args.bands.inbound (whole_part (c.args.ratio *ℚ number c.args.bands.outbound)) = c.lesser-else-lt.ensures
    ∙ ap (min c.args.bands.inbound) c.part_times.ensures in
    cut_above c.args.ratio c.args.bands _ (λ e. true≢false (sym (c.is_zero.ensures.1 e) ∙ c.if-is_zero.false))
    (λ e. eq_false c.args.ratio c.whole.result (c.if-eq.ensures) (e ∙ sym c.whole.ensures))
    (rw c.whole-2.ensures at (lt_false c.args.ratio c.whole-2.result (c.if-lt.ensures)))
    (λ i. record { outbound = c.args.bands.outbound; inbound = lesser i })
