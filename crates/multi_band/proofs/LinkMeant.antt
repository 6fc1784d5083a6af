-- What the outcome of a vertex of links says in the model's words, both ways.
use Rattle.std.proofs.Common.{◌≡◌, ◌↔◌, List, sym, ◌∙◌, ap}
use Rattle.rational_theory.specs.Rational.{ℚ}
use Rattle.progression.specs.Street.{Street}
use Rattle.linear_theory.specs.Boxes.{Area, IsBoxOf}
use Rattle.linear_theory.specs.Counts.{IsStreet}
use Rattle.search_box.specs.declared.span.At.{At}
use Rattle.search_box.specs.declared.span.At.TheVariants.{Loop, Turn}
use Rattle.link_theory.specs.LinkRecord.{LinkRecord}
use Rattle.link_theory.specs.LinkVertices.{IsLinkVertex}
use Rattle.link_theory.proofs.PlainVertices.{vertex_unranked, vertex_least_below}
use Rattle.offset_recovery.specs.Outcomes.{Splits, Gives, with_timing}
use Rattle.offset_recovery.specs.Recovered.{recovered_by}
use Rattle.offset_recovery.proofs.Whole.{only_splits, only_gives}
use Rattle.offset_recovery.proofs.Meant.{RanksDecide, Meant, place_means, place_back, timing_means, timing_back}
use Rattle.multi_band.specs.LinkRecovered.{link_number_tests, linked, link_recovered}
use Rattle.multi_band.specs.LinkMeaning.{GivesLinkTiming, LinkOutcomesMean}

module _ (a : Street) (box : Area) (x : List ℚ) (h : IsStreet a) (b : IsBoxOf a box) (v : IsLinkVertex a box x) where
  decided : RanksDecide a box x
  decided = record { unranked = vertex_unranked a box x h b v; least_below = vertex_least_below a box x h b v }

  places : (p : At) → (link_recovered a box x ≡ Splits p) ↔ Meant a box x b decided (link_number_tests a x) p
  unfolding link_recovered
  places p = (
    λ e. place_means a box x b decided (link_number_tests a x) p (only_splits (linked a x) (recovered_by a box x (link_number_tests a x)) p e),
    λ m. ap (with_timing (linked a x)) (place_back a box x b decided (link_number_tests a x) p m),
  )

  timings : (t : LinkRecord) → (link_recovered a box x ≡ Gives t) ↔ GivesLinkTiming a x t
  unfolding link_recovered
  timings t = (
    λ e.
        let made = only_gives (linked a x) (recovered_by a box x (link_number_tests a x)) t e in
        let m = timing_means a box x b decided (link_number_tests a x) made.of made.given in
        let p = m.0 in
        record { links = p.links; signals = p.signals; numbers = p.fits; timing = sym (ap (linked a x) m.1 ∙ made.is) },
    λ m.
        ap (with_timing (linked a x)) (timing_back a box x b decided (link_number_tests a x) (record { links = m.links; signals = m.signals; fits = m.numbers }))
        ∙ ap Gives (sym m.timing),
  )

pub link_outcomes_mean : LinkOutcomesMean
link_outcomes_mean = record {
  loop = λ a box x i at h b v. places a box x h b v (Loop i at);
  turn = λ a box x i rank h b v. places a box x h b v (Turn i rank);
  timing = λ a box x t h b v. timings a box x h b v t;
}
