-- What is read of a vertex of links is the outcome; a link timing that it gives is good, and its value is the goal's.
use Rattle.std.proofs.Common.{◌≡◌, List, Result, Ok, Err, IfOk, ◌∙◌, ap, subst}
use Rattle.rational_theory.specs.Rational.{ℚ}
use Rattle.rational_theory.specs.Rows.{dot}
use Rattle.progression.specs.Street.{Street}
use Rattle.linear_theory.specs.Boxes.{Area, IsBoxOf}
use Rattle.linear_theory.specs.Counts.{IsStreet}
use Rattle.link_theory.specs.LinkRecord.{LinkRecord}
use Rattle.link_theory.specs.GoodLinks.{GoodLinks}
use Rattle.link_theory.specs.BestLinks.{link_value}
use Rattle.link_theory.specs.LinkRows.{link_goal}
use Rattle.link_theory.specs.LinkVertices.{IsLinkVertex, link_timing_of}
use Rattle.link_theory.proofs.Recovered.{links_good, value_is_goal}
use Rattle.offset_recovery.specs.declared.outcome.Recovered.{Recovered}
use Rattle.offset_recovery.specs.declared.outcome.Recovered.TheVariants as is
use Rattle.offset_recovery.specs.declared.outcome.RecoverFault.{RecoverFault}
use Rattle.offset_recovery.specs.Answers.{IsRead, IsOutcome}
use Rattle.offset_recovery.specs.Outcomes.{Gives}
use Rattle.offset_recovery.specs.Recovered.{recovered_by}
use Rattle.offset_recovery.proofs.Reading.{read_outcome}
use Rattle.offset_recovery.proofs.Whole.{whole_of, by_gives, only_gives}
use Rattle.multi_band.specs.LinkRecovered.{link_column_tests, link_number_tests, linked, link_recovered, IsLinkSound}
use Rattle.multi_band.specs.laws.LinkRecoveries.{splits_inside}

pub link_outcome : (a : Street) (box : Area) (x : List ℚ) (r : Result (Recovered LinkRecord) RecoverFault) → IsRead a box x (link_column_tests a x) (link_timing_of a x) r
    → IsOutcome (link_recovered a box x) r
unfolding link_recovered
link_outcome a box x r h = read_outcome (linked a x) a box x (link_column_tests a x) r h

module _ (a : Street) (box : Area) (x : List ℚ) (h : IsStreet a) (b : IsBoxOf a box) (v : IsLinkVertex a box x) where
  pub gives_good : (t : LinkRecord) → link_recovered a box x ≡ Gives t → GoodLinks a t × (link_value a t ≡ dot (link_goal a) x)
  unfolding link_recovered
  gives_good t e =
      let m = only_gives (linked a x) (recovered_by a box x (link_number_tests a x)) t e in
      let g = by_gives a box x (link_number_tests a x) m.of m.given in
      let w = whole_of a box x b g.0 in
      subst (λ s. GoodLinks a s × (link_value a s ≡ dot (link_goal a) x)) (ap (linked a x) g.1 ∙ m.is) (links_good a box x h v w, value_is_goal a box x h v w)

  pub link_sound : (r : Result (Recovered LinkRecord) RecoverFault) → IsOutcome (link_recovered a box x) r → IfOk r (IsLinkSound a box x)
  link_sound (Ok (is.Timing t)) e = gives_good t e
  link_sound (Ok (is.SplitAt place)) e = splits_inside a box x h b v place e
  link_sound (Err f) e = tt
