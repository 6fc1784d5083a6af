-- The point of a good link timing of the box meets every row that the artery has for links.
use Rattle.std.proofs.Common.{◌-◌, ◌*◌, List, sym, ◌∙◌, subst, arith}
use Rattle.rational_theory.specs.Rational.{ℚ}
use Rattle.rational_theory.specs.Rows.{IsMet}
use Rattle.progression.specs.Street.{Street, count}
use Rattle.progression.specs.Columns.{point}
use Rattle.linear_theory.specs.Boxes.{Area}
use Rattle.linear_theory.specs.Rows.{line}
use Rattle.linear_theory.specs.Names.{Name, HasRow, form_of}
use Rattle.linear_theory.specs.Counts.{Counts}
use Rattle.linear_theory.proofs.NamedRows.{row_law}
use Rattle.linear_theory.proofs.Points.{point_width}
use Rattle.linear_theory.proofs.SparseSums.{line_width}
use Rattle.link_theory.specs.LinkRecord.{LinkRecord, lines}
use Rattle.linear_theory.proofs.PlacedRows.{widened_met}
use Rattle.link_theory.specs.LinkColumns.{link_point}
use Rattle.link_theory.specs.Plain.{plain}
use Rattle.link_theory.proofs.PlainStreets.{same_point, plain_street, plain_box, plain_inside, same_form, plain_has}
use Rattle.link_theory.specs.LinkNames.{LinkName, NamesNoBand, OfLines, NearRow, FarRow, LinkRatioRow, HasLinkRow, link_row}
use Rattle.link_theory.specs.LinkCounts.{LinkCounts, IsGoodLinkPoint}
use Rattle.link_theory.proofs.LinesAreGood.{good_lines}
use Rattle.link_theory.proofs.LinkRowLaws.{near_law, far_law, ratio_law}

module _ (a : Street) (box : Area) (t : LinkRecord) (c : LinkCounts a box t) where
  -- the lines count for the same box of the plain artery
  pub lines_count : Counts (plain a) box (lines t)
  lines_count = record {
    street = plain_street a c.street;
    good = good_lines a t c.street c.good;
    boxed = plain_box a box c.boxed;
    inside = plain_inside a box (lines t) c.inside;
  }

  -- a row of the lines
  lines_met : (n : Name) → NamesNoBand n → HasRow a n → IsMet (point a (lines t)) (line a (form_of a box n))
  lines_met n m h =
      subst (λ x. IsMet x (line a (form_of a box n))) (same_point a (lines t))
      (subst (λ f. IsMet (point (plain a) (lines t)) (line a f)) (same_form a box n m) (row_law (plain a) box (lines t) lines_count n (plain_has a n m h)))

  lines_law : (n : Name) → NamesNoBand n → HasRow a n → IsMet (link_point a t) (link_row a box (OfLines n))
  lines_law n m h =
      let two = c.street.signals in
      widened_met (2 * (count a - 1)) (line a (form_of a box n)) (point a (lines t)) _ (line_width a (form_of a box n) ∙ sym (point_width a (lines t) (omega arith)))
      (lines_met n m h)

  -- each row is met
  pub link_row_law : (n : LinkName) → HasLinkRow a n → IsMet (link_point a t) (link_row a box n)
  link_row_law (OfLines n) h = lines_law n h.0 h.1
  link_row_law (NearRow d e i) h = near_law a t c.street c.good d e i h
  link_row_law (FarRow d e i) h = far_law a t c.street c.good d e i h
  link_row_law (LinkRatioRow i) h = ratio_law a t c.street c.good i h.0 h.1

-- so does each point that counts
pub link_row_at_point : (a : Street) (box : Area) (x : List ℚ) → IsGoodLinkPoint a box x → (n : LinkName) → HasLinkRow a n → IsMet x (link_row a box n)
link_row_at_point a box x p n h = rw p.is (link_row_law a box p.timing p.counts n h)
