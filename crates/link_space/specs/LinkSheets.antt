-- The rows of links as they are written, and that every point meets them that counts.
use Rattle.std.specs.Prelude.{ℕ, zero, suc, ◌+◌, ◌-◌, ◌*◌, ◌++◌, replicate, pos, false}
use Rattle.rational_theory.specs.Rational.{ℚ, whole}
use Rattle.progression.specs.Street.{Street, count}
use Rattle.progression.specs.declared.parts.Dir.{Dir}
use Rattle.progression.specs.declared.parts.Dir.TheVariants.{Outbound, Inbound}
use Rattle.linear_theory.specs.Boxes.{Area}
use Rattle.linear_theory.specs.Names.{form_of}
use Rattle.named_row.specs.Sheets.{Sheet, with_place}
use Rattle.named_row.specs.declared.names.Place.TheVariants.{Cell}
use Rattle.loop_rows.specs.Writing.{written_cells, written}
use Rattle.loop_rows.specs.Meeting.{IsFilledBy}
use Rattle.link_theory.specs.declared.ends.LinkEnd.{LinkEnd}
use Rattle.link_theory.specs.declared.ends.LinkEnd.TheVariants.{Here, Next}
use Rattle.link_theory.specs.LinkColumns.{link_width}
use Rattle.link_theory.specs.LinkRows.{LinkForm, near_form, far_form, link_ratio_form, link_goal}
use Rattle.link_theory.specs.LinkNames.{LinkName, OfLines, NearRow, FarRow, LinkRatioRow}
use Rattle.link_theory.specs.LinkCounts.{IsGoodLinkPoint}

-- one of the numbers of four families: outbound and inbound, at the link's own signal and at the next
abbrev pub by_end : Dir → LinkEnd → ℕ → ℕ
by_end Outbound Here first = first
by_end Outbound Next first = first + 1
by_end Inbound Here first = first + 4
by_end Inbound Next first = first + 5

-- a row with so many further cells, all 0
abbrev pub wide_sheet : ℕ → Sheet → Sheet
wide_sheet further r = record { coefs = r.coefs ++ replicate further (whole (pos 0)); bound = r.bound; spent = false }

-- the row of a form, not spent
abbrev pub link_written : Street → LinkForm → Sheet
link_written a f = written_cells (link_width (count a)) f.cells f.bound

-- the row of a name for a box
abbrev pub link_sheet : Street → Area → LinkName → Sheet
link_sheet a box (OfLines n) = wide_sheet (2 * (count a - 1)) (written a (form_of a box n))
link_sheet a box (NearRow d e i) = link_written a (near_form a d e i)
link_sheet a box (FarRow d e i) = link_written a (far_form a d e i)
link_sheet a box (LinkRatioRow i) = link_written a (link_ratio_form a i)

-- a number at each of so many places, from one on
abbrev pub with_run : ℕ → ℕ → ℚ → Sheet → Sheet
with_run first zero v r = r
with_run first (suc k) v r = with_place (Cell (first + k)) v (with_run first k v r)

-- the goal as it is written; it has no bound
abbrev pub link_goal_sheet : Street → Sheet
link_goal_sheet a = record { coefs = link_goal a; bound = whole (pos 0); spent = false }

-- an unspent row that the points of good link timings of the box meet
abbrev pub IsFilledLinks : Street → Area → Sheet → Type 0
IsFilledLinks a box r = IsFilledBy IsGoodLinkPoint a box r
