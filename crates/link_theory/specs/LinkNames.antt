-- The rows of links by name. Those of speeds, changes of pace, cycle, block sums and shifts are the rows of the lines, which have the number 0 in all further
-- columns; those of the waits and of the artery's two bands have no place here.
use Rattle.std.specs.Prelude.{◌≢◌, ℕ, ◌+◌, ◌-◌, ◌*◌, List, [], ◌∷◌, length, codes}
use Rattle.rational_theory.specs.Rows as maths
use Rattle.progression.specs.Street.{Street, count, HasLink}
use Rattle.progression.specs.Speeds.{number}
use Rattle.progression.specs.declared.parts.Dir.{Dir}
use Rattle.progression.specs.declared.parts.Dir.TheVariants.{Outbound, Inbound}
use Rattle.linear_theory.specs.Boxes.{Area}
use Rattle.linear_theory.specs.Rows.{line, widened}
use Rattle.linear_theory.specs.Names.{Name, WaitRow, FastRow, SlowRow, RiseRow, DropRow, CycleLowRow, CycleHighRow, RatioRow, LoopLowRow, LoopHighRow, TurnLowRow, TurnHighRow, LeastRow, EqualLowRow, EqualHighRow, NoRow, FamilyOf, indexed, last_family, row_among, name_of, HasRow, form_of}
use Rattle.link_theory.specs.declared.ends.LinkEnd.{LinkEnd}
use Rattle.link_theory.specs.declared.ends.LinkEnd.TheVariants.{Here, Next}
use Rattle.link_theory.specs.LinkRows.{link_line, near_form, far_form, link_ratio_form}

pub data LinkName : Type 0 where
  OfLines : Name → LinkName
  NearRow : Dir → LinkEnd → ℕ → LinkName
  FarRow : Dir → LinkEnd → ℕ → LinkName
  LinkRatioRow : ℕ → LinkName

-- ---- the families by their numbers
-- those of links, numbered on from the last family of the artery's rows; each has a row for each link
abbrev pub link_families : List (FamilyOf LinkName)
link_families =
    indexed (codes "near_out_a") (NearRow Outbound Here)
    ∷ indexed (codes "near_out_b") (NearRow Outbound Next)
    ∷ indexed (codes "far_out_a") (FarRow Outbound Here)
    ∷ indexed (codes "far_out_b") (FarRow Outbound Next)
    ∷ indexed (codes "near_in_a") (NearRow Inbound Here)
    ∷ indexed (codes "near_in_b") (NearRow Inbound Next)
    ∷ indexed (codes "far_in_a") (FarRow Inbound Here)
    ∷ indexed (codes "far_in_b") (FarRow Inbound Next)
    ∷ indexed (codes "link_ratio") LinkRatioRow
    ∷ []

-- the greatest number of a family
abbrev pub last_link_family : ℕ
last_link_family = last_family + length link_families

-- the row of a family's number and an index
abbrev pub link_name_of : ℕ → ℕ → LinkName
link_name_of family i = row_among (OfLines (name_of family i)) (last_family + 1) link_families family i

-- ---- the rules of the families
-- the row names no band
abbrev pub NamesNoBand : Name → Type 0
NamesNoBand (WaitRow d i) = ⊥
NamesNoBand (FastRow d i) = Unit {0}
NamesNoBand (SlowRow d i) = Unit {0}
NamesNoBand (RiseRow d i) = Unit {0}
NamesNoBand (DropRow d i) = Unit {0}
NamesNoBand (CycleLowRow i) = Unit {0}
NamesNoBand (CycleHighRow i) = Unit {0}
NamesNoBand (RatioRow i) = ⊥
NamesNoBand (LoopLowRow i) = Unit {0}
NamesNoBand (LoopHighRow i) = Unit {0}
NamesNoBand (TurnLowRow i) = Unit {0}
NamesNoBand (TurnHighRow i) = Unit {0}
NamesNoBand (LeastRow d i) = ⊥
NamesNoBand (EqualLowRow i) = ⊥
NamesNoBand (EqualHighRow i) = ⊥
NamesNoBand NoRow = ⊥

-- the artery has the row
abbrev pub HasLinkRow : Street → LinkName → Type 0
HasLinkRow a (OfLines n) = NamesNoBand n × HasRow a n
HasLinkRow a (NearRow d e i) = HasLink a i
HasLinkRow a (FarRow d e i) = HasLink a i
HasLinkRow a (LinkRatioRow i) = HasLink a i × (a.head.ratio ≢ number 1)

-- the row of a name, for a box
abbrev pub link_row : Street → Area → LinkName → maths.Row
link_row a box (OfLines n) = widened (2 * (count a - 1)) (line a (form_of a box n))
link_row a box (NearRow d e i) = link_line a (near_form a d e i)
link_row a box (FarRow d e i) = link_line a (far_form a d e i)
link_row a box (LinkRatioRow i) = link_line a (link_ratio_form a i)
