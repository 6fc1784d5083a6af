-- What a tableau of links gives at its end: a point that meets the rows of the table is a vertex of links, and multipliers of the table's rows are multipliers of
-- rows that the artery has.
use Rattle.std.proofs.Common.{◌≡◌, ℕ, List, length, get_or, ◌<◌, refl, sym, subst}
use Rattle.rational_theory.specs.Rational.{ℚ}
use Rattle.rational_theory.specs.Rows.{IsMet, AllNonNegative}
use Rattle.progression.specs.Street.{Street, count}
use Rattle.progression.specs.Speeds.{number}
use Rattle.progression.specs.Columns.{BandOf}
use Rattle.progression.specs.declared.parts.Dir.{Dir}
use Rattle.progression.specs.declared.parts.Dir.TheVariants.{Outbound, Inbound}
use Rattle.linear_theory.specs.Boxes.{Area}
use Rattle.linear_theory.specs.Places.{value_at}
use Rattle.linear_theory.specs.Names.{Name, WaitRow, FastRow, SlowRow, RiseRow, DropRow, CycleLowRow, CycleHighRow, RatioRow, LoopLowRow, LoopHighRow, TurnLowRow, TurnHighRow, LeastRow, EqualLowRow, EqualHighRow, NoRow}
use Rattle.named_row.specs.declared.names.RowId.{RowId}
use Rattle.fraction_tableau.specs.NamedTableaus.{name_in}
use Rattle.link_theory.specs.declared.ends.LinkEnd.TheVariants.{Here, Next}
use Rattle.link_theory.specs.LinkColumns.{link_width}
use Rattle.link_theory.specs.LinkNames.{LinkName, NamesNoBand, OfLines, NearRow, FarRow, LinkRatioRow, HasLinkRow, link_row}
use Rattle.link_theory.specs.LinkVertices.{IsLinkVertex}
use Rattle.link_space.specs.LinkWeights.{link_name_at}
use Rattle.multi_band.specs.LinkTables.{names_of_links, link_row_for}
use Rattle.multi_band.specs.laws.LinkTables.{among_links}

-- ---- names
-- each row of links has a name with a family's number
pub record IsNumberedLink (n : LinkName) : Type 0 where
  pub row : RowId
  pub is : link_name_at row ≡ n

lines_numbered : (n : Name) → NamesNoBand n → IsNumberedLink (OfLines n)
lines_numbered (WaitRow d i) h = absurd h
lines_numbered (FastRow Outbound i) h = record { row = record { family = 3; index = i }; is = refl }
lines_numbered (FastRow Inbound i) h = record { row = record { family = 4; index = i }; is = refl }
lines_numbered (SlowRow Outbound i) h = record { row = record { family = 5; index = i }; is = refl }
lines_numbered (SlowRow Inbound i) h = record { row = record { family = 6; index = i }; is = refl }
lines_numbered (RiseRow Outbound i) h = record { row = record { family = 7; index = i }; is = refl }
lines_numbered (RiseRow Inbound i) h = record { row = record { family = 8; index = i }; is = refl }
lines_numbered (DropRow Outbound i) h = record { row = record { family = 9; index = i }; is = refl }
lines_numbered (DropRow Inbound i) h = record { row = record { family = 10; index = i }; is = refl }
lines_numbered (CycleLowRow i) h = record { row = record { family = 11; index = i }; is = refl }
lines_numbered (CycleHighRow i) h = record { row = record { family = 12; index = i }; is = refl }
lines_numbered (RatioRow i) h = absurd h
lines_numbered (LoopLowRow i) h = record { row = record { family = 14; index = i }; is = refl }
lines_numbered (LoopHighRow i) h = record { row = record { family = 15; index = i }; is = refl }
lines_numbered (TurnLowRow i) h = record { row = record { family = 16; index = i }; is = refl }
lines_numbered (TurnHighRow i) h = record { row = record { family = 17; index = i }; is = refl }
lines_numbered (LeastRow d i) h = absurd h
lines_numbered (EqualLowRow i) h = absurd h
lines_numbered (EqualHighRow i) h = absurd h
lines_numbered NoRow h = absurd h

pub link_numbered : (a : Street) (n : LinkName) → HasLinkRow a n → IsNumberedLink n
link_numbered a (OfLines n) h = lines_numbered n h.0
link_numbered a (NearRow Outbound Here i) h = record { row = record { family = 22; index = i }; is = refl }
link_numbered a (NearRow Outbound Next i) h = record { row = record { family = 23; index = i }; is = refl }
link_numbered a (FarRow Outbound Here i) h = record { row = record { family = 24; index = i }; is = refl }
link_numbered a (FarRow Outbound Next i) h = record { row = record { family = 25; index = i }; is = refl }
link_numbered a (NearRow Inbound Here i) h = record { row = record { family = 26; index = i }; is = refl }
link_numbered a (NearRow Inbound Next i) h = record { row = record { family = 27; index = i }; is = refl }
link_numbered a (FarRow Inbound Here i) h = record { row = record { family = 28; index = i }; is = refl }
link_numbered a (FarRow Inbound Next i) h = record { row = record { family = 29; index = i }; is = refl }
link_numbered a (LinkRatioRow i) h = record { row = record { family = 30; index = i }; is = refl }

module _ (a : Street) (box : Area) where
  -- ---- vertices
  -- a point that meets each row of the table meets each row that the artery has
  pub table_rows_met : (x : List ℚ) → ((k : ℕ) → k < length (names_of_links a) → IsMet x (link_row_for a box (name_in (names_of_links a) k))) → (n : LinkName) → HasLinkRow a n → IsMet x (link_row a box n)
  table_rows_met x met n h =
      let r = link_numbered a n h in
      let g = among_links a r.row (subst (HasLinkRow a) (sym r.is) h) in
      subst (λ m. IsMet x (link_row a box m)) r.is (subst (λ (q : RowId). IsMet x (link_row_for a box q)) g.is (met g.place g.within))

  -- so with nothing below 0 and nothing in the columns of the artery's bands it is a vertex of links
  pub table_vertex : (x : List ℚ) → length x ≡ link_width (count a) → AllNonNegative x → get_or x 0 (number 0) ≡ number 0 → get_or x 1 (number 0) ≡ number 0
      → ((k : ℕ) → k < length (names_of_links a) → IsMet x (link_row_for a box (name_in (names_of_links a) k))) → IsLinkVertex a box x
  table_vertex x w p out back met = record { columns = w; not_negative = p; no_bands = bands; rows = table_rows_met x met }
    where
      bands : (d : Dir) → value_at (count a) x (BandOf d) ≡ number 0
      bands Outbound = out
      bands Inbound = back
      -- ---- leaves
