-- The opening tableau of links has a row for each name, and is what a box of links begins from.
use Rattle.std.proofs.Common.{◌≡◌, length, sym, ◌∙◌, subst}
use Rattle.progression.specs.Street.{Street}
use Rattle.artery_model.specs.Valid.{IsValid}
use Rattle.linear_theory.specs.Boxes.{Area}
use Rattle.simplex_theory.specs.Tableau.{height}
use Rattle.simplex_theory.specs.DualSteps.{IsDual}
use Rattle.simplex_theory.specs.RowLists.{StandsForRows}
use Rattle.fraction_tableau.specs.NamedTableaus.{NamedTableau}
use Rattle.link_theory.specs.LinkRows.{link_goal}
use Rattle.program_builder.proofs.LoadedTables.{height-loaded}
use Rattle.program_builder.proofs.StartPivots.{height-pivots}
use Rattle.multi_band.specs.LinkTables.{names_of_links, link_table, link_box_rows, link_loaded}
use Rattle.multi_band.specs.LinkOpening.{link_pivots, link_opening, opened_links, IsMadeForLinks, IsOpenedForLinks}
use Rattle.multi_band.specs.laws.LinkOpenings.{link_opening_dual, link_opening_stands, width-link_opening}

module _ (a : Street) (box : Area) (v : IsValid a) where
  pub height-link_opening : height (link_opening a box) ≡ length (names_of_links a)
  unfolding link_opening
  height-link_opening = height-pivots (link_pivots a) (link_loaded a box) ∙ height-loaded (link_table a) box

-- so it is what a box of links begins from
pub opened_for_links : (a : Street) (box : Area) (t : NamedTableau) → IsValid a → t ≡ opened_links a box → IsOpenedForLinks a box t
opened_for_links a box t v e = record {
  opened = e;
  dual = subst (λ (u : NamedTableau). IsDual u.table) (sym e) (link_opening_dual a box v);
  stands = subst (λ (u : NamedTableau). StandsForRows u.table (link_box_rows a box) (link_goal a)) (sym e) (link_opening_stands a box v);
  made = subst (IsMadeForLinks a) (sym e) (record { rows = height-link_opening a box v; columns = width-link_opening a box v });
}
