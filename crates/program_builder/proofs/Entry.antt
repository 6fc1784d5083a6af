-- Lemmas on the definitions of `Entry`: a tableau is ready for the entry once its box is loaded, and what the entry comes to.
use Rattle.std.proofs.Common.{◌≡◌, ℕ, List, [], ◌∷◌, map, refl, sym, ◌∙◌, ap₂, length, arith}
use Rattle.progression.specs.Street.{Street}
use Rattle.linear_theory.specs.Boxes.{Area}
use Rattle.linear_theory.specs.Rows.{line}
use Rattle.linear_theory.specs.Names.{Name, WaitRow, FastRow, SlowRow, RiseRow, DropRow, CycleLowRow, CycleHighRow, RatioRow, LoopLowRow, LoopHighRow}
use Rattle.linear_theory.specs.Names.{TurnLowRow, TurnHighRow, LeastRow, EqualLowRow, EqualHighRow, NoRow, form_of, name_of}
use Rattle.named_row.specs.declared.names.RowId.{RowId}
use Rattle.simplex_theory.specs.Tableau.{width, IsShaped}
use Rattle.simplex_theory.specs.RowLists.{StandsForRows, system_of}
use Rattle.fraction_tableau.specs.NamedTableaus.{NamedTableau}
use Rattle.entry_theory.specs.Entry.{entry}
use Rattle.entry_theory.specs.Promises.{HaveSameCoefs, IsBasisFor, IsEntered}
use Rattle.entry_theory.specs.Ready.{IsReady, IsFresh}
use Rattle.entry_theory.proofs.Entered.{under_way, ready_rows}
use Rattle.entry_theory.proofs.Promises.{entry_keeps_all, ready_from}
use Rattle.program_builder.specs.BoxRows.{rows_of}
use Rattle.program_builder.specs.Opening.{artery_table, box_rows, row_for, goal_of, loaded}
use Rattle.program_builder.proofs.LoadedTables.{is_loaded, shape_loaded, width-loaded, height-loaded}
use Rattle.program_builder.proofs.ArteryTables.{artery_is_table}
use Rattle.program_builder.specs.EntryRefusals.{IsSpentOnTheWay}
use Rattle.program_builder.specs.Building.{IsMadeFor, loaded_box}
use Rattle.program_builder.proofs.BuildingLaws.{made_spent}
use Rattle.entry_theory.proofs.SameRows.{fresh_loaded}
use Rattle.simplex_theory.proofs.Loaded.{stands-loaded}
use Rattle.program_builder.specs.Entry.{IsBasisOf, entered_box}

-- ---- a box is in the bounds alone
pub form_coefs : (a : Street) (box other : Area) (n : Name) → (line a (form_of a box n)).coefs ≡ (line a (form_of a other n)).coefs
form_coefs a box other (WaitRow d i) = refl
form_coefs a box other (FastRow d i) = refl
form_coefs a box other (SlowRow d i) = refl
form_coefs a box other (RiseRow d i) = refl
form_coefs a box other (DropRow d i) = refl
form_coefs a box other (CycleLowRow i) = refl
form_coefs a box other (CycleHighRow i) = refl
form_coefs a box other (RatioRow i) = refl
form_coefs a box other (LoopLowRow i) = refl
form_coefs a box other (LoopHighRow i) = refl
form_coefs a box other (TurnLowRow i) = refl
form_coefs a box other (TurnHighRow i) = refl
form_coefs a box other (LeastRow d i) = refl
form_coefs a box other (EqualLowRow i) = refl
form_coefs a box other (EqualHighRow i) = refl
form_coefs a box other NoRow = refl

same_coefs : (a : Street) (box other : Area) (names : List RowId) → HaveSameCoefs (map (row_for a box) names) (map (row_for a other) names)
same_coefs a box other [] = refl
same_coefs a box other (r ∷ rs) = ap₂ (λ c cs. c ∷ cs) (form_coefs a box other (name_of r.family r.index)) (same_coefs a box other rs)

pub boxes_same_coefs : (a : Street) (box other : Area) → HaveSameCoefs (box_rows a box) (box_rows a other)
boxes_same_coefs a box other = same_coefs a box other (rows_of a)

-- ---- what is loaded, and what the entry comes to
fresh : (a : Street) (box : Area) → IsFresh (loaded a box)
fresh a box = fresh_loaded (loaded a box) (system_of (box_rows a box) (goal_of a)) (is_loaded (artery_table a) box (artery_is_table a))

stands : (a : Street) (box : Area) → StandsForRows (loaded a box) (box_rows a box) (goal_of a)
stands a box = record {
  shape = shape_loaded (artery_table a) box (artery_is_table a);
  stands =
      stands-loaded (loaded a box) (system_of (box_rows a box) (goal_of a)) (is_loaded (artery_table a) box (artery_is_table a));
}

basis_for : (a : Street) (box : Area) (vs : List ℕ) → IsBasisOf a vs → IsBasisFor vs (box_rows a box) (goal_of a) (width (loaded a box))
basis_for a box vs b = record {
  table = b.table;
  others = box_rows a b.box;
  columns = b.columns ∙ sym (width-loaded (artery_table a) box);
  coefs = boxes_same_coefs a box b.box;
  dual = b.dual;
  stands = b.stands;
  names = b.names;
}

pub ready : (a : Street) (box : Area) (vs : List ℕ) → IsBasisOf a vs → IsReady vs (loaded a box)
ready a box vs b = ready_from vs (loaded a box) (box_rows a box) (goal_of a) (fresh a box) (stands a box) (basis_for a box vs b)

pub entered : (a : Street) (box : Area) (vs : List ℕ) → IsBasisOf a vs → IsEntered vs (loaded a box) (box_rows a box) (goal_of a)
entered a box vs b = entry_keeps_all vs (loaded a box) (box_rows a box) (goal_of a) (fresh a box) (stands a box) (basis_for a box vs b)

-- ---- a tableau on its way to an entry, and at it, is one that was made for the artery
pub made_on_the_way : (a : Street) (box : Area) (vs : List ℕ) (t : NamedTableau) → IsReady vs (loaded a box) → IsShaped t.table → IsSpentOnTheWay vs (loaded_box a box) t → IsMadeFor a t
made_on_the_way a box vs t r h s =
    let l = s.within in
    let q = under_way vs r.table r.dual r.names (loaded a box) r.fresh r.forms s.pivots (omega arith) in
    made_spent (artery_table a) _ t q.entering.shaped h s.spent (record {
      rows = q.entering.rows ∙ height-loaded (artery_table a) box;
      columns =
          q.entering.columns ∙ width-loaded (artery_table a) box;
    })

pub made_entered : (a : Street) (box : Area) (vs : List ℕ) → IsReady vs (loaded a box) → IsMadeFor a (entered_box a box vs)
unfolding entry
made_entered a box vs r = let q = ready_rows vs (loaded a box) r (length vs) (omega arith) in record {
  rows = q.0 ∙ height-loaded (artery_table a) box;
  columns = q.1 ∙ width-loaded (artery_table a) box;
}
