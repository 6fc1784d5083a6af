-- Lemmas on the definitions of `First`: in every line of boxes the first tableau is what a search needs.
use Rattle.std.proofs.Common.{◌≡◌, sym, ℕ, zero, suc, List, [], ◌∷◌, length, refl, ◌∙◌, ap, arith}
use Rattle.std.specs.Prelude.{is_none}
use Rattle.std.proofs.lemmas.List.{length-map}
use Rattle.std.proofs.lemmas.Bool.{cond_both}
use Rattle.progression.specs.Street.{Street}
use Rattle.artery_model.specs.Valid.{IsValid}
use Rattle.linear_theory.specs.Boxes.{Area}
use Rattle.simplex_theory.specs.Tableau.{Tableau, width}
use Rattle.simplex_theory.proofs.Tableau.{width-exchange}
use Rattle.simplex_theory.specs.BlandRule.{Move, optimal, infeasible, pivoted, move, made}
use Rattle.simplex_theory.specs.StepCounts.{after, steps_to_end}
use Rattle.simplex_theory.proofs.StepCounts.{next_is, dual_after}
use Rattle.simplex_theory.proofs.RowLists.{rows_stand_after}
use Rattle.entry_theory.specs.Entry.{entry}
use Rattle.entry_theory.specs.Basics.{basics_of}
use Rattle.entry_theory.proofs.Basics.{names_basics_of}
use Rattle.entry_theory.proofs.Entered.{ready_rows}
use Rattle.program_builder.specs.EntryRefusals.{entry_refusal}
use Rattle.program_builder.specs.Opening.{artery_table, box_rows, row_for, goal_of, loaded, opening}
use Rattle.program_builder.proofs.OpeningLaws.{opening_dual, opening_stands, width-opening}
use Rattle.program_builder.proofs.LoadedTables.{width-loaded}
use Rattle.fraction_tableau.specs.NamedTableaus.{NamedTableau}
use Rattle.program_builder.specs.BoxRows.{rows_of}
use Rattle.program_builder.specs.Building.{IsMadeFor}
use Rattle.program_builder.specs.Entry.{IsBasisOf}
use Rattle.program_builder.proofs.Entry.{ready, entered}
use Rattle.program_builder.specs.First.{last_of, entry_or_opening, first_of, IsFirstFor}

width_made : (t : Tableau) (m : Move) → width (made m t) ≡ width t
width_made t optimal = refl
width_made t (infeasible r) = refl
width_made t (pivoted r j) = width-exchange r j t

width_after : (t : Tableau) (k : ℕ) → width (after t k) ≡ width t
unfolding after
width_after t zero = refl
width_after t (suc k) = ap width (next_is (after t k)) ∙ width_made (after t k) (move (after t k)) ∙ width_after t k

-- the steps keep all of it
pub first_after : (a : Street) (box : Area) (t : Tableau) (k : ℕ) → IsFirstFor a box t → IsFirstFor a box (after t k)
first_after a box t k f = record {
  columns = width_after t k ∙ f.columns;
  dual = dual_after t k f.dual;
  stands = rows_stand_after t (box_rows a box) (goal_of a) k f.dual f.stands;
}

-- the basic variables serve as a basis for every box of the artery
pub basis_of_first : (a : Street) (box : Area) (t : Tableau) → IsFirstFor a box t → IsBasisOf a (basics_of t)
basis_of_first a box t f =
    record { table = t; box = box; columns = f.columns; dual = f.dual; stands = f.stands; names = names_basics_of t f.dual.shaped f.dual.placed }

-- and so do those of the end
pub basis_of_end : (a : Street) (box : Area) (t : Tableau) → IsFirstFor a box t → IsBasisOf a (basics_of (last_of t))
basis_of_end a box t f = basis_of_first a box (last_of t) (first_after a box t (steps_to_end t) f)

pub made_first : (a : Street) (box : Area) (t : NamedTableau) → IsFirstFor a box t.table → IsMadeFor a t
made_first a box t f = record { rows = sym f.stands.shape.count ∙ length-map (rows_of a) (row_for a box); columns = f.columns }

opening_first : (a : Street) (box : Area) → IsValid a → IsFirstFor a box (opening a box)
opening_first a box v = record { columns = width-opening a box v; dual = opening_dual a box v; stands = opening_stands a box v }

entry_first : (a : Street) (box : Area) (vs : List ℕ) → IsBasisOf a vs → IsFirstFor a box (entry vs (loaded a box))
unfolding entry
entry_first a box vs b =
    let e = entered a box vs b in
    record { columns = (ready_rows vs (loaded a box) (ready a box vs b) (length vs) (omega arith)).1 ∙ width-loaded (artery_table a) box; dual = e.dual; stands = e.stands }

pub either_first : (a : Street) (box : Area) (vs : List ℕ) → IsValid a → IsBasisOf a vs → IsFirstFor a box (entry_or_opening a box vs)
unfolding entry_or_opening
either_first a box vs v b =
    cond_both (is_none (entry_refusal vs (loaded a box))) (entry vs (loaded a box)) (opening a box) (IsFirstFor a box) (λ e. entry_first a box vs b) (λ e. opening_first a box v)

-- in every line of boxes
pub first_is : (a : Street) (box : Area) (above : List Area) → IsValid a → IsFirstFor a box (first_of a box above)
unfolding first_of
first_is a box [] v = opening_first a box v
first_is a box (b ∷ bs) v = either_first a box (basics_of (last_of (first_of a b bs))) v (basis_of_end a b (first_of a b bs) (first_is a b bs v))
