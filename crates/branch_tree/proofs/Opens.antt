-- The box of a part is one of the artery's, and its line begins from what its parent kept.
use Rattle.std.proofs.Common.{◌≡◌, ℕ, Bool, true, false, cond, List, ◌∷◌, ◌⊎◌, inl, inr, refl, sym, ◌∙◌, ap, ap₂, subst}
use Rattle.std.specs.Prelude.{is_none, if◌then◌else◌}
use Rattle.progression.specs.Street.{Street}
use Rattle.linear_theory.specs.Boxes.{Area, IsBoxOf}
use Rattle.artery_model.specs.Valid.{IsValid}
use Rattle.search_box.specs.declared.span.At.{At}
use Rattle.search_box.specs.Places.{low_part, high_part}
use Rattle.entry_theory.specs.Entry.{entry}
use Rattle.fraction_tableau.specs.NamedTableaus.{NamedTableau}
use Rattle.program_builder.specs.BoxRows.{rows_of}
use Rattle.program_builder.specs.Opening.{loaded, opening}
use Rattle.program_builder.specs.Building.{opened_box}
use Rattle.program_builder.specs.Entry.{IsBasisOf, entered_box}
use Rattle.program_builder.specs.EntryRefusals.{entry_refusal}
use Rattle.program_builder.specs.First.{entry_or_opening, first_of}
use Rattle.program_builder.proofs.First.{basis_of_end, first_is}
use Rattle.branch_and_bound.specs.Lines.{BoxLine, top_line, low_line, high_line}
use Rattle.branch_and_bound.specs.OpenedNodes.{IsPart}
use Rattle.branch_tree.specs.declared.kept.KeptBasis.{KeptBasis}
use Rattle.branch_tree.specs.laws.Lineage.{boxed}
use Rattle.branch_tree.specs.ArteryProgram.{program_of}
use Rattle.box_search.specs.Ends.{table_after, steps_of, named_first}
use Rattle.branch_tree.specs.ArteryRules.{rules_of}
use Rattle.box_search.proofs.Opens.{part_is_for}

pub part_boxed : (a : Street) (kept : KeptBasis) (area : Area) (parent line : BoxLine) (place : At) → IsPart (rules_of a) parent place line kept area → IsBoxOf a area
part_boxed a kept area parent line place p = part_is_for (rules_of a) (IsBoxOf a) (boxed a) kept area parent line place p

-- ---- what a line begins from
-- the root from its opening
pub root_first : (a : Street) (box : Area) → opened_box a box ≡ named_first (program_of a) (top_line box)
unfolding first_of
root_first a box = refl

-- the list that a split node kept serves its parts
pub part_basis : (a : Street) (kept : KeptBasis) (area : Area) (parent line : BoxLine) (place : At) → IsValid a → IsPart (rules_of a) parent place line kept area → IsBasisOf a kept.basis.items
unfolding table_after steps_of
part_basis a kept area parent line place v p = subst (IsBasisOf a) (sym p.kept_is) (basis_of_end a parent.area (first_of a parent.area parent.above) (first_is a parent.area parent.above v))

-- and what it gives is the first tableau of the part's line
pub part_first : (a : Street) (kept : KeptBasis) (area : Area) (parent line : BoxLine) (place : At) → IsPart (rules_of a) parent place line kept area
    → entry_or_opening a area kept.basis.items ≡ first_of a line.area line.above
unfolding first_of table_after steps_of
part_first a kept area parent line place p = pick p.side
  where
    below : (part : Area) → area ≡ part → entry_or_opening a area kept.basis.items ≡ first_of a part (parent.area ∷ parent.above)
    below part e = ap₂ (entry_or_opening a) e p.kept_is

    pick : (line ≡ low_line place parent) ⊎ (line ≡ high_line place parent) → entry_or_opening a area kept.basis.items ≡ first_of a line.area line.above
    pick (inl e) = below (low_part parent.area place) (p.area_is ∙ ap (λ (l : BoxLine). l.area) e) ∙ ap (λ (l : BoxLine). first_of a l.area l.above) (sym e)
    pick (inr e) = below (high_part parent.area place) (p.area_is ∙ ap (λ (l : BoxLine). l.area) e) ∙ ap (λ (l : BoxLine). first_of a l.area l.above) (sym e)

-- the state after an entry, refused or not
entered_by : (a : Street) (box : Area) (vs : List ℕ) (b : Bool) → (if b then entered_box a box vs else opened_box a box) ≡ record {
  table =
      cond b (entry vs (loaded a box)) (opening a box);
  names = rows_of a;
  spent = false;
}
entered_by a box vs true = refl
entered_by a box vs false = refl

entered_named : (a : Street) (box : Area) (vs : List ℕ) (b : Bool) → b ≡ is_none (entry_refusal vs (loaded a box))
    → (if b then entered_box a box vs else opened_box a box) ≡ record { table = entry_or_opening a box vs; names = rows_of a; spent = false }
unfolding entry_or_opening
entered_named a box vs b e = entered_by a box vs b ∙ ap (λ c. record { table = cond c (entry vs (loaded a box)) (opening a box); names = rows_of a; spent = false }) e

pub part_begins : (a : Street) (kept : KeptBasis) (area : Area) (parent line : BoxLine) (place : At) (t : NamedTableau) (b : Bool) (vs : List ℕ)
    → IsPart (rules_of a) parent place line kept area → vs ≡ kept.basis.items
    → b ≡ is_none (entry_refusal vs (loaded a area)) → t ≡ (if b then entered_box a area vs else opened_box a area) → t ≡ named_first (program_of a) line
part_begins a kept area parent line place t b vs p h e f =
    f ∙ entered_named a area vs b e ∙ ap (λ u. record { table = u; names = rows_of a; spent = false }) (ap (entry_or_opening a area) h ∙ part_first a kept area parent line place p)
