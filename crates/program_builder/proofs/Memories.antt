-- What an artery's memory of an entry holds, and what is made of it.
use Rattle.std.proofs.Common.{◌≡◌, ℕ, Bool, true, false, None, List, length, ◌+◌, refl, sym, ◌∙◌, subst}
use Rattle.std.proofs.lemmas.Bool.{false≢true}
use Rattle.progression.specs.Street.{Street}
use Rattle.linear_theory.specs.Boxes.{Area}
use Rattle.simplex_theory.specs.Tableau.{height}
use Rattle.fraction_tableau.specs.NamedTableaus.{NamedTableau}
use Rattle.program_builder.specs.BoxRows.{rows_of}
use Rattle.program_builder.specs.Opening.{artery_table, loaded}
use Rattle.program_builder.specs.Building.{IsMadeFor, loaded_box}
use Rattle.program_builder.specs.EntryRefusals.{entry_refusal}
use Rattle.program_builder.specs.Entry.{IsBasisOf, entered_box}
use Rattle.program_builder.specs.Remembering.{HaveRoom, AreNotesOf, IsRemembered, IsEntryOf, IsKept, IsMemoryOf}
use Rattle.program_builder.specs.declared.noting.NotedPivot.{NotedPivot}
use Rattle.program_builder.specs.declared.remembering.EntryMemory.{EntryMemory}
use Rattle.program_builder.proofs.LoadedTables.{height-loaded, width-loaded}
use Rattle.program_builder.proofs.Entry.{ready}
use Rattle.program_builder.proofs.SameLoaded.{loaded_same_cells}

pub made_loaded : (a : Street) (box : Area) → IsMadeFor a (loaded_box a box)
made_loaded a box = record { rows = height-loaded (artery_table a) box; columns = width-loaded (artery_table a) box }

-- ---- what is kept serves each box of the artery
pub remembered_here : (a : Street) (box : Area) (vs : List ℕ) (m : EntryMemory) → IsBasisOf a vs → IsKept a m → m.basis.items ≡ vs → IsRemembered vs m.pivots.items (loaded a box)
remembered_here a box vs m b k e = record {
  table = loaded a k.box;
  ready = ready a k.box vs b;
  cells = loaded_same_cells a k.box box;
  passed = subst (λ us. entry_refusal us (loaded a k.box) ≡ None) e k.passed;
  notes = subst (λ us. AreNotesOf us (loaded a k.box) m.pivots.items) e k.notes;
}

pub entry_here : (a : Street) (box : Area) (vs : List ℕ) (m : EntryMemory) → IsBasisOf a vs → IsKept a m → m.basis.items ≡ vs → IsEntryOf vs m.tableau (loaded_box a box)
entry_here a box vs m b k e = record {
  table = loaded a k.box;
  ready = ready a k.box vs b;
  cells = loaded_same_cells a k.box box;
  is = subst (λ us. m.tableau ≡ entered_box a k.box us) e k.tableau;
}

pub room_here : (a : Street) (box : Area) (pivots : List NotedPivot) → HaveRoom pivots (length (rows_of a) + 1) → HaveRoom pivots (height (loaded a box) + 1)
room_here a box pivots h = subst (λ n. HaveRoom pivots (n + 1)) (sym (height-loaded (artery_table a) box)) h

pub room_back : (a : Street) (box : Area) (pivots : List NotedPivot) → HaveRoom pivots (height (loaded a box) + 1) → HaveRoom pivots (length (rows_of a) + 1)
room_back a box pivots h = subst (λ n. HaveRoom pivots (n + 1)) (height-loaded (artery_table a) box) h

-- ---- a memory that holds nothing
pub forgotten : (a : Street) (m new : EntryMemory) → IsMemoryOf a m → new.is_kept ≡ false → HaveRoom new.pivots.items (length (rows_of a) + 1)
    → new.bounds.len ≡ m.bounds.len → IsMadeFor a new.tableau → IsMemoryOf a new
forgotten a m new h k t b made = record {
  made = made;
  columns = t;
  bounds = sym new.bounds.ok.0 ∙ b ∙ m.bounds.ok.0 ∙ h.bounds;
  kept = λ e. absurd (false≢true (sym k ∙ e));
}

-- and one that holds an entry
pub holding : (a : Street) (box : Area) (vs : List ℕ) (m new : EntryMemory) → IsMemoryOf a m → new.bounds.len ≡ m.bounds.len
    → HaveRoom new.pivots.items (length (rows_of a) + 1) → IsMadeFor a new.tableau
    → new.basis.items ≡ vs → entry_refusal vs (loaded a box) ≡ None → AreNotesOf vs (loaded a box) new.pivots.items → new.tableau ≡ entered_box a box vs → IsMemoryOf a new
holding a box vs m new h b t made e p n x = record {
  made = made;
  columns = t;
  bounds = sym new.bounds.ok.0 ∙ b ∙ m.bounds.ok.0 ∙ h.bounds;
  kept = λ _. record {
    box = box;
    passed = subst (λ us. entry_refusal us (loaded a box) ≡ None) (sym e) p;
    notes = subst (λ us. AreNotesOf us (loaded a box) new.pivots.items) (sym e) n;
    tableau = subst (λ us. new.tableau ≡ entered_box a box us) (sym e) x;
  };
}

-- one of two tableaus
pub made_either : (b : Bool) (a : Street) (t x y : NamedTableau) → (b ≡ true → t ≡ x) → (b ≡ false → t ≡ y) → IsMadeFor a x → IsMadeFor a y → IsMadeFor a t
made_either true a t x y f g p q = subst (IsMadeFor a) (sym (f refl)) p
made_either false a t x y f g p q = subst (IsMadeFor a) (sym (g refl)) q
