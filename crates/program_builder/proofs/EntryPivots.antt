-- The search for a row, and one variable more.
use Rattle.std.proofs.Common.{◌≡◌, ℕ, true, false, Some, None, List, length, add-one, ◌+◌, ◌<◌, refl, sym, ◌∙◌, ap, arith}
use Rattle.simplex_theory.specs.Tableau.{Tableau, height}
use Rattle.narrow_fraction.specs.Attempt.{first_below}
use Rattle.narrow_fraction.proofs.Attempt.{first_next, first_is}
use Rattle.entry_theory.proofs.Least.{least_is, least_none}
use Rattle.entry_theory.specs.Entry.{variable_at, can_take, entry_row, entry_pivot, entry_after, entry}
use Rattle.fraction_tableau.specs.NamedTableaus.{NamedTableau}
use Rattle.fraction_tableau.specs.declared.wide_cell.WideCell.{WideCell}
use Rattle.program_builder.specs.EntryRefusals.{refusal_at, variable_refusal, entry_refusal}

pub row_found : (vs : List ℕ) (t : Tableau) (j r : ℕ) → r < height t → ((k : ℕ) → k < r → can_take vs t j k ≡ false) → can_take vs t j r ≡ true → r ≡ entry_row vs t j
unfolding entry_row
row_found vs t j r h n e = sym (least_is (can_take vs t j) (height t) r (record { within = h; passes = e; before = n }))

pub row_none : (vs : List ℕ) (t : Tableau) (j m : ℕ) → m ≡ height t → ((k : ℕ) → k < m → can_take vs t j k ≡ false) → m ≡ entry_row vs t j
unfolding entry_row
row_none vs t j m e n = e ∙ sym (least_none (can_take vs t j) (height t) (λ k l. n k (omega arith)))

-- the tableau after so many variables of the entry from s
abbrev pub pivoted : List ℕ → NamedTableau → ℕ → NamedTableau
pivoted vs s k = record { table = entry_after vs s.table k; names = s.names; spent = s.spent }

pub pivoted_none : (vs : List ℕ) (s : NamedTableau) → s ≡ pivoted vs s 0
unfolding entry_after
pivoted_none vs s = refl

pub pivoted_next : (vs : List ℕ) (s t u : NamedTableau) (k : ℕ) → t ≡ pivoted vs s k → u ≡ record { table = entry_pivot vs t.table (variable_at vs k); names = t.names; spent = t.spent }
    → u ≡ pivoted vs s (k + 1)
unfolding entry_after
pivoted_next vs s t u k e f =
    f ∙ ap (λ (x : NamedTableau). record { table = entry_pivot vs x.table (variable_at vs k); names = x.names; spent = x.spent }) e
    ∙ ap (λ n. pivoted vs s n) (sym (add-one k))

pub pivoted_all : (vs : List ℕ) (s : NamedTableau) (k : ℕ) → k ≡ length vs → pivoted vs s k ≡ record { table = entry vs s.table; names = s.names; spent = s.spent }
unfolding entry
pivoted_all vs s k e = ap (pivoted vs s) e

pub all_passed : (vs : List ℕ) (t : Tableau) (k : ℕ) → k ≡ length vs → first_below (refusal_at vs t) k ≡ None → entry_refusal vs t ≡ None
unfolding entry_refusal
all_passed vs t k e h = ap (first_below (refusal_at vs t)) (sym e) ∙ h

-- the refusal at a variable in the tableau that was reached
pub refusal_here : (vs : List ℕ) (s t : NamedTableau) (k : ℕ) → t ≡ pivoted vs s k → variable_refusal vs t.table (variable_at vs k) ≡ refusal_at vs s.table k
refusal_here vs s t k e = ap (λ (x : NamedTableau). variable_refusal vs x.table (variable_at vs k)) e

pub first_refused : (vs : List ℕ) (s t : NamedTableau) (k : ℕ) (o : WideCell) → t ≡ pivoted vs s k → first_below (refusal_at vs s.table) k ≡ None
    → variable_refusal vs t.table (variable_at vs k) ≡ Some o → k < length vs
    → entry_refusal vs s.table ≡ Some o
unfolding entry_refusal
first_refused vs s t k o e p q h = first_is (refusal_at vs s.table) k (length vs) o p (sym (refusal_here vs s t k e) ∙ q) h

pub passed_next : (vs : List ℕ) (s t : NamedTableau) (k : ℕ) → t ≡ pivoted vs s k → first_below (refusal_at vs s.table) k ≡ None
    → variable_refusal vs t.table (variable_at vs k) ≡ None → first_below (refusal_at vs s.table) (k + 1) ≡ None
passed_next vs s t k e p q = first_next (refusal_at vs s.table) k p (sym (refusal_here vs s t k e) ∙ q)
