-- Whether a pivot is due.
use Rattle.std.proofs.Common.{◌≡◌, ℕ, true, false, true≢false, Option, Some, None, is_some, ◌<◌, refl, sym, ◌∙◌, ap}
use Rattle.simplex_theory.specs.Tableau.{Tableau, cell, width}
use Rattle.simplex_theory.proofs.Best.{OnBest}
use Rattle.simplex_theory.specs.BlandRule.{is_negative, place_before, chosen_row, chosen_place, move, move_by, move_in}
use Rattle.simplex_theory.proofs.BlandRule.{on_place}
use Rattle.simplex_theory.specs.StepCounts.{is_pivot}

has_one : (t : Tableau) (r k : ℕ) (o : Option ℕ) → OnBest (λ k. is_negative (cell t r k)) (place_before t r) (width t) o → k < width t → is_negative (cell t r k) ≡ true → is_some o ≡ true
has_one t r k None h l e = absurd (h k l e)
has_one t r k (Some j) h l e = refl

pub has_place : (t : Tableau) (r k : ℕ) → k < width t → is_negative (cell t r k) ≡ true → is_some (chosen_place t r) ≡ true
has_place t r k h e = has_one t r k (chosen_place t r) (on_place t r) h e

has_none : (t : Tableau) (r : ℕ) (o : Option ℕ) → OnBest (λ k. is_negative (cell t r k)) (place_before t r) (width t) o → ((k : ℕ) → k < width t → is_negative (cell t r k) ≡ false) → is_some o ≡ false
has_none t r None h f = refl
has_none t r (Some j) h f = absurd (true≢false (sym h.passes ∙ f j h.within))

pub no_place : (t : Tableau) (r : ℕ) → ((k : ℕ) → k < width t → is_negative (cell t r k) ≡ false) → is_some (chosen_place t r) ≡ false
no_place t r f = has_none t r (chosen_place t r) (on_place t r) f

due_in : (r : ℕ) (o : Option ℕ) → is_pivot (move_in r o) ≡ is_some o
due_in r None = refl
due_in r (Some j) = refl

pub due_some : (t : Tableau) (r : ℕ) → Some r ≡ chosen_row t → is_pivot (move t) ≡ is_some (chosen_place t r)
unfolding move
due_some t r e = ap (λ o. is_pivot (move_by t o)) (sym e) ∙ due_in r (chosen_place t r)

pub due_none : (t : Tableau) → None ≡ chosen_row t → is_pivot (move t) ≡ false
unfolding move
due_none t e = ap (λ o. is_pivot (move_by t o)) (sym e)
