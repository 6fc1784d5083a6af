-- Lemmas on marks.
use lib.Dec.{eqb-suc-zero}
use Rattle.std.proofs.Common.{true, ◌≡◌, ◌==◌, ℕ, zero, suc, pos, List, [], ◌∷◌, ◌++◌, length, get_or, set, take, eqb, ◌+◌, ◌/◌, ◌^◌, ◌<◌, ◌≤◌, ◌%◌, ◌⊎◌, inl, inr, refl, sym, ◌∙◌, ap, subst, arith}
use Rattle.std.specs.Int.{bit_at}
use Rattle.std.proofs.lemmas.Nat.Bits.{bit_at_ones, shr_and_one}
use Rattle.std.specs.Int.Bits.{bit_and}
use Rattle.std.proofs.lemmas.List.{take_more, take_more_set, append-nil}
use Rattle.std.proofs.lemmas.Bool.{cond-false, ne_eqb, cases_eq}
use Rattle.rational_theory.specs.Rational.{ℚ, whole}
use Rattle.fraction_tableau.specs.declared.kept.Kept.{Kept}
use Rattle.fraction_tableau.specs.KeptCells.{number_in, kept_at, cell_in, dense_row}
use Rattle.fraction_tableau.specs.Marks.{AreMarked}
use Rattle.fraction_tableau.proofs.KeptCells.{clash, in_left, kept_apart, dense_cell, zero_or_not, kept_zero, kept_some}

pub all_marked : (cells : List Kept) → AreMarked 18446744073709551615 cells
all_marked cells = record { empty = λ k z. absurd (let a : bit_at 18446744073709551615 (k % 64) ≡ 1 = bit_at_ones 64 (k % 64) (omega arith) in omega (arith, a, z)) }

pub none_marked : (marks : ℕ) → AreMarked marks []
none_marked marks = record { empty = λ _ _. refl }

bit_zero : (b : ℕ) → (b == 0) ≡ true → b ≡ 0
bit_zero zero e = refl
bit_zero (suc b) e = absurd (clash e (eqb-suc-zero b))

pub bit_clear : (n i : ℕ) → (bit_and (n / 2 ^ i) 1 == 0) ≡ true → bit_at n i ≡ 0
bit_clear n i e = bit_zero (bit_at n i) (sym (ap (λ x. x == 0) (shr_and_one n i)) ∙ e)

-- cells behind others, all at one place, with its mark
module _ (marks new place : ℕ) (xs : List Kept) where
  marked_with : (ys : List Kept) → ((k : ℕ) → (k ≡ place → ⊥) → cell_in ys k ≡ whole (pos 0)) → AreMarked marks xs → bit_at new (place % 64) ≡ 1
      → ((k : ℕ) → (k ≡ place % 64 → ⊥) → bit_at new k ≡ bit_at marks k) → AreMarked new (xs ++ ys)
  marked_with ys apart m s o = record { empty = λ k z. pick k z (cases_eq (k % 64) (place % 64)) }
    where
      pick : (k : ℕ) → bit_at new (k % 64) ≡ 0 → (k % 64 ≡ place % 64) ⊎ (k % 64 ≡ place % 64 → ⊥) → cell_in (xs ++ ys) k ≡ whole (pos 0)
      pick k z (inl e) = absurd (let a = ap (bit_at new) e in omega (arith, a, z, s))
      pick k z (inr n) = in_left k xs ys (apart k (λ e. n (ap (λ x. x % 64) e))) ∙ m.empty k (sym (o (k % 64) n) ∙ z)

  marked_kept : (x : ℚ) → AreMarked marks xs → bit_at new (place % 64) ≡ 1 → ((k : ℕ) → (k ≡ place % 64 → ⊥) → bit_at new k ≡ bit_at marks k) → AreMarked new (xs ++ kept_at place x)
  marked_kept x = marked_with (kept_at place x) (λ k n. kept_apart k place x n)

  -- .. with its mark where there is a cell, and with the same marks where there is none
  pub marked_where : (x : ℚ) (made put : ℕ) → AreMarked marks xs → put ≡ made + length (kept_at place x) → (made < put → bit_at new (place % 64) ≡ 1)
      → ((k : ℕ) → (k ≡ place % 64 → ⊥) → bit_at new k ≡ bit_at marks k) → (put ≤ made → new ≡ marks) → AreMarked new (xs ++ kept_at place x)
  marked_where x made put m e s o z = pick (zero_or_not x)
    where
      pick : (x ≡ whole (pos 0)) ⊎ (x ≡ whole (pos 0) → ⊥) → AreMarked new (xs ++ kept_at place x)
      pick (inl h) =
          let none = kept_zero place x h in
          let same = z (let l = ap length none in omega arith) in
          subst (λ t. AreMarked new (xs ++ t)) (sym none) (subst (AreMarked new) (sym (append-nil xs)) (subst (λ t. AreMarked t xs) (sym same) m))
      pick (inr h) = marked_kept x m (s (let l = ap length (kept_some place x h) in omega arith)) o

alone : (k : ℕ) (c : Kept) → (k ≡ c.place → ⊥) → cell_in (c ∷ []) k ≡ whole (pos 0)
alone k c n = cond-false (eqb k c.place) c.cell (whole (pos 0)) (ne_eqb k c.place n)

-- one cell more of a list, with its mark
pub marked_next : (marks new i : ℕ) (cells : List Kept) (c : Kept) → i < length cells → c ≡ get_or cells i c → AreMarked marks (take i cells)
    → bit_at new (c.place % 64) ≡ 1 → ((k : ℕ) → (k ≡ c.place % 64 → ⊥) → bit_at new k ≡ bit_at marks k) → AreMarked new (take (i + 1) cells)
marked_next marks new i cells c l g m s o =
    subst (AreMarked new) (sym (take_more cells i c l ∙ ap (λ x. take i cells ++ x ∷ []) (sym g))) (marked_with marks new c.place (take i cells) (c ∷ []) (λ k n. alone k c n) m s o)

pub marked_put : (marks new made : ℕ) (cells : List Kept) (c : Kept) → made < length cells → AreMarked marks (take made cells) → bit_at new (c.place % 64) ≡ 1
    → ((k : ℕ) → (k ≡ c.place % 64 → ⊥) → bit_at new k ≡ bit_at marks k) → AreMarked new (take (made + 1) (set cells made c))
marked_put marks new made cells c l m s o =
    subst (AreMarked new) (sym (take_more_set cells made c l)) (marked_with marks new c.place (take made cells) (c ∷ []) (λ k n. alone k c n) m s o)

-- a place whose bit is clear has no cell
pub unmarked : (w : ℕ) (cells : List Kept) (b : ℚ) (row : List ℚ) (marks k : ℕ) → AreMarked marks cells → dense_row w cells b ≡ row → k < w
    → bit_at marks (k % 64) ≡ 0 → whole (pos 0) ≡ number_in row k
unmarked w cells b row marks k m e h z = sym (m.empty k z) ∙ sym (dense_cell w cells b k h) ∙ ap (λ t. number_in t k) e
