-- Each place belongs to a column, and lists that agree in each place are the same.
use Rattle.std.proofs.Common.{◌≡◌, ℕ, suc, ◌+◌, ◌-◌, ◌*◌, ◌<◌, ◌≤◌, inl, inr, List, [], ◌∷◌, length, get_or, refl, ap₂, arith}
use Rattle.std.proofs.lemmas.Bool.{cases_lt}
use Rattle.progression.specs.Columns.{Column, BandOf, Frequency, WaitOf, RunOf, ShiftOf}
use Rattle.progression.specs.declared.parts.Dir.TheVariants.{Outbound, Inbound}
use Rattle.linear_theory.specs.Places.{place, width}
use Rattle.linear_theory.proofs.Places.{IsColumn}

pub record ColumnAt (n j : ℕ) : Type 0 where
  pub column : Column
  pub there : IsColumn n column
  pub is : place n column ≡ j

pub column_at : (n j : ℕ) → 1 ≤ n → j < width n → ColumnAt n j
column_at n j h l = elim (cases_lt j 1) [
  | inl w ↦ record { column = BandOf Outbound; there = tt; is = omega arith }
  | inr w1 ↦ elim (cases_lt j 2) [
    | inl w ↦ record { column = BandOf Inbound; there = tt; is = omega arith }
    | inr w2 ↦ elim (cases_lt j 3) [
      | inl w ↦ record { column = Frequency; there = tt; is = omega arith }
      | inr w3 ↦ elim (cases_lt j (3 + n)) [
        | inl w ↦ record { column = WaitOf Outbound (j - 2); there = (omega arith, omega arith); is = omega arith }
        | inr w4 ↦ elim (cases_lt j (3 + 2 * n)) [
          | inl w ↦ record { column = WaitOf Inbound (j - 2 - n); there = (omega arith, omega arith); is = omega arith }
          | inr w5 ↦ elim (cases_lt j (2 + 3 * n)) [
            | inl w ↦ record { column = RunOf Outbound (j - 2 - 2 * n); there = (omega arith, omega arith); is = omega arith }
            | inr w6 ↦ elim (cases_lt j (1 + 4 * n)) [
              | inl w ↦ record { column = RunOf Inbound (j - 1 - 3 * n); there = (omega arith, omega arith); is = omega arith }
              | inr w7 ↦ record { column = ShiftOf (j - 4 * n); there = (omega arith, omega arith); is = omega arith }
            ]
          ]
        ]
      ]
    ]
  ]
]

pub same_lists : {X : Type 0} (xs ys : List X) (d : X) → length xs ≡ length ys → ((j : ℕ) → j < length xs → get_or xs j d ≡ get_or ys j d) → xs ≡ ys
same_lists [] [] d e h = refl
same_lists [] (y ∷ ys) d e h = absurd (omega arith)
same_lists (x ∷ xs) [] d e h = absurd (omega arith)
same_lists (x ∷ xs) (y ∷ ys) d e h = ap₂ (λ u us. u ∷ us) (h 0 (omega arith)) (same_lists xs ys d (omega arith) (λ j l. h (suc j) (omega arith)))
