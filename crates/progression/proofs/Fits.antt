-- A band is green exactly where it lies between the end of a red and the start of the next, or is a line at the start of a red.
use Rattle.std.proofs.Common.{◌≡◌, ℕ, ℤ, ◌-ℤ◌, ◌+◌, ◌-◌, ◌%◌, ◌<◌, ◌≤◌, ◌⊎◌, inl, inr, ◌∙◌, ap, arith, false, add-zero}
use Rattle.std.specs.Prelude.{IsTrue}
use Rattle.std.proofs.Math.Nat.{mod-eq_of_lt}
use Rattle.std.proofs.lemmas.Bool.{cases_lt, cases_eq}
use Rattle.progression.specs.Green.{since, is_open, BandIsGreen}
use Rattle.progression.proofs.Remainders.{mod_below, since-later, open_at_start, shut_inside, open_until_start, shut_past_start}

-- a band of this width that begins r ticks after the start of the red
pub record Fits (c red r band : ℕ) : Type 0 where
  pub free : ((r ≡ 0) × (band ≡ 0)) ⊎ (red ≤ r)
  pub room : r + band ≤ c

module _ (c red r b : ℕ) (h : 2 ≤ red) (k : red < c) (l : r < c) where
  -- a green band begins at the start of the red, and is a line, or after its end
  free_from_green : ((t : ℕ) → t ≤ b → IsTrue (is_open red ((r + t) % c))) → ((r ≡ 0) × (b ≡ 0)) ⊎ (red ≤ r)
  free_from_green g = elim (cases_lt r red) [
    | inr w ↦ inr w
    | inl w ↦ elim (cases_eq r 0) [
      | inl z ↦ elim (cases_eq b 0) [
        | inl y ↦ inl (z, y)
        | inr y ↦ let one : (r + 1) % c ≡ 1 = ap (λ q. (q + 1) % c) z ∙ mod-eq_of_lt (omega arith) in
            let no : is_open red ((r + 1) % c) ≡ false = shut_inside red ((r + 1) % c) (omega arith) (omega arith) in
            let yes = g 1 (omega arith) in absurd (cc)
      ]
      | inr z ↦ let zero : (r + 0) % c ≡ r = ap (λ q. q % c) (add-zero r) ∙ mod-eq_of_lt l in
          let no : is_open red ((r + 0) % c) ≡ false = shut_inside red ((r + 0) % c) (omega arith) (omega arith) in
          let yes = g 0 (omega arith) in absurd (cc)
    ]
  ]

  -- it ends before the next red
  room_from_green : ((t : ℕ) → t ≤ b → IsTrue (is_open red ((r + t) % c))) → r + b ≤ c
  room_from_green g = elim (cases_lt c (r + b)) [
    | inr w ↦ w
    | inl w ↦ let no = shut_past_start c red r (c + 1 - r) h k (omega arith) in let yes = g (c + 1 - r) (omega arith) in absurd (cc)
  ]

  -- what fits is green
  green_from_fits : Fits c red r b → (t : ℕ) → t ≤ b → IsTrue (is_open red ((r + t) % c))
  green_from_fits f t w = let room = f.room in elim f.free [
    | inl z ↦ open_at_start red ((r + t) % c) (let e : r + t ≡ 0 = omega arith in ap (λ q. q % c) e ∙ mod-eq_of_lt (omega arith))
    | inr z ↦ open_until_start c red r t (omega arith) z (omega arith)
  ]

module _ (c red : ℕ) (start x : ℤ) (b : ℕ) (h : 2 ≤ red) (k : red < c) where
  -- a green band fits
  pub fits_from_band : BandIsGreen c start red x b → Fits c red (since c start x) b
  fits_from_band g =
      let below = mod_below (x -ℤ start) c (omega arith) in
      let open_at : (t : ℕ) → t ≤ b → IsTrue (is_open red ((since c start x + t) % c)) = λ t w. rw (← since-later c start x t (omega arith)) (g t w) in
      record { free = free_from_green c red (since c start x) b h k below open_at; room = room_from_green c red (since c start x) b h k below open_at }

  -- a band that fits is green
  pub band_from_fits : Fits c red (since c start x) b → BandIsGreen c start red x b
  band_from_fits f = λ t w. rw (since-later c start x t (omega arith)) (green_from_fits c red (since c start x) b h k (mod_below (x -ℤ start) c (omega arith)) f t w)
