-- Where a red is centred at 0.
use Rattle.std.proofs.Common.{◌≡◌, ◌↔◌, ◌==◌, ◌&&◌, inl, inr, refl, Bool, true, false, ℕ, ℤ, pos, ◌-ℤ◌, ◌+◌, ◌/◌, ◌%◌, sym, ◌∙◌, ap, arith, nat_eq, IsTrue, not}
use Rattle.std.proofs.lemmas.Bool.Decides.{nat_tests}
use Rattle.std.specs.Prelude.{if◌then◌else◌}
use Rattle.progression.specs.Street.{Street, HasSignal}
use Rattle.progression.specs.TimingRecord.{TimingRecord, base}
use Rattle.progression.specs.BaseRecord.{cycle}
use Rattle.progression.specs.Green.{mod_ℤ, since, red_start, red_ticks}
use Rattle.progression.specs.declared.parts.Dir.TheVariants.{Outbound}
use Rattle.mirror_theory.specs.EqualBands.{IsCentred, IsHalfCycleBest}
use Rattle.half_integer.specs.Phases.{is_centred, is_later, PhasesSay}

halves_of : (red : ℕ) → red % 2 ≡ 0 → red / 2 + red / 2 ≡ red
halves_of red e = omega (arith, e)

same_half : (x y n : ℕ) → x + x ≡ n → y + y ≡ n → x ≡ y
same_half x y n e f = omega (arith, e, f)

not_zero : (r : ℕ) → IsTrue (not (nat_eq r 0)) ↔ ¬ (r ≡ 0)
not_zero r = grind (arith, nat_tests)

pub not_centred : (a : Street) (s : TimingRecord) (i red r c : ℕ) (start tick : ℤ) → red ≡ red_ticks a (base s) Outbound i → red % 2 ≡ 0
    → c ≡ cycle a (base s) → start ≡ red_start a (base s) Outbound i
    → tick ≡ pos 0 -ℤ pos (red / 2) → r ≡ mod_ℤ (tick -ℤ start) c → IsTrue (not (nat_eq r 0)) ↔ ¬ IsCentred a s Outbound i (pos 0)
not_centred a s i red r c start tick e f g h k v =
    let halved : red / 2 + red / 2 ≡ red_ticks a (base s) Outbound i = halves_of red f ∙ e in
    let value : r ≡ mod_ℤ (pos 0 -ℤ pos (red / 2) -ℤ red_start a (base s) Outbound i) (cycle a (base s)) = v ∙ ap (λ z. mod_ℤ (z -ℤ start) c) k
    ∙ ap (λ z. mod_ℤ (pos 0 -ℤ pos (red / 2) -ℤ z) c) h ∙ ap (λ n. mod_ℤ (pos 0 -ℤ pos (red / 2) -ℤ red_start a (base s) Outbound i) n) g in (
      (λ n at. (not_zero r).0 n (value
          ∙ ap (λ n. mod_ℤ (pos 0 -ℤ pos n -ℤ red_start a (base s) Outbound i) (cycle a (base s))) (same_half (red / 2) at.half (red_ticks a (base s) Outbound i) halved at.halved)
          ∙ at.begins)),
      (λ n. (not_zero r).1 (λ z. n (record { half = red / 2; halved = halved; begins = sym value ∙ z }))),
    )

-- ---- the test
both_zero : (m n : ℕ) → m ≡ 0 → n ≡ 0 → ((m == 0) && (n == 0)) ≡ true
both_zero m n e f = grind (arith, nat_tests)

first_zero : (m n : ℕ) → ((m == 0) && (n == 0)) ≡ true → m ≡ 0
first_zero m n e = grind (arith, nat_tests)

second_zero : (m n : ℕ) → ((m == 0) && (n == 0)) ≡ true → n ≡ 0
second_zero m n e = grind (arith, nat_tests)

even_of : (half red : ℕ) → half + half ≡ red → red % 2 ≡ 0
even_of half red e = omega (arith, e)

half_is : (half red : ℕ) → half + half ≡ red → half ≡ red / 2
half_is half red e = omega (arith, e)

module _ (a : Street) (s : TimingRecord) (i : ℕ) where
  centred_of : is_centred a s i ≡ true → IsCentred a s Outbound i (pos 0)
  centred_of e = record {
    half = red_ticks a (base s) Outbound i / 2;
    halved = halves_of (red_ticks a (base s) Outbound i) (first_zero (red_ticks a (base s) Outbound i % 2) _ e);
    begins = second_zero (red_ticks a (base s) Outbound i % 2) _ e;
  }

  centred_is : IsCentred a s Outbound i (pos 0) → is_centred a s i ≡ true
  centred_is h = both_zero (red_ticks a (base s) Outbound i % 2) _ (even_of h.half (red_ticks a (base s) Outbound i) h.halved)
      (ap (λ n. since (cycle a (base s)) (red_start a (base s) Outbound i) (pos 0 -ℤ pos n)) (sym (half_is h.half (red_ticks a (base s) Outbound i) h.halved)) ∙ h.begins)

true_false : true ≡ false → ⊥
true_false e = absurd cc

phase_says : (a : Street) (t s : TimingRecord) (i : ℕ) (b : Bool) → is_centred a s i ≡ b → IsHalfCycleBest a t s → HasSignal a i
    → IsCentred a s Outbound i (if not b then pos (cycle a (base t)) else pos 0)
phase_says a t s i true e best at = centred_of a s i e
phase_says a t s i false e best at = elim (best.centred Outbound i at) [
  | inl zero ↦ absurd (true_false (sym (centred_is a s i zero) ∙ e))
  | inr later ↦ later
]

pub phases_say : PhasesSay
unfolding is_later
phases_say a t s i best at = phase_says a t s i (is_centred a s i) refl best at

-- ---- what the code answers
odd_test : (m n : ℕ) → (m ≡ 0 → ⊥) → not (nat_eq m 0) ≡ not ((m == 0) && (n == 0))
odd_test m n h = grind (arith, nat_tests)

even_test : (m n : ℕ) → m ≡ 0 → not (nat_eq n 0) ≡ not ((m == 0) && (n == 0))
even_test m n e = grind (arith, nat_tests)

pub later_odd : (a : Street) (s : TimingRecord) (i red : ℕ) → red ≡ red_ticks a (base s) Outbound i → (red % 2 ≡ 0 → ⊥) → not (nat_eq (red % 2) 0) ≡ is_later a s i
unfolding is_later
later_odd a s i red e h = ap (λ n. not (nat_eq (n % 2) 0)) e ∙ odd_test (red_ticks a (base s) Outbound i % 2) _ (λ z. h (ap (λ n. n % 2) e ∙ z))

pub later_even : (a : Street) (s : TimingRecord) (i red r c : ℕ) (start tick : ℤ) → red ≡ red_ticks a (base s) Outbound i → red % 2 ≡ 0 → c ≡ cycle a (base s) → start ≡ red_start a (base s) Outbound i
    → tick ≡ pos 0 -ℤ pos (red / 2) → r ≡ mod_ℤ (tick -ℤ start) c → not (nat_eq r 0) ≡ is_later a s i
unfolding is_later
later_even a s i red r c start tick e f g h k v =
    let value : r ≡ since (cycle a (base s)) (red_start a (base s) Outbound i) (pos 0 -ℤ pos (red_ticks a (base s) Outbound i / 2)) = v ∙ ap (λ z. mod_ℤ (z -ℤ start) c) k
    ∙ ap (λ z. mod_ℤ (pos 0 -ℤ pos (red / 2) -ℤ z) c) h ∙ ap (λ n. mod_ℤ (pos 0 -ℤ pos (red / 2) -ℤ red_start a (base s) Outbound i) n) g
    ∙ ap (λ n. mod_ℤ (pos 0 -ℤ pos (n / 2) -ℤ red_start a (base s) Outbound i) (cycle a (base s))) e in
    ap (λ n. not (nat_eq n 0)) value ∙ even_test (red_ticks a (base s) Outbound i % 2) _ (sym (ap (λ n. n % 2) e) ∙ f)
