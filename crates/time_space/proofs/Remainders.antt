-- Bands that are green or meet a red, on the ticks since the last start of a red.
use Rattle.std.proofs.Common.{◌≡◌, ℕ, ◌+◌, ◌-◌, ◌%◌, ◌<◌, ◌≤◌, arith, subst, ◌∙◌, ap}
use Rattle.std.specs.Prelude.{ℤ, IsTrue, Option, None, Some, MatchOption}
use Rattle.std.proofs.Math.Nat.{mod-eq_of_lt}
use Rattle.progression.specs.Green.{since, is_open, BandIsGreen}
use Rattle.progression.proofs.Remainders.{since-later, open_at_start, shut_inside, open_until_start, shut_past_start}
use Rattle.time_space.specs.FirstRed.{IsFirstShut, IsFirstRed}

-- the first tick of a red is green, and the second isn't
pub first_at_one : (c red r b : ℕ) → 2 ≤ red → red < c → r ≡ 0 → 0 < b → IsFirstShut c red r b 1
first_at_one c red r b h k e p =
    let at : (t : ℕ) → t < 2 → (r + t) % c ≡ t = λ t w. let q : r + t ≡ t = omega arith in ap (λ x. x % c) q ∙ mod-eq_of_lt (omega arith) in
    record {
      within = omega arith;
      shut_there = let e1 = at 1 (omega arith) in shut_inside red ((r + 1) % c) (omega arith) (omega arith);
      open_before = λ s w. let es = at s (omega arith) in open_at_start red ((r + s) % c) (omega arith);
    }

pub first_at_once : (c red r b : ℕ) → red < c → 0 < r → r < red → IsFirstShut c red r b 0
first_at_once c red r b k p w = record {
  within = omega arith;
  shut_there = let q : r + 0 ≡ r = omega arith in let e : (r + 0) % c ≡ r = ap (λ x. x % c) q ∙ mod-eq_of_lt (omega arith) in shut_inside red ((r + 0) % c) (omega arith) (omega arith);
  open_before = λ s z. absurd (omega arith);
}

pub first_past_end : (c red r b : ℕ) → 2 ≤ red → red < c → red ≤ r → r < c → c - r < b → IsFirstShut c red r b (c - r + 1)
first_past_end c red r b h k w z p = record {
  within = omega arith;
  shut_there = shut_past_start c red r (c - r + 1) h k (omega arith);
  open_before = λ s y. open_until_start c red r s (omega arith) w (omega arith);
}

pub none_until_end : (c red r b : ℕ) → 0 < c → red ≤ r → r + b ≤ c → (t : ℕ) → t ≤ b → IsTrue (is_open red ((r + t) % c))
none_until_end c red r b p w z t y = open_until_start c red r t p w (omega arith)

pub band_from_shut : (c red : ℕ) (a x : ℤ) (b : ℕ) → 0 < c → ((t : ℕ) → t ≤ b → IsTrue (is_open red ((since c a x + t) % c))) → BandIsGreen c a red x b
band_from_shut c red a x b h f = λ t w. rw (since-later c a x t h) (f t w)

pub first_from_shut : (c red : ℕ) (a x : ℤ) (b t : ℕ) → 0 < c → IsFirstShut c red (since c a x) b t → IsFirstRed c a red x b t
first_from_shut c red a x b t h f = record {
  within = f.within;
  red_there = rw (since-later c a x t h) f.shut_there;
  green_before = λ s w. rw (since-later c a x s h) (f.open_before s w);
}

-- what holds of the remainders holds of the ticks
pub band_result : (o : Option ℕ) (c red r : ℕ) (a x : ℤ) (b : ℕ) → 0 < c → r ≡ since c a x
    → MatchOption o ((t : ℕ) → t ≤ b → IsTrue (is_open red ((r + t) % c))) (λ t. IsFirstShut c red r b t)
    → MatchOption o (BandIsGreen c a red x b) (λ t. IsFirstRed c a red x b t)
band_result None c red r a x b h e f = band_from_shut c red a x b h (subst (λ q. (t : ℕ) → t ≤ b → IsTrue (is_open red ((q + t) % c))) e f)
band_result (Some t) c red r a x b h e f = first_from_shut c red a x b t h (subst (λ q. IsFirstShut c red q b t) e f)
