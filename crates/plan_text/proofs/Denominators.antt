-- The least common denominator of multipliers, as it grows by one multiplier after the other.
use Rattle.std.proofs.Common.{◌≡◌, ℕ, suc, zero, ◌+◌, ◌*◌, ◌<◌, ◌≤◌, List, [], ◌∷◌, drop, get_or, length, sym, ap, arith, add-one, drop-cons}
use Rattle.std.proofs.lemmas.List.{drop_all}
use Rattle.rational_theory.specs.Gcd.{lcm}
use Rattle.rational_theory.proofs.Multiples.{IsMultiple, multiple_on, lcm_first, lcm_above}
use Rattle.named_row.specs.declared.leaves.Weight.{Weight}
use Rattle.plan_text.specs.Leaves.{denominator_from}

-- it is above 0
pub denominator_above : (d : ℕ) (ws : List Weight) → 0 < d → 0 < denominator_from d ws
unfolding denominator_from
denominator_above d [] h = h
denominator_above d (w ∷ ws) h = denominator_above (lcm d w.by.den) ws (lcm_above d w.by.den h w.by.positive)

-- and a multiple of the number from which it begins
pub denominator_multiple : (d : ℕ) (ws : List Weight) → IsMultiple (denominator_from d ws) d
unfolding denominator_from
denominator_multiple d [] = record { times = 1; is = omega arith }
denominator_multiple d (w ∷ ws) = multiple_on (denominator_multiple (lcm d w.by.den) ws) (lcm_first d w.by.den w.by.positive)

times_size : (t d n : ℕ) → n ≡ t * d → 0 < n → d ≤ n
times_size zero d n e h = absurd (omega (arith, e))
times_size (suc t) d n e h = omega (arith, e)

pub multiple_size : (n d : ℕ) → IsMultiple n d → 0 < n → d ≤ n
multiple_size n d m h = times_size m.times d n m.is h

-- so it is at least that number
pub denominator_least : (d : ℕ) (ws : List Weight) → 0 < d → d ≤ denominator_from d ws
denominator_least d ws h = multiple_size (denominator_from d ws) d (denominator_multiple d ws) (denominator_above d ws h)

-- one more multiplier
pub denominator_next : (d : ℕ) (ws : List Weight) (i : ℕ) (e w : Weight) → i < length ws → w ≡ get_or ws i e → denominator_from d (drop i ws) ≡ denominator_from (lcm d w.by.den) (drop (i + 1) ws)
unfolding denominator_from
denominator_next d ws i e w lt is = rw (add-one, drop-cons ws i e) (ap (λ (v : Weight). denominator_from (lcm d v.by.den) (drop (suc i) ws)) (sym is))

pub denominator_passed : (d : ℕ) (ws : List Weight) (i : ℕ) → length ws ≤ i → denominator_from d (drop i ws) ≡ d
unfolding denominator_from
denominator_passed d ws i le = ap (denominator_from d) (drop_all i ws le)
