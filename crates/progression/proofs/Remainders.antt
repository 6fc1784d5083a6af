-- Remainders by the cycle: a tick by its quotient and its remainder, and which remainders are red.
use Rattle.std.proofs.Common.{◌≡◌, ℕ, suc, ℤ, pos, negsuc, ◌+ℤ◌, ◌-ℤ◌, ◌*ℤ◌, ◌+◌, ◌-◌, ◌*◌, ◌/◌, ◌%◌, ◌<◌, ◌≤◌, refl, sym, ◌∙◌, ap, arith, inl, inr, false}
use Rattle.std.specs.Prelude.{IsTrue}
use Rattle.std.specs.Int.{int_rem_euclid}
use Rattle.std.specs.Int.RustNames.{unsigned_abs}
use Rattle.std.proofs.Math.Nat.{mod-add-mod, mod-eq_of_lt, mod_self, add-mod_left, mul-le-mul_left}
use Rattle.std.proofs.lemmas.Nat.{mod-mul-add, div-add-mod'}
use Rattle.std.proofs.lemmas.Bool.{cases_lt}
use Rattle.std.proofs.lemmas.Bool.Decides.{nat_tests}
use Rattle.std.proofs.lemmas.Int.{ints, int_rem_euclid_is}
use Rattle.rational_theory.proofs.Integers.{+ℤ-*ℤ}
use Rattle.progression.specs.Green.{mod_ℤ, since, is_open}

-- the greatest number of cycles that is at most z
abbrev pub quot_ℤ : ℤ → ℕ → ℤ
quot_ℤ (pos a) c = pos (a / c)
quot_ℤ (negsuc a) c = negsuc (a / c)

-- a number is its quotient times the cycle, and its remainder
pub split_ℤ : (z : ℤ) (c : ℕ) → 0 < c → z ≡ quot_ℤ z c *ℤ pos c +ℤ pos (mod_ℤ z c)
split_ℤ (pos a) c h = let e = div-add-mod' a c in omega (arith, ints, e)
split_ℤ (negsuc a) c h = let e = div-add-mod' a c in let below : a % c < c = omega arith in omega (arith, ints, e)

-- a remainder is below the cycle
pub mod_below : (z : ℤ) (c : ℕ) → 0 < c → mod_ℤ z c < c
mod_below (pos a) c h = omega arith
mod_below (negsuc a) c h = omega arith

-- it is Rust's `rem_euclid`
pub mod-rem : (z : ℤ) (c : ℕ) → int_rem_euclid z (pos c) ≡ pos (mod_ℤ z c)
mod-rem (pos a) c = refl
mod-rem (negsuc a) c = refl

-- the remainder of a number that some cycles move to a natural
pub mod_is : (z : ℤ) (c k m : ℕ) → 0 < c → z +ℤ pos (k * c) ≡ pos m → mod_ℤ z c ≡ m % c
mod_is z c k m h e = ap unsigned_abs (sym (mod-rem z c) ∙ int_rem_euclid_is z (pos c) c k m h refl e)

-- whoever splits a number finds its remainder
pub mod_unique : (z k : ℤ) (c r : ℕ) → z ≡ k *ℤ pos c +ℤ pos r → r < c → mod_ℤ z c ≡ r
mod_unique z (pos n) c r e l =
    let f : z ≡ pos (n * c + r) = omega (arith, ints, e) in
    ap (λ x. mod_ℤ x c) f ∙ mod-mul-add n c r l
mod_unique z (negsuc n) c r e l =
    mod_is z c (suc n) r (omega arith) (omega (arith, ints, e)) ∙ mod-eq_of_lt l

-- whole cycles change no remainder
pub mod-turns : (z k : ℤ) (c : ℕ) → 0 < c → mod_ℤ (z +ℤ k *ℤ pos c) c ≡ mod_ℤ z c
mod-turns z k c h =
    let s = split_ℤ z c h in
    let d = +ℤ-*ℤ (quot_ℤ z c) k (pos c) in
    mod_unique (z +ℤ k *ℤ pos c) (quot_ℤ z c +ℤ k) c (mod_ℤ z c) (omega (arith, ints, s, d)) (mod_below z c h)

-- the remainder of a number t later
pub mod-add : (z : ℤ) (t c : ℕ) → 0 < c → mod_ℤ (z +ℤ pos t) c ≡ (mod_ℤ z c + t) % c
mod-add (pos a) t c h = sym (mod-add-mod a c t)
mod-add (negsuc a) t c h =
    let far : suc a * 1 ≤ suc a * c = mul-le-mul_left (suc a) h in
    let m = suc a * c - suc a in
    let here : mod_ℤ (negsuc a) c ≡ m % c = mod_is (negsuc a) c (suc a) m h (omega (arith, ints)) in
    let there : mod_ℤ (negsuc a +ℤ pos t) c ≡ (m + t) % c = mod_is (negsuc a +ℤ pos t) c (suc a) (m + t) h (omega (arith, ints)) in
    there ∙ sym (mod-add-mod m c t) ∙ ap (λ r. (r + t) % c) (sym here)

-- the ticks since the red's start, t ticks later
pub since-later : (c : ℕ) (start x : ℤ) (t : ℕ) → 0 < c → since c start (x +ℤ pos t) ≡ (since c start x + t) % c
since-later c start x t h =
    let e : (x +ℤ pos t) -ℤ start ≡ (x -ℤ start) +ℤ pos t = omega (arith, ints) in
    ap (λ z. mod_ℤ z c) e ∙ mod-add (x -ℤ start) t c h

-- ---- reds
-- the first tick of a red is green
pub open_at_start : (red r : ℕ) → r ≡ 0 → IsTrue (is_open red r)
open_at_start red r h = grind (arith, nat_tests)

-- and so is every tick from its end on
pub open_at_end : (red r : ℕ) → red ≤ r → IsTrue (is_open red r)
open_at_end red r h = grind (arith, nat_tests)

-- between them no tick is
pub shut_inside : (red r : ℕ) → 0 < r → r < red → is_open red r ≡ false
shut_inside red r h k = grind (arith, nat_tests)

-- from the end of the red to the next start
pub open_until_start : (c red r t : ℕ) → 0 < c → red ≤ r → r + t ≤ c → IsTrue (is_open red ((r + t) % c))
open_until_start c red r t p h k = elim (cases_lt (r + t) c) [
  | inl w ↦ open_at_end red ((r + t) % c) (let e : (r + t) % c ≡ r + t = mod-eq_of_lt w in omega arith)
  | inr w ↦ open_at_start red ((r + t) % c) (let e : r + t ≡ c = omega arith in rw e (mod_self c))
]

-- one tick after the next start
pub shut_past_start : (c red r t : ℕ) → 2 ≤ red → red < c → r + t ≡ c + 1 → is_open red ((r + t) % c) ≡ false
shut_past_start c red r t h k e =
    let one : (r + t) % c ≡ 1 = ap (λ x. x % c) e ∙ add-mod_left c 1 ∙ mod-eq_of_lt (omega arith) in
    shut_inside red ((r + t) % c) (omega arith) (omega arith)
