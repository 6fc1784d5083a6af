-- A tick isn't green exactly where it lies strictly inside a red of some cycle.
use Rattle.std.proofs.Common.{◌≡◌, ℕ, ◌<◌, ◌≤◌, arith, refl, sym, subst, inl, inr, false}
use Rattle.std.specs.Prelude.{ℤ, pos, negsuc, ◌+ℤ◌, ◌-ℤ◌, ◌*ℤ◌, ◌<ℤ◌}
use Rattle.std.proofs.lemmas.Bool.{cases_lt, cases_eq}
use Rattle.std.proofs.lemmas.Int.{ints}
use Rattle.progression.specs.Green.{mod_ℤ, since, is_open, is_green}
use Rattle.progression.proofs.Remainders.{quot_ℤ, split_ℤ, mod_below, mod_unique, open_at_start, open_at_end, shut_inside}
use Rattle.time_space.specs.Reds.{start_after, IsInside, RedsAreIntervals, SinceLastStart}

-- whole cycles and the remainder
turns : (z : ℤ) (c : ℕ) → 0 < c → (k : ℤ) × (k *ℤ pos c +ℤ pos (mod_ℤ z c) ≡ z)
turns z c h = (quot_ℤ z c, sym (split_ℤ z c h))

module _ (c : ℕ) (s : ℤ) (x : ℤ) where
  last_start : 0 < c → (k : ℤ) × (start_after c s k +ℤ pos (since c s x) ≡ x)
  last_start h = let t = turns (x -ℤ s) c h in (t.0, let e = t.1 in omega (arith, ints, e))

  since_is : (k : ℤ) (r : ℕ) → r < c → start_after c s k +ℤ pos r ≡ x → since c s x ≡ r
  since_is k r h e = mod_unique (x -ℤ s) k c r (omega (arith, ints, e)) h

pub since_law : SinceLastStart
since_law c s x r h = (
  (λ e. (let b = mod_below (x -ℤ s) c h in omega (arith, b, e), subst (λ q. (k : ℤ) × (start_after c s k +ℤ pos q ≡ x)) e (last_start c s x h))),
  (λ p. since_is c s x p.1.0 r p.0 p.1.1),
)

-- a red that is on has begun and isn't over
on : (red r : ℕ) → is_open red r ≡ false → (0 < r) × (r < red)
on red r e = (
  elim (cases_eq r 0) [ inl z ↦ (let o = open_at_start red r z in absurd (cc)) | inr z ↦ omega arith ],
  elim (cases_lt r red) [ inl w ↦ w | inr w ↦ (let o = open_at_end red r w in absurd (cc)) ],
)

-- the distance of a later number
apart : (a b : ℤ) → a <ℤ b → (r : ℕ) × (a +ℤ pos r ≡ b)
apart a b h = elim (b -ℤ a) as (λ d. b -ℤ a ≡ d → (r : ℕ) × (a +ℤ pos r ≡ b)) [
  | pos r ↦ λ e. (r, omega (arith, ints, e))
  | negsuc r ↦ λ e. absurd (omega (arith, ints, e, h))
] refl

inside_red : (c : ℕ) (s : ℤ) (red : ℕ) (x : ℤ) → red ≤ c → (k : ℤ) → IsInside (start_after c s k) red x → is_green c s red x ≡ false
inside_red c s red x l k i =
    let far = apart (start_after c s k) x i.begun in
    let begun : 0 < far.0 = let e = far.1 in let b = i.begun in omega (arith, ints, e, b) in
    let lasting : far.0 < red = let e = far.1 in let b = i.lasting in omega (arith, ints, e, b) in
    let e : since c s x ≡ far.0 = since_is c s x k far.0 (omega arith) far.1 in
    rw e (shut_inside red far.0 begun lasting)

red_inside : (c : ℕ) (s : ℤ) (red : ℕ) (x : ℤ) → 0 < c → is_green c s red x ≡ false → (k : ℤ) × IsInside (start_after c s k) red x
red_inside c s red x h e =
    let t = last_start c s x h in
    let o = on red (since c s x) e in
    let f = t.1 in let o0 = o.0 in let o1 = o.1 in
    (t.0, record { begun = omega (arith, ints, f, o0); lasting = omega (arith, ints, f, o1) })

pub reds_law : RedsAreIntervals
reds_law c s red x h l = (red_inside c s red x h, λ p. inside_red c s red x l p.0 p.1)
