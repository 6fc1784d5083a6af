-- Ticks that are some cycles apart.
use Rattle.std.proofs.Common.{◌≡◌, ℕ, suc, ℤ, pos, negsuc, ◌+ℤ◌, ◌-ℤ◌, ◌*ℤ◌, ◌+◌, ◌*◌, ◌/◌, ◌%◌, ◌<◌, ◌≤◌, ◌∙◌, ap, subst, arith}
use Rattle.std.proofs.Math.Nat.{mul-le-mul_right}
use Rattle.std.proofs.lemmas.Nat.{div-add-mod'}
use Rattle.std.proofs.lemmas.Int.{ints}
use Rattle.std.specs.Prelude.{IsTrue}
use Rattle.progression.specs.Green.{mod_ℤ, since, is_open, BandIsGreen}
use Rattle.progression.proofs.Remainders.{quot_ℤ, split_ℤ, mod-turns}
use Rattle.time_space.proofs.Scale.{minus_scale}
use Rattle.time_space.proofs.FinerGrids.{plus_scale}
use Rattle.free_band.specs.Rays.{Same}

pub same_of : (c : ℕ) (x y : ℤ) → x ≡ y → Same c x y
same_of c x y e = record { turns = pos 0; is = omega (arith, ints, e) }

-- one cycle more, or one less
pub same_less : (c : ℕ) (x y : ℤ) → y ≡ x +ℤ pos c → Same c x y
same_less c x y e = record { turns = negsuc 0; is = omega (arith, ints, e) }

pub same_back : (c : ℕ) (x y : ℤ) → Same c x y → Same c y x
same_back c x y s = let e = s.is in let d = minus_scale (pos 0) s.turns c in record { turns = pos 0 -ℤ s.turns; is = omega (arith, ints, e, d) }

pub same_then : (c : ℕ) (x y z : ℤ) → Same c x y → Same c y z → Same c x z
same_then c x y z s t =
    let e = s.is in
    let f = t.is in
    let d = plus_scale s.turns t.turns c in
    record { turns = s.turns +ℤ t.turns; is = omega (arith, ints, e, f, d) }

-- both sides later
pub same_plus : (c : ℕ) (x y u v : ℤ) → Same c x y → Same c u v → Same c (x +ℤ u) (y +ℤ v)
same_plus c x y u v s t =
    let e = s.is in
    let f = t.is in
    let d = plus_scale s.turns t.turns c in
    record { turns = s.turns +ℤ t.turns; is = omega (arith, ints, e, f, d) }

pub same_minus : (c : ℕ) (x y u v : ℤ) → Same c x y → Same c u v → Same c (x -ℤ u) (y -ℤ v)
same_minus c x y u v s t =
    let e = s.is in
    let f = t.is in
    let d = minus_scale s.turns t.turns c in
    record { turns = s.turns -ℤ t.turns; is = omega (arith, ints, e, f, d) }

-- the remainder is such a tick
pub same_since : (c : ℕ) (s x : ℤ) → 0 < c → Same c (pos (since c s x)) (x -ℤ s)
same_since c s x h = same_back c (x -ℤ s) (pos (since c s x)) (record { turns = quot_ℤ (x -ℤ s) c; is = let e = split_ℤ (x -ℤ s) c h in omega (arith, ints, e) })

-- the least of the naturals some cycles apart
pub same_least : (c late more : ℕ) → late < c → Same c (pos more) (pos late) → late ≤ more
same_least c late more l s = below s.turns s.is where
  below : (k : ℤ) → pos more ≡ pos late +ℤ k *ℤ pos c → late ≤ more
  below (pos n) e = omega (arith, ints, e)
  below (negsuc n) e = let f : 1 * c ≤ suc n * c = mul-le-mul_right c (omega arith) in absurd (omega (arith, ints, e, f))

-- what is green at a tick is so some cycles away
pub green_same : (c red b : ℕ) (s x y : ℤ) → 0 < c → Same c x y → BandIsGreen c s red x b → BandIsGreen c s red y b
green_same c red b s x y h a g = λ t l.
    let e = a.is in
    let i : (x +ℤ pos t) -ℤ s ≡ ((y +ℤ pos t) -ℤ s) +ℤ a.turns *ℤ pos c = omega (arith, ints, e) in
    let f : since c s (x +ℤ pos t) ≡ since c s (y +ℤ pos t) = ap (λ z. mod_ℤ z c) i ∙ mod-turns ((y +ℤ pos t) -ℤ s) a.turns c h in
    subst (λ r. IsTrue (is_open red r)) f (g t l)

-- a tick some steps later
pub same_stepped : (c r a d m k n l : ℕ) (x : ℤ) → Same c (pos r) (pos (a + d)) → Same c (pos a) x → Same c (pos d) (pos m -ℤ pos k) → m ≡ n → k ≡ l → Same c (pos r) (x +ℤ (pos n -ℤ pos l))
same_stepped c r a d m k n l x s t u e f =
    let p = same_plus c (pos a) x (pos d) (pos m -ℤ pos k) t u in
    let q = same_then c (pos r) (pos (a + d)) (x +ℤ (pos m -ℤ pos k)) s p in
    let i = q.is in
    record { turns = q.turns; is = omega (arith, ints, i, e, f) }

-- a line that comes later by no more than another that comes to the same tick of the cycle
pub same_late : (c late more : ℕ) (left to : ℤ) → late < c → Same c to (left +ℤ pos late) → Same c (left +ℤ pos more) to → late ≤ more
same_late c late more left to l s t =
    let p = same_then c (left +ℤ pos more) to (left +ℤ pos late) t s in
    let e = p.is in
    same_least c late more l (record { turns = p.turns; is = omega (arith, ints, e) })

-- a number and its remainder
same_mod : (c n : ℕ) → Same c (pos (n % c)) (pos n)
same_mod c n = let e = div-add-mod' n c in same_back c (pos n) (pos (n % c)) (record { turns = pos (n / c); is = omega (arith, ints, e) })

pub same_less_mod : (c r run clear : ℕ) → Same c (pos (run % c)) (pos (clear % c + r)) → Same c (pos r) (pos run -ℤ pos clear)
same_less_mod c r run clear s =
    let p = same_then c (pos (clear % c + r)) (pos (run % c)) (pos run) (same_back c (pos (run % c)) (pos (clear % c + r)) s) (same_mod c run) in
    let q = same_minus c (pos (clear % c + r)) (pos run) (pos (clear % c)) (pos clear) p (same_mod c clear) in
    let e = q.is in
    record { turns = q.turns; is = omega (arith, ints, e) }
