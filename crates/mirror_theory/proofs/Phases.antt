-- A red is centred at 0 or half a cycle later, never both.
use Rattle.std.proofs.Common.{◌≡◌, ℕ, ℤ, pos, ◌+ℤ◌, ◌-ℤ◌, ◌+◌, ◌<◌, arith}
use Rattle.std.proofs.lemmas.Int.{ints}
use Rattle.progression.specs.Street.{Street}
use Rattle.progression.specs.TimingRecord.{TimingRecord, base}
use Rattle.progression.specs.BaseRecord.{cycle}
use Rattle.progression.specs.Green.{mod_ℤ, red_start, red_ticks}
use Rattle.progression.proofs.Remainders.{split_ℤ, mod_unique, quot_ℤ}
use Rattle.progression.specs.declared.parts.Dir.{Dir}
use Rattle.mirror_theory.specs.EqualBands.{IsCentred}

-- a tick that is whole cycles from another isn't half a cycle further
half_away : (c : ℕ) (z : ℤ) → 0 < c → mod_ℤ z (c + c) ≡ 0 → mod_ℤ (z +ℤ pos c) (c + c) ≡ c
half_away c z h e = let s = split_ℤ z (c + c) (omega arith) in mod_unique (z +ℤ pos c) (quot_ℤ z (c + c)) (c + c) c (omega (arith, ints, s, e)) (omega arith)

same_half : (x y n : ℕ) → x + x ≡ n → y + y ≡ n → x ≡ y
same_half x y n e f = omega (arith, e, f)

pub phases_apart : (a : Street) (s : TimingRecord) (d : Dir) (i c : ℕ) → 0 < c → cycle a (base s) ≡ c + c → IsCentred a s d i (pos 0) → ¬ IsCentred a s d i (pos c)
phases_apart a s d i c h e f g =
    let half = same_half g.half f.half (red_ticks a (base s) d i) g.halved f.halved in
    let z = pos 0 -ℤ pos f.half -ℤ red_start a (base s) d i in
    let first : mod_ℤ z (c + c) ≡ 0 = rw e at f.begins in
    let later = half_away c z h first in
    let same : pos c -ℤ pos g.half -ℤ red_start a (base s) d i ≡ z +ℤ pos c = omega (arith, ints, half) in
    let second : mod_ℤ (pos c -ℤ pos g.half -ℤ red_start a (base s) d i) (c + c) ≡ 0 = rw e at g.begins in
    let both : mod_ℤ (z +ℤ pos c) (c + c) ≡ 0 = rw same at second in
    absurd (omega (arith, later, both))
