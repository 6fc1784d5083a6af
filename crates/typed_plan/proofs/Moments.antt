-- The moment from which a signal's offset counts, from the start of its common red.
use Rattle.std.proofs.Common.{◌≡◌, ℕ, ℤ, ◌*◌, pos, Bool, true, false, sym, ◌∙◌, ap, ap₂, arith, unsigned_abs}
use Rattle.std.specs.Prelude.{◌+ℤ◌, ◌-ℤ◌, ◌*ℤ◌, ◌≤ℤ◌, neg_ℤ, if◌then◌else◌}
use Rattle.std.specs.Int.{int_min}
use Rattle.std.proofs.lemmas.Int.{ints, clamps, by_lt_z}
use Rattle.rational_theory.proofs.Integers.{+ℤ-*ℤ, neg_ℤ-*ℤ}
use Rattle.progression.specs.Street.{Street, left_against, red_parts}
use Rattle.progression.specs.Green.{is_early, red_start}
use Rattle.progression.specs.BaseRecord.{BaseRecord, pattern_of, common_red}
use Rattle.progression.specs.declared.parts.Dir.{Dir}
use Rattle.progression.specs.declared.parts.Dir.TheVariants.{Outbound, Inbound}
use Rattle.description_reader.specs.declared.measure.Reference.{Reference}
use Rattle.description_reader.specs.declared.measure.Reference.TheVariants.{Red, GreenOut, GreenIn, FirstGreen, EndOut, EndIn}
use Rattle.typed_plan.specs.Asked.{green_start, moment}
use Rattle.typed_plan.specs.Grid.{start_part, end_part, moment_part}

module _ (a : Street) (t : BaseRecord) (d : Dir) (i : ℕ) where
  early : (b : Bool) (n u : ℕ) (z : ℤ) → z -ℤ pos (if b then n * u else 0) ≡ z +ℤ (pos 0 -ℤ pos (if b then n else 0)) *ℤ pos u
  early true n u z =
      let e : (pos 0 -ℤ pos n) *ℤ pos u ≡ neg_ℤ (pos (n * u)) = ap (λ w. w *ℤ pos u) (let f : pos 0 -ℤ pos n ≡ neg_ℤ (pos n) = omega (arith, ints) in f) ∙ neg_ℤ-*ℤ (pos n) (pos u) in
      omega (arith, ints, e)
  early false n u z = omega (arith, ints)

  pub start_is : red_start a t d i ≡ common_red t i +ℤ start_part a d (pattern_of t i) i *ℤ pos t.unit
  start_is = early (is_early d (pattern_of t i)) (left_against a d i) t.unit (common_red t i)

  pub green_is : green_start a t d i ≡ common_red t i +ℤ end_part a d (pattern_of t i) i *ℤ pos t.unit
  green_is =
      let s = start_is in
      let e = +ℤ-*ℤ (start_part a d (pattern_of t i) i) (pos (red_parts a d i)) (pos t.unit) in
      omega (arith, ints, s, e)

more : (x y : ℤ) (u : ℕ) → y ≤ℤ x → (y *ℤ pos u) ≤ℤ (x *ℤ pos u)
more x y u h =
    let n = unsigned_abs (x -ℤ y) in
    let e : x ≡ y +ℤ pos n = omega (arith, ints, h) in
    let f : x *ℤ pos u ≡ y *ℤ pos u +ℤ pos (n * u) = ap (λ w. w *ℤ pos u) e ∙ +ℤ-*ℤ y (pos n) (pos u) in
    omega (arith, ints, f)

right_first : (x y : ℤ) → y ≤ℤ x → int_min x y ≡ y
right_first x y h = omega (arith, ints, clamps, h)

left_first : (x y : ℤ) → x ≤ℤ y → int_min x y ≡ x
left_first x y h = omega (arith, ints, clamps, h)

-- the lesser of two, a whole number of times, and from another start
lesser_times : (x y z : ℤ) (u : ℕ) → int_min (z +ℤ x *ℤ pos u) (z +ℤ y *ℤ pos u) ≡ z +ℤ int_min x y *ℤ pos u
lesser_times x y z u = by_lt_z {P = int_min (z +ℤ x *ℤ pos u) (z +ℤ y *ℤ pos u) ≡ z +ℤ int_min x y *ℤ pos u} y x
    (λ l. let m = more x y u (omega (arith, ints, l)) in right_first (z +ℤ x *ℤ pos u) (z +ℤ y *ℤ pos u) (omega (arith, ints, m))
    ∙ ap (λ w. z +ℤ w *ℤ pos u) (sym (right_first x y (omega (arith, ints, l)))))
    (λ l. let m = more y x u (omega (arith, ints, l)) in left_first (z +ℤ x *ℤ pos u) (z +ℤ y *ℤ pos u) (omega (arith, ints, m))
    ∙ ap (λ w. z +ℤ w *ℤ pos u) (sym (left_first x y (omega (arith, ints, l)))))

pub moment_is : (a : Street) (r : Reference) (t : BaseRecord) (i : ℕ) → moment a r t i ≡ common_red t i +ℤ moment_part a r (pattern_of t i) i *ℤ pos t.unit
moment_is a Red t i = let e : pos 0 *ℤ pos t.unit ≡ pos 0 = omega (arith, ints) in omega (arith, ints, e)
moment_is a GreenOut t i = green_is a t Outbound i
moment_is a GreenIn t i = green_is a t Inbound i
moment_is a FirstGreen t i = ap₂ int_min (green_is a t Outbound i) (green_is a t Inbound i)
    ∙ lesser_times (end_part a Outbound (pattern_of t i) i) (end_part a Inbound (pattern_of t i) i) (common_red t i) t.unit
moment_is a EndOut t i = start_is a t Outbound i
moment_is a EndIn t i = start_is a t Inbound i
