-- The test of a place says that it lies in the box.
use Rattle.std.proofs.Common.{◌≡◌, ℕ, ℤ, ◌≤ℤ◌, ◌<ℤ◌, Result, Ok, Err, OnOk, subst, Bool, true, false, not, ◌&&◌, List, ◌∷◌, length, None, refl, sym, All, arith}
use Rattle.std.specs.Prelude.{nat_le, nat_lt, int_le, int_lt}
use Rattle.std.specs.Bool.{Decides}
use Rattle.std.proofs.lemmas.Int.{ints}
use Rattle.std.proofs.lemmas.Bool.{leb-true, le-leb}
use Rattle.std.proofs.lemmas.Bool.Decides.{Decides-and, Decides-ltb}
use Rattle.std.proofs.lemmas.List.Elements.{All-cons}
use Rattle.narrow_fraction.proofs.Attempt.{not_refused}
use Rattle.linear_theory.specs.Boxes.{Area, loop_span, turn_span}
use Rattle.search_box.specs.Places.{IsPlace, low_part, high_part}
use Rattle.search_box.specs.declared.span.At.{At}
use Rattle.search_box.specs.declared.span.At.TheVariants.{Loop, Turn}
use Rattle.certificate_checker.specs.declared.reject.Reject.{Reject}
use Rattle.certificate_checker.specs.TreeRefusals.{is_place, split_refusal}

-- ---- tests of whole numbers
int_le_decided : (x y : ℤ) → Decides (int_le x y) (x ≤ℤ y)
int_le_decided x y = (λ e. omega (arith, ints), λ h. by h (int_le x y) refl)
  where
    by : x ≤ℤ y → (b : Bool) → int_le x y ≡ b → int_le x y ≡ true
    by h true e = e
    by h false e = absurd (omega (arith, ints))

int_lt_decided : (x y : ℤ) → Decides (int_lt x y) (x <ℤ y)
int_lt_decided x y = (λ e. omega (arith, ints), λ h. by h (int_lt x y) refl)
  where
    by : x <ℤ y → (b : Bool) → int_lt x y ≡ b → int_lt x y ≡ true
    by h true e = e
    by h false e = absurd (omega (arith, ints))

-- four tests at once
all_four : {P Q R S : Type 0} (p q r s : Bool) → Decides p P → Decides q Q → Decides r R → Decides s S → Decides (p && q && r && s) (P × Q × R × S)
all_four p q r s d e f g =
    let h = Decides-and (p && q && r) s (Decides-and (p && q) r (Decides-and p q d e) f) g in
    (λ t. let k = h.0 t in (k.0.0.0, k.0.0.1, k.0.1, k.1), λ k. h.1 (((k.0, k.1), k.2), k.3))

pub place_decided : (box : Area) (at : At) → Decides (is_place box at) (IsPlace box at)
place_decided box (Loop i at) =
    all_four (nat_le 1 i) (nat_le i (length box.loops)) (int_le (loop_span box i).least at) (int_lt at (loop_span box i).most)
    (leb-true 1 i, le-leb 1 i) (leb-true i (length box.loops), le-leb i (length box.loops)) (int_le_decided (loop_span box i).least at) (int_lt_decided at (loop_span box i).most)
place_decided box (Turn i rank) =
    all_four (nat_le 1 i) (nat_le i (length box.turns)) (nat_le (turn_span box i).least rank) (nat_lt rank (turn_span box i).most)
    (leb-true 1 i, le-leb 1 i) (leb-true i (length box.turns), le-leb i (length box.turns)) (leb-true (turn_span box i).least rank, le-leb (turn_span box i).least rank)
    (Decides-ltb rank (turn_span box i).most)

pub not_out : (b : Bool) → not b ≡ false → b ≡ true
not_out true e = refl
not_out false e = sym e

-- a split that is not refused is at a place of the box, and back
pub place_in : {F : Type 0} (box : Area) (node : ℕ) (at : At) → split_refusal {F = F} box node at ≡ None → IsPlace box at
place_in box node at e = (place_decided box at).0 (not_out (is_place box at) (not_refused (not (is_place box at)) _ e))

pub place_out : {F : Type 0} (box : Area) (node : ℕ) (at : At) → IsPlace box at → split_refusal {F = F} box node at ≡ None
place_out box node at p = rw ((place_decided box at).1 p) refl

-- what holds of a box holds of its two parts
pub split_ready : {F : Type 0} (Ready : Area → Type 0) → ((box : Area) (at : At) → IsPlace box at → Ready box → Ready (low_part box at) × Ready (high_part box at))
    → (box : Area) (boxes new : List Area) (node : ℕ) (at : At) (r : Result (Unit {0}) (Reject F)) → Ready box → All Ready boxes
    → OnOk r (split_refusal {F = F} box node at ≡ None) → OnOk r (new ≡ low_part box at ∷ high_part box at ∷ boxes) → OnOk r (All Ready new)
split_ready Ready parts box boxes new node at (Ok x) b h e p =
    let both = parts box at (place_in box node at e) b in
    subst (All Ready) (sym p) (All-cons Ready (low_part box at) (high_part box at ∷ boxes) both.0 (All-cons Ready (high_part box at) boxes both.1 h))
split_ready Ready parts box boxes new node at (Err r) b h e p = tt
