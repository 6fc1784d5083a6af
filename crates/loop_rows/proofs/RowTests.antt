-- Lemmas on the definitions of `RowTests`.
use Rattle.std.proofs.Common.{ℕ, ◌+◌, ◌≢◌, not, ◌&&◌, true≢false, refl, sym}
use Rattle.std.specs.Prelude.{nat_le, nat_lt, ◌==◌, is_some}
use Rattle.std.specs.Bool.{Decides}
use Rattle.std.specs.Ordering.{eq_by_cmp}
use Rattle.std.proofs.lemmas.Bool.{leb-true, le-leb}
use Rattle.std.proofs.lemmas.Bool.Decides.{Decides-and, Decides-not, Decides-ltb, Decides-eqb}
use Rattle.rational_theory.specs.Rational.{ℚ}
use Rattle.rational_theory.specs.Compare.{cmp_ℚ}
use Rattle.rational_theory.proofs.Compare.{eq_says}
use Rattle.progression.specs.Street.{Street, count, HasSignal, HasLink, least_band}
use Rattle.progression.specs.Speeds.{number, change}
use Rattle.progression.specs.declared.parts.Dir.{Dir}
use Rattle.linear_theory.specs.Names.{Name, RowPosition, AtSignal, AtLink, AtChange, ByItself, AtRatio, AtLeast, AtEqual, Nowhere, HasRowPosition, rule_of, HasRow, HasChange}
use Rattle.loop_rows.specs.RowTests.{has_signal, has_link, has_change, has_seat, has_row}

-- ---- the tests say what they are for
link_decided : (a : Street) (i : ℕ) → Decides (has_link a i) (HasLink a i)
link_decided a i = Decides-and (nat_le 1 i) (nat_lt i (count a)) (leb-true 1 i, le-leb 1 i) (Decides-ltb i (count a))

signal_decided : (a : Street) (i : ℕ) → Decides (has_signal a i) (HasSignal a i)
signal_decided a i = Decides-and (nat_le 1 i) (nat_le i (count a)) (leb-true 1 i, le-leb 1 i) (leb-true i (count a), le-leb i (count a))

change_decided : (a : Street) (d : Dir) (i : ℕ) → Decides (has_change a d i) (HasChange a d i)
change_decided a d i =
    let both = Decides-and (has_link a i) (has_link a (i + 1)) (link_decided a i) (link_decided a (i + 1)) in
    let all = Decides-and (has_link a i && has_link a (i + 1)) (is_some (change a d i)) both (λ e. e, λ h. h) in
    (λ e. let p = all.0 e in (p.0.0, p.0.1, p.1), λ h. all.1 ((h.0, h.1), h.2))

other_decided : (x y : ℚ) → Decides (not (eq_by_cmp cmp_ℚ x y)) (x ≢ y)
other_decided x y = Decides-not (eq_by_cmp cmp_ℚ x y) (eq_says x y (eq_by_cmp cmp_ℚ x y) refl)

seat_decided : (a : Street) (s : RowPosition) → Decides (has_seat a s) (HasRowPosition a s)
seat_decided a (AtSignal i) = signal_decided a i
seat_decided a (AtLink i) = link_decided a i
seat_decided a (AtChange d i) = change_decided a d i
seat_decided a (ByItself i) = Decides-eqb i 0
seat_decided a (AtRatio i) = Decides-and (i == 0) (not (eq_by_cmp cmp_ℚ a.head.ratio (number 1))) (Decides-eqb i 0) (other_decided a.head.ratio (number 1))
seat_decided a (AtLeast d i) = Decides-and (i == 0) (not (eq_by_cmp cmp_ℚ (least_band a d) (number 0))) (Decides-eqb i 0) (other_decided (least_band a d) (number 0))
seat_decided a (AtEqual i) = Decides-and (i == 0) a.head.equal (Decides-eqb i 0) (λ e. e, λ h. h)
seat_decided a Nowhere = (λ e. true≢false (sym e), λ h. absurd h)

-- an artery has a row exactly where the test is true
pub row_decided : (a : Street) (n : Name) → Decides (has_row a n) (HasRow a n)
unfolding has_row
row_decided a n = seat_decided a (rule_of n).position
