-- A direction has a band exactly where its way is green.
use Rattle.std.proofs.Common.{◌≡◌, ℕ, zero, suc, ◌+◌, ◌<◌, ◌≤◌, Bool, true, false, ◌&&◌, IsTrue, ◌↔◌, true≢false, refl, sym, inl, inr, arith}
use Rattle.std.specs.List.{list_all, range_with_len}
use Rattle.std.proofs.lemmas.Bool.{cases_eq}
use Rattle.progression.specs.Street.{Street, count}
use Rattle.progression.specs.TimingRecord.{TimingRecord, band}
use Rattle.progression.specs.Lines.{IsGreenWay}
use Rattle.progression.specs.declared.parts.Dir.{Dir}
use Rattle.timing_words.specs.Ways.{is_green_stop, has_band, BandsAreGreenWays}

-- ---- tests of numbers
pub both_true : (a b : Bool) → IsTrue (a && b) → IsTrue a × IsTrue b
both_true true true h = (refl, refl)
both_true true false h = absurd (true≢false (sym h))
both_true false b h = absurd (true≢false (sym h))

pub true_both : (a b : Bool) → IsTrue a → IsTrue b → IsTrue (a && b)
true_both true true h k = refl
true_both true false h k = absurd (true≢false (sym k))
true_both false b h k = absurd (true≢false (sym h))

each_true : (p : ℕ → Bool) (from n : ℕ) → IsTrue (list_all p (range_with_len from n)) → (k : ℕ) → from ≤ k → k < from + n → IsTrue (p k)
each_true p from zero h k least most = absurd (omega arith)
each_true p from (suc n) h k least most =
    let both = both_true (p from) (list_all p (range_with_len (from + 1) n)) h in
    elim (cases_eq k from) [ inl here ↦ rw here both.0 | inr later ↦ each_true p (from + 1) n both.1 k (omega arith) (omega arith) ]

true_each : (p : ℕ → Bool) (from n : ℕ) → ((k : ℕ) → from ≤ k → k < from + n → IsTrue (p k)) → IsTrue (list_all p (range_with_len from n))
true_each p from zero h = refl
true_each p from (suc n) h =
    true_both (p from) (list_all p (range_with_len (from + 1) n)) (h from (omega arith) (omega arith)) (true_each p (from + 1) n (λ k l m. h k (omega (arith, l)) (omega (arith, m))))

-- ---- a way
pub green_ways : BandsAreGreenWays
unfolding has_band
green_ways a t d = (
  (λ h j l k m. each_true _ 0 (band t d + 1) (each_true (is_green_stop a t d) 0 (count a) h j (omega arith) (omega (arith, l))) k (omega arith) (omega (arith, m))),
  (λ g. true_each (is_green_stop a t d) 0 (count a) (λ j k l. true_each _ 0 (band t d + 1) (λ m p q. g j (omega (arith, l)) m (omega (arith, q))))),
)

same_truth : (x y : Bool) → (IsTrue x → IsTrue y) → (IsTrue y → IsTrue x) → x ≡ y
same_truth true true h k = refl
same_truth false false h k = refl
same_truth true false h k = absurd (true≢false (sym (h refl)))
same_truth false true h k = absurd (true≢false (sym (k refl)))

pub same_way : (a : Street) (t : TimingRecord) (d : Dir) (b : Bool) → IsTrue b ↔ IsGreenWay a t d → b ≡ has_band a t d
same_way a t d b h = let w = green_ways a t d in same_truth b (has_band a t d) (λ e. w.1 (h.0 e)) (λ e. h.1 (w.0 e))
