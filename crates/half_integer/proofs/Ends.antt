-- The reasons exclude each other, and each comes with its first signal, link or number.
use Rattle.std.proofs.Common.{◌≡◌, ℕ, Some, None, inl, inr, ap, sym, ◌∙◌, arith}
use Rattle.std.proofs.lemmas.Bool.{cases_lt}
use Rattle.progression.specs.Street.{Street}
use Rattle.progression.specs.TimingRecord.{TimingRecord}
use Rattle.half_integer.specs.Uneven.{IsFirstUneven, IsFirstUnequal}
use Rattle.half_integer.specs.Answers.{IsReady, Ends, OneEnd}
use Rattle.half_integer.specs.declared.end.HalfEnd.{HalfEnd}
use Rattle.half_integer.specs.declared.end.HalfEnd.TheVariants.{Uneven, Unequal, TooFine}

same_uneven : (a : Street) (t : TimingRecord) (i j : ℕ) → IsFirstUneven a t i → IsFirstUneven a t j → i ≡ j
same_uneven a t i j h k = elim (cases_lt i j) [
  | inl less ↦ absurd (k.before i h.there.0 less h.uneven)
  | inr most ↦ elim (cases_lt j i) [
    | inl less ↦ absurd (h.before j k.there.0 less k.uneven)
    | inr least ↦ omega (arith, most, least)
  ]
]

same_unequal : (a : Street) (t : TimingRecord) (i j : ℕ) → IsFirstUnequal a t i → IsFirstUnequal a t j → i ≡ j
same_unequal a t i j h k = elim (cases_lt i j) [
  | inl less ↦ absurd (h.unequal (k.before i h.there.0 less))
  | inr most ↦ elim (cases_lt j i) [
    | inl less ↦ absurd (k.unequal (h.before j k.there.0 less))
    | inr least ↦ omega (arith, most, least)
  ]
]

same_number : (m n : ℕ) → Some m ≡ Some n → m ≡ n
same_number m n e = cc

not_none : (n : ℕ) → Some n ≡ None → ⊥
not_none n e = absurd cc

ends_once : (a : Street) (t : TimingRecord) (e f : HalfEnd) → Ends a t e → Ends a t f → e ≡ f
ends_once a t (Uneven i) (Uneven j) h k = ap Uneven (same_uneven a t i j h k)
ends_once a t (Uneven i) (Unequal j) h k = absurd (k.0 i h.there h.uneven)
ends_once a t (Uneven i) (TooFine n) h k = absurd (k.0 i h.there h.uneven)
ends_once a t (Unequal i) (Uneven j) h k = absurd (h.0 j k.there k.uneven)
ends_once a t (Unequal i) (Unequal j) h k = ap Unequal (same_unequal a t i j h.1 k.1)
ends_once a t (Unequal i) (TooFine n) h k = absurd (h.1.unequal (k.1 i h.1.there))
ends_once a t (TooFine m) (Uneven j) h k = absurd (h.0 j k.there k.uneven)
ends_once a t (TooFine m) (Unequal j) h k = absurd (k.1.unequal (h.1 j k.1.there))
ends_once a t (TooFine m) (TooFine n) h k = ap TooFine (same_number m n (sym h.2 ∙ k.2))

ends_not_ready : (a : Street) (t : TimingRecord) (e : HalfEnd) → Ends a t e → IsReady a t → ⊥
ends_not_ready a t (Uneven i) h r = r.level i h.there h.uneven
ends_not_ready a t (Unequal i) h r = h.1.unequal (r.equal i h.1.there)
ends_not_ready a t (TooFine n) h r = not_none n (sym h.2 ∙ r.fits)

pub one_end : OneEnd
one_end = record { once = ends_once; not_ready = ends_not_ready }
