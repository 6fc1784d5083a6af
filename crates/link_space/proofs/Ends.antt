-- The two signals of a link, and bands that are green or blocked there.
use Rattle.std.proofs.Common.{◌≡◌, ℕ, ◌+◌, ◌<◌, ◌≤◌, arith, inl, inr, subst, sym}
use Rattle.std.specs.Prelude.{ℤ}
use Rattle.std.proofs.lemmas.Bool.{cases_lt}
use Rattle.progression.specs.Street.{Street, count}
use Rattle.progression.specs.declared.parts.Dir.{Dir}
use Rattle.progression.specs.declared.parts.Dir.TheVariants.{Outbound, Inbound}
use Rattle.link_theory.specs.LinkRecord.{LinkRecord, half}
use Rattle.link_theory.specs.GoodLinks.{IsGreenAround}
use Rattle.link_space.specs.LinkGreens.{IsEnd, ends, IsBlockedAfter, IsBlockedEnd, IsFirstBlockedEnd, IsGreenLink, travel_order}

pub here_end : (i : ℕ) → IsEnd i i
here_end i = record { least = omega arith; most = omega arith }

pub there_end : (i : ℕ) → IsEnd i (i + 1)
there_end i = record { least = omega arith; most = omega arith }

-- what holds at both signals of a link holds at each
pub at_ends : (P : ℕ → Type 0) (i : ℕ) → P i → P (i + 1) → (s : ℕ) → IsEnd i s → P s
at_ends P i h k s e = elim (cases_lt i s) [
  | inl l ↦ let q : i + 1 ≡ s = omega (arith, e.least, e.most) in subst P q k
  | inr l ↦ let q : i ≡ s = omega (arith, e.least, e.most) in subst P q h
]

-- a link's band isn't both green and blocked at a signal
pub not_both_there : (a : Street) (t : LinkRecord) (d : Dir) (i s after : ℕ) → IsGreenAround a t d s (half t d i) → IsBlockedAfter a t d i s after → ⊥
not_both_there a t d i s after g b = let yes = g after b.within in let no = b.red_there in cc

-- what holds of each link so far and of this one holds of each up to this one
pub one_more : (P : ℕ → Type 0) (i : ℕ) → ((k : ℕ) → 1 ≤ k → k < i → P k) → P i → (k : ℕ) → 1 ≤ k → k < i + 1 → P k
one_more P i h here k l m = elim (cases_lt k i) [ inl n ↦ h k l n | inr n ↦ let e : i ≡ k = omega arith in subst P e here ]

-- ---- in travel order, the two signals as they are read
module _ (a : Street) (t : LinkRecord) (i : ℕ) (has : i < count a) where
  before_exit : (d : Dir) (s : ℕ) → IsEnd i s → travel_order a d s < travel_order a d (ends d i).1 → s ≡ (ends d i).0
  before_exit Outbound s e l = omega (arith, e.least, l)
  before_exit Inbound s e l = omega (arith, e.most, l)

  both_green : (d : Dir) → IsGreenAround a t d (ends d i).0 (half t d i) → IsGreenAround a t d (ends d i).1 (half t d i) → IsGreenLink a t d i
  both_green Outbound g h = at_ends (λ s. IsGreenAround a t Outbound s (half t Outbound i)) i g h
  both_green Inbound g h = at_ends (λ s. IsGreenAround a t Inbound s (half t Inbound i)) i h g

  -- green there and blocked where it leaves
  first_at_exit : (d : Dir) (z : ℤ) → IsGreenAround a t d (ends d i).0 (half t d i) → IsBlockedEnd a t d i (ends d i).1 z → IsFirstBlockedEnd a t d i (ends d i).1 z
  first_at_exit d z g w = record {
    here = w;
    green_before = λ s e l. subst (λ r. IsGreenAround a t d r (half t d i)) (sym (before_exit d s e l)) g;
  }

  module _ (d : Dir) (pair : ℕ × ℕ) (is : pair ≡ ends d i) where
    pub exit_blocked : (z : ℤ) → IsGreenAround a t d pair.0 (half t d i) → IsBlockedEnd a t d i pair.1 z → IsFirstBlockedEnd a t d i pair.1 z
    exit_blocked z g w = rw is (first_at_exit d z (rw is at g) (rw is at w))

    pub neither_blocked : IsGreenAround a t d pair.0 (half t d i) → IsGreenAround a t d pair.1 (half t d i) → IsGreenLink a t d i
    neither_blocked g h = both_green d (rw is at g) (rw is at h)
