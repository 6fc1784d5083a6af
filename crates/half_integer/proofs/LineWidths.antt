-- The widest band on a line, from what the fullest signal takes.
use Rattle.std.proofs.Common.{zero, suc, ◌≡◌, Option, None, Some, inl, inr, pos, ◌-ℤ◌, ℕ, ℤ, ◌+ℤ◌, ◌+◌, ◌-◌, ◌<◌, ◌≤◌, arith}
use Rattle.progression.specs.Street.{Street, count}
use Rattle.progression.specs.TimingRecord.{TimingRecord, base}
use Rattle.progression.specs.BaseRecord.{cycle}
use Rattle.mirror_theory.specs.Runs.{far, taken, wait_in_phase, Runs, IsWidest, phase_wait, candidate}
use Rattle.half_integer.specs.Bands.{fullest}
use Rattle.mirror_theory.proofs.Candidates.{far_next, runs_there, wait_half_later, wait_in_turn, wait_at_one, runs_turned}
use Rattle.mirror_theory.specs.EqualBands.{travel}
use Rattle.progression.specs.Green.{red_ticks}
use Rattle.std.proofs.lemmas.Bool.{cases_lt}
use Rattle.half_integer.specs.Bands.{IsWidthOn, IsTried, IsTriedTo, reach}
use Rattle.half_integer.specs.declared.search.OutboundBand.{OutboundBand}
use Rattle.progression.specs.declared.parts.Dir.TheVariants.{Outbound}
use Rattle.std.proofs.lemmas.Int.{ints}

fits_full : (a : Street) (t : TimingRecord) (x : ℤ) (b n : ℕ) → b ≤ n → (k : ℕ) → ((i : ℕ) → 1 ≤ i → i ≤ k → taken a t x i + b ≤ n) → fullest a t x k + b ≤ n
fits_full a t x b n l zero h = omega arith
fits_full a t x b n l (suc k) h =
    let e = fits_full a t x b n l k (λ i p q. h i p (omega arith)) in
    let f = h (suc k) (omega arith) (omega arith) in omega arith

full_fits : (a : Street) (t : TimingRecord) (x : ℤ) (k i : ℕ) → 1 ≤ i → i ≤ k → taken a t x i ≤ fullest a t x k
full_fits a t x zero i p q = absurd (omega arith)
full_fits a t x (suc k) i p q = elim (cases_lt i (suc k)) [
  | inl w ↦ let e = full_fits a t x k i p (omega arith) in omega arith
  | inr w ↦ let e : i ≡ suc k = omega arith in rw e (omega arith)
]

-- a band runs exactly where it fits beside what the fullest signal takes
pub runs_full : (a : Street) (t : TimingRecord) (x : ℤ) (b : ℕ) → 1 ≤ count a → Runs a t x b → fullest a t x (count a) + b ≤ cycle a (base t) + cycle a (base t)
runs_full a t x b n h =
    let one = h 1 (omega arith, n) in
    fits_full a t x b (cycle a (base t) + cycle a (base t)) (omega arith) (count a) (λ i p q. h i (p, q))

pub full_runs : (a : Street) (t : TimingRecord) (x : ℤ) (b : ℕ) → fullest a t x (count a) + b ≤ cycle a (base t) + cycle a (base t) → Runs a t x b
full_runs a t x b h = λ i s. let e = full_fits a t x (count a) i s.0 s.1 in omega arith

-- so a band runs where the fullest takes at most a cycle
module _ (a : Street) (t : TimingRecord) (x : ℤ) (half most : ℕ) (e : half ≡ cycle a (base t)) (f : most ≡ fullest a t x (count a)) (n : 1 ≤ count a) where
  pub none_runs : half + half < most → (b : ℕ) → ¬ Runs a t x b
  none_runs h b r = let k = runs_full a t x b n r in absurd (omega (arith, e, f, h, k))

  pub its_width : most ≤ half + half → IsWidthOn a t x (half + half - most)
  its_width h = record {
    runs = full_runs a t x _ (omega (arith, e, f, h));
    most = λ b r. let k = runs_full a t x b n r in omega (arith, e, f, h, k);
  }

-- sums of equals
sums : (line step first here way next : ℤ) → line ≡ first +ℤ here → step ≡ way → next ≡ here +ℤ way → line +ℤ step ≡ first +ℤ next
sums line step first here way next e f g = omega (arith, ints, e, f, g)

-- a line at the next signal
pub next_here : (a : Street) (t : TimingRecord) (first line step : ℤ) (i : ℕ) → 1 ≤ i → line ≡ first +ℤ far a t i
    → step ≡ travel a t Outbound i +ℤ travel a t Outbound i → line +ℤ step ≡ first +ℤ far a t (i + 1)
next_here a t first line step i h e f = let g = far_next a t i h in sums line step first (far a t i) (travel a t Outbound i +ℤ travel a t Outbound i) (far a t (i + 1)) e f g

-- what was tried stays tried
pub still_tried : (a : Street) (t : TimingRecord) (best later : Option OutboundBand) (x : ℤ) → reach best ≤ reach later → IsTried a t best x → IsTried a t later x
still_tried a t best later x h k = λ b r. let e = k b r in omega arith

-- a candidate, from the line that crosses signal 1 at 0
from_line : (end line here : ℤ) → line ≡ pos 0 +ℤ here → end -ℤ line ≡ end -ℤ here
from_line end line here e = omega (arith, ints, e)

pub candidate_here : (a : Street) (t : TimingRecord) (end line : ℤ) (i phase : ℕ) → line ≡ pos 0 +ℤ far a t i → end ≡ pos (phase + red_ticks a (base t) Outbound i)
    → end -ℤ line ≡ candidate a t i phase
candidate_here a t end line i phase e f = rw f (from_line (pos (phase + red_ticks a (base t) Outbound i)) line (far a t i) e)

-- signals up to some are signals up to fewer
pub tried_less : (a : Street) (t : TimingRecord) (best : Option OutboundBand) (n k : ℕ) → n ≤ k → IsTriedTo a t best k → IsTriedTo a t best n
tried_less a t best n k l h = record { each = λ i p q. h.each i p (omega arith) }

-- half a cycle later signal 1 is in phase
pub turned_upright : (a : Street) (t : TimingRecord) (x half : ℤ) (p q : ℕ) → 0 < cycle a (base t) → half ≡ pos (cycle a (base t))
    → p ≡ phase_wait (cycle a (base t)) (red_ticks a (base t) Outbound 1) x 0
    → q ≡ phase_wait (cycle a (base t)) (red_ticks a (base t) Outbound 1) x (cycle a (base t)) → q < p
    → wait_in_phase a t (x +ℤ half) 1 0 ≤ wait_in_phase a t (x +ℤ half) 1 (cycle a (base t))
turned_upright a t x half p q c e f g h =
    let m = wait_half_later a t c x 1 in
    let n = wait_in_turn a t c x 1 in
    let k = wait_at_one a t c x 0 in
    let l = wait_at_one a t c x (cycle a (base t)) in
    rw e (omega (arith, m, n, k, l, f, g))

pub turned_runs : (a : Street) (t : TimingRecord) (x half : ℤ) (b : ℕ) → 0 < cycle a (base t) → half ≡ pos (cycle a (base t)) → Runs a t x b → Runs a t (x +ℤ half) b
turned_runs a t x half b c e h = rw e (runs_turned a t c x b h)

-- before the first signal nothing is to be tried
pub none_tried : (a : Street) (t : TimingRecord) (best : Option OutboundBand) → IsTriedTo a t best 0
none_tried a t best = record { each = λ i p q. absurd (omega arith) }

-- both candidates of the next signal are tried, one after the other
pub next_tried : (a : Street) (t : TimingRecord) (best found last : Option OutboundBand) (k : ℕ) → IsTriedTo a t best k → reach best ≤ reach found → reach found ≤ reach last
    → IsTried a t found (candidate a t (k + 1) 0) → IsTried a t last (candidate a t (k + 1) (cycle a (base t))) → IsTriedTo a t last (k + 1)
next_tried a t best found last k h p q f l = record {
  each = λ i r s. elim (cases_lt i (k + 1)) [
    | inl w ↦ let e = h.each i r (omega arith) in record {
      in_phase = still_tried a t best last (candidate a t i 0) (omega arith) e.in_phase;
      half_later = still_tried a t best last (candidate a t i (cycle a (base t))) (omega arith) e.half_later;
    }
    | inr w ↦ let e : i ≡ k + 1 = omega arith in rw e (record { in_phase = still_tried a t found last (candidate a t (k + 1) 0) q f; half_later = l })
  ];
}

-- where all candidates are tried, no band is wider
pub best_is : (a : Street) (t : TimingRecord) (band : OutboundBand) → 1 ≤ count a → 0 < cycle a (base t) → IsTriedTo a t (Some band) (count a) → IsWidest a t band.width
best_is a t band n c h = λ x b r.
    let there = runs_there a t c n x b r in
    let tried = h.each there.signal there.there.0 there.there.1 in
    elim there.runs [
      | inl w ↦ let e = tried.in_phase b w in omega arith
      | inr w ↦ let e = tried.half_later b w in omega arith
    ]

-- and where none of them runs, none does
pub none_is : (a : Street) (t : TimingRecord) → 1 ≤ count a → 0 < cycle a (base t) → IsTriedTo a t None (count a) → (x : ℤ) → ¬ Runs a t x 0
none_is a t n c h x r =
    let there = runs_there a t c n x 0 r in
    let tried = h.each there.signal there.there.0 there.there.1 in
    elim there.runs [
      | inl w ↦ let e = tried.in_phase 0 w in absurd (omega arith)
      | inr w ↦ let e = tried.half_later 0 w in absurd (omega arith)
    ]
