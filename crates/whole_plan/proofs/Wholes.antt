-- The whole seconds within the limits.
use Rattle.std.proofs.Common.{◌≡◌, ℕ, pos, ◌*◌, ◌<◌, ◌≤◌, suc, zero, Bool, true, false, IsTrue, List, [], ◌∷◌, length, get_or, Option, Result, Ok, Err, refl, sym, ◌∙◌, ap, subst, arith}
use Rattle.std.proofs.lemmas.Int.{ints}
use Rattle.std.specs.Global.{Vec}
use Rattle.std.specs.Prelude.{◌&&◌, ◌==◌, IfOk, All, filter}
use Rattle.std.specs.Ordering.{is_le}
use Rattle.std.specs.List.{range_with_len}
use Rattle.std.proofs.lemmas.Bool.Decides.{nat_tests}
use Rattle.std.proofs.lemmas.List.Elements.{All-filter, filter_passes}
use Rattle.std.proofs.lemmas.List.FromFn.{get_or-range_with_len, length-range_with_len}
use Rattle.narrow_fraction.specs.declared.memory.Memory.{Memory}
use Rattle.rational_theory.specs.Rational.{whole, ◌≤ℚ◌}
use Rattle.rational_theory.specs.Compare.{cmp_ℚ}
use Rattle.rational_theory.proofs.Compare.{le_says}
use Rattle.rational_theory.proofs.Arithmetic.{own_ratio, whole_ratio, ≤ℚ_out}
use Rattle.progression.specs.Street.{Street}
use Rattle.progression.specs.Speeds.{number}
use Rattle.artery_model.specs.Bounds.{least_cycle, most_cycle}
use Rattle.artery_model.specs.Valid.{IsValid, IsQuantity}
use Rattle.second_plan.specs.Seconds.{IsWholeCycle}
use Rattle.time_space.proofs.FinerGrids.{mul-le}
use Rattle.progression.specs.TimingRecord.{TimingRecord}
use Rattle.whole_plan.specs.declared.cycles.Seconds.{Seconds}
use Rattle.whole_plan.specs.Cycles.{is_whole_cycle, whole_cycles, centre, is_near, is_named, tried_cycles}

both : (b c : Bool) → IsTrue (b && c) → IsTrue b × IsTrue c
both true true h = (refl, refl)
both true false h = absurd cc
both false c h = absurd cc

above_none : (a : Street) (k : ℕ) → IsValid a → a.head.cycle.least ≤ℚ number k → 1 ≤ k
above_none a zero valid h =
    let c = ≤ℚ_out _ _ _ _ _ _ _ _ (own_ratio a.head.cycle.least) (whole_ratio (pos 0)) h in
    let least = valid.cycle.least.least in
    let some = a.head.cycle.least.positive in
    absurd (omega (arith, ints, c, least, some))
above_none a (suc k) valid h = omega arith

quantity_of : (k : ℕ) → 1 ≤ k → k ≤ 3600 → IsQuantity (pos 1) (pos 3600) (number k)
unfolding whole
quantity_of k some most = record { num = omega arith; den = omega arith; least = omega (arith, ints); most = omega (arith, ints) }

module _ (a : Street) (k : ℕ) where
  -- what the test says
  pub whole_says : IsTrue (is_whole_cycle a k) → IsWholeCycle a k
  whole_says h =
      let low = is_le (cmp_ℚ a.head.cycle.least (number k)) in
      let high = is_le (cmp_ℚ (number k) a.head.cycle.most) in
      let parts = both low high h in
      record { least = (le_says a.head.cycle.least (number k) low refl).0 parts.0; most = (le_says (number k) a.head.cycle.most high refl).0 parts.1 }

  module _ (valid : IsValid a) (h : IsWholeCycle a k) where
    -- a cycle is from 1 to 3,600 seconds
    pub some_seconds : 1 ≤ k
    some_seconds = above_none a k valid h.least

    pub most_seconds : k ≤ 3600
    most_seconds =
        let c = ≤ℚ_out _ _ _ _ _ _ _ _ (whole_ratio (pos k)) (own_ratio a.head.cycle.most) h.most in
        let most = valid.cycle.most.most in
        let some = a.head.cycle.most.positive in
        grind (arith, ints)

    pub is_quantity : IsQuantity least_cycle most_cycle (number k)
    is_quantity = quantity_of k some_seconds most_seconds

-- ---- lists of cycles
pub small_each : (a : Street) → All (λ n. n ≤ 3600) (whole_cycles a)
unfolding whole_cycles
small_each a =
    All-filter (is_whole_cycle a) (λ n. n ≤ 3600) (range_with_len 1 3600)
    (λ i d l. let m : i < 3600 = subst (λ n. i < n) (length-range_with_len 1 3600) l in subst (λ n. n ≤ 3600) (sym (get_or-range_with_len 1 3600 i d m)) (omega arith))

whole_each : (a : Street) → All (IsWholeCycle a) (whole_cycles a)
unfolding whole_cycles
whole_each a i d l = whole_says a (get_or (whole_cycles a) i d) (filter_passes (is_whole_cycle a) (range_with_len 1 3600) i d l)

-- those that are tried
pub tried_whole : (a : Street) (given : Option TimingRecord) (named : List ℕ) → All (IsWholeCycle a) (tried_cycles a given named)
tried_whole a given [] = All-filter (is_near (centre a given) (whole_cycles a)) (IsWholeCycle a) (whole_cycles a) (whole_each a)
tried_whole a given (n ∷ named) = All-filter (is_named (n ∷ named)) (IsWholeCycle a) (whole_cycles a) (whole_each a)

-- no cycle is named, or some are, by the test that is made
none_named : (a : Street) (given : Option TimingRecord) (named : List ℕ) (b : Bool) → b ≡ (length named == 0) → b ≡ true
    → filter (is_near (centre a given) (whole_cycles a)) (whole_cycles a) ≡ tried_cycles a given named
none_named a given [] b e f = refl
none_named a given (n ∷ named) b e f = let g : (length (n ∷ named) == 0) ≡ true = sym e ∙ f in absurd (grind (arith, nat_tests))

some_named : (a : Street) (given : Option TimingRecord) (named : List ℕ) (b : Bool) → b ≡ (length named == 0) → b ≡ false → filter (is_named named) (whole_cycles a) ≡ tried_cycles a given named
some_named a given [] b e f = let g : (length {A = ℕ} [] == 0) ≡ false = sym e ∙ f in absurd (cc)
some_named a given (n ∷ named) b e f = refl

module _ (a : Street) (given : Option TimingRecord) (named : List ℕ) where
  pub near_tried : (c : Seconds) (xs ys : List ℕ) (b : Bool) → c ≡ centre a given → xs ≡ ys → ys ≡ whole_cycles a → b ≡ (length named == 0) → b ≡ true
      → (r : Result (Vec ℕ) Memory) → IfOk r (λ v. v.items ≡ filter (is_near c xs) xs) → IfOk r (λ v. v.items ≡ tried_cycles a given named)
  near_tried c xs ys b e f g h t (Ok v) k = k ∙ (λ i. filter (is_near (e i) ((f ∙ g) i)) ((f ∙ g) i)) ∙ none_named a given named b h t
  near_tried c xs ys b e f g h t (Err m) k = tt

  pub named_tried : (xs ys : List ℕ) (b : Bool) → xs ≡ ys → ys ≡ whole_cycles a → b ≡ (length named == 0) → b ≡ false
      → (r : Result (Vec ℕ) Memory) → IfOk r (λ v. v.items ≡ filter (is_named named) xs) → IfOk r (λ v. v.items ≡ tried_cycles a given named)
  named_tried xs ys b f g h t (Ok v) k = k ∙ ap (filter (is_named named)) (f ∙ g) ∙ some_named a given named b h t
  named_tried xs ys b f g h t (Err m) k = tt

  pub all_whole : (r : Result (Vec ℕ) Memory) → IfOk r (λ v. v.items ≡ tried_cycles a given named) → IfOk r (λ v. All (IsWholeCycle a) v.items)
  all_whole (Ok v) e = subst (λ (xs : List ℕ). All (IsWholeCycle a) xs) (sym e) (tried_whole a given named)
  all_whole (Err m) e = tt
