-- What is chosen of one cycle more.
use Rattle.std.proofs.Common.{◌≡◌, ℕ, ◌<◌, List, [], ◌∷◌, ◌++◌, Option, Some, None, inl, inr, All, refl, sym, ◌∙◌, ap, subst, append_assoc, arith}
use Rattle.std.specs.Prelude.{Contains, slice_index_or, zero, suc}
use Rattle.std.proofs.lemmas.List.Elements.{All-append, All-push, Contains-append_left, Contains-append_right}
use Rattle.rational_theory.specs.Rational.{ℚ, ◌≤ℚ◌, ◌<ℚ◌}
use Rattle.rational_theory.proofs.Order.{≤ℚ_trans, <ℚ_trans, <ℚ_not-≤ℚ, not-≤ℚ}
use Rattle.progression.specs.Street.{Street}
use Rattle.progression.specs.TimingRecord.{TimingRecord}
use Rattle.progression.specs.Good.{Good}
use Rattle.progression.specs.Best.{weighted_band}
use Rattle.time_space.proofs.RulesOut.{rules_out}
use Rattle.second_plan.specs.declared.answer.PlanEnd.{PlanEnd}
use Rattle.whole_offsets.proofs.Scores.{better_irrefl, no_better_on}
use Rattle.whole_offsets.specs.Score.{IsBetter}
use Rattle.whole_offsets.specs.Steady.{IsEndOf}
use Rattle.whole_offsets.specs.declared.answer.OffsetPlan.{OffsetPlan}
use Rattle.whole_plan.specs.Sets.{IsOffsetSet, HasNoOffsetSet}
use Rattle.whole_plan.specs.Choice.{IsNoWider, IsChosen, IsNoBetter, IsBroken, IsEnded}

-- ---- lists
each_of : {X : Type 0} (P Q : X → Type 0) (xs : List X) → ((x : X) → P x → Q x) → All P xs → All Q xs
each_of P Q xs f h i d l = f _ (h i d l)

none_in : {X : Type 0} (P : X → Type 0) → All P []
none_in P i d l = absurd (omega arith)

last_in : {X : Type 0} (xs : List X) (x : X) → Contains (xs ++ x ∷ []) x
last_in xs x = Contains-append_right xs (x ∷ []) x (0, omega arith, refl)

-- ---- the order of weighted bands
at_most_below : (x y z : ℚ) → x ≤ℚ y → y <ℚ z → x <ℚ z
at_most_below x y z h k = not-≤ℚ x z (λ m. <ℚ_not-≤ℚ y z k (≤ℚ_trans z x y m h))

-- a plan that breaks a rule isn't good
not_good : (a : Street) (p : TimingRecord) (o : Option PlanEnd) → IsEndOf a p o → ¬ (o ≡ None) → Good a p → ⊥
not_good a p None h n g = n refl
not_good a p (Some e) h n g = rules_out a p h.0 h.1.0.fails g

module _ (a : Street) (given : Option TimingRecord) where
  -- ---- a good plan
  narrower : (P Q : ℚ → Type 0) → ((x : ℚ) → P x → Q x) → (j : ℕ) → IsNoWider a given P j → IsNoWider a given Q j
  narrower P Q f j (inl (None, h)) = inl (None, h)
  narrower P Q f j (inl (Some x, h)) = inl (Some x, (h.0, f x h.1))
  narrower P Q f j (inr (inl (q, h))) = inr (inl (q, (h.0, λ g. f _ (h.1 g))))
  narrower P Q f j (inr (inr h)) = inr (inr h)

  -- where the others are good for nothing
  broken_narrower : (P : ℚ → Type 0) (q : OffsetPlan) (j : ℕ) → IsNoBetter a given q j → IsNoWider a given P j
  broken_narrower P q j (inl (r, h)) = inr (inl (r, (h.0, λ g. absurd (not_good a r.timing r.end h.0.set.end h.1.0 g))))
  broken_narrower P q j (inr h) = inr (inr h)

  unset_narrower : (P : ℚ → Type 0) (j : ℕ) → ((d : PlanEnd) × HasNoOffsetSet a given j d) → IsNoWider a given P j
  unset_narrower P j h = inr (inr h)

  module _ (cycles : List ℕ) (k : ℕ) (q : OffsetPlan) where
    abbrev Wider : ℚ → Type 0
    Wider x = x <ℚ weighted_band a q.timing

    -- it takes the place of all that are less wide
    pub taken : IsOffsetSet a given k q → Good a q.timing → All (IsNoWider a given Wider) cycles → IsChosen a given (cycles ++ k ∷ []) k q
    taken set good all = record { set = set; good = good; before = cycles; after = []; cycles_are = refl; earlier = all; later = none_in _ }

    pub first_taken : cycles ≡ [] → All (IsNoWider a given Wider) cycles
    first_taken e = subst (λ xs. All (IsNoWider a given Wider) xs) (sym e) (none_in _)

    pub taken_from_none : (e : PlanEnd) → IsEnded a given cycles e → All (IsNoWider a given Wider) cycles
    taken_from_none e h = each_of _ (IsNoWider a given Wider) cycles (unset_narrower Wider) h.all

    pub taken_from_broken : (j : ℕ) (r : OffsetPlan) (e : PlanEnd) → IsBroken a given cycles j r e → All (IsNoWider a given Wider) cycles
    taken_from_broken j r e h = each_of (IsNoBetter a given r) (IsNoWider a given Wider) cycles (broken_narrower Wider r) h.best

    pub taken_from_chosen : (j : ℕ) (r : OffsetPlan) → weighted_band a r.timing <ℚ weighted_band a q.timing → IsChosen a given cycles j r → All (IsNoWider a given Wider) cycles
    taken_from_chosen j r less h =
        subst (λ xs. All (IsNoWider a given Wider) xs) (sym h.cycles_are)
        (All-append (IsNoWider a given Wider) h.before (j ∷ h.after)
        (each_of _ _ h.before (narrower _ Wider (λ x l. <ℚ_trans x (weighted_band a r.timing) (weighted_band a q.timing) l less)) h.earlier)
        (All-append (IsNoWider a given Wider) (j ∷ []) h.after
        (λ i d l. elim i as (λ n. n < 1 → IsNoWider a given Wider (slice_index_or (j ∷ []) n d)) [ zero ↦ λ m. inr (inl (r, (h.set, λ g. less))) | suc n ↦ λ m. absurd (omega arith) ] l)
        (each_of _ _ h.after (narrower _ Wider (λ x l. at_most_below x (weighted_band a r.timing) (weighted_band a q.timing) l less)) h.later)))

  -- it stays where the cycle has no wider one
  pub stays : (cycles : List ℕ) (j : ℕ) (r : OffsetPlan) (k : ℕ) → IsChosen a given cycles j r → IsNoWider a given (λ x. x ≤ℚ weighted_band a r.timing) k → IsChosen a given (cycles ++ k ∷ []) j r
  stays cycles j r k h fits = record {
    set = h.set;
    good = h.good;
    before = h.before;
    after = h.after ++ k ∷ [];
    cycles_are = ap (λ xs. xs ++ k ∷ []) h.cycles_are ∙ append_assoc h.before (j ∷ h.after) (k ∷ []);
    earlier = h.earlier;
    later = All-push (IsNoWider a given (λ x. x ≤ℚ weighted_band a r.timing)) h.after k h.later fits;
  }

  -- ---- a plan that breaks a rule
  pub none_before : (cycles : List ℕ) (q : OffsetPlan) → cycles ≡ [] → All (IsNoBetter a given q) cycles
  none_before cycles q e = subst (λ xs. All (IsNoBetter a given q) xs) (sym e) (none_in _)

  module _ (cycles : List ℕ) (k : ℕ) (q : OffsetPlan) (e : PlanEnd) (set : IsOffsetSet a given k q) (breaks : q.end ≡ Some e) where
    broken : ¬ (q.end ≡ None)
    broken h = let f = sym breaks ∙ h in cc

    pub first_broken : All (IsNoBetter a given q) cycles → IsBroken a given (cycles ++ k ∷ []) k q e
    first_broken all = record {
      set = set;
      breaks = breaks;
      among = last_in cycles k;
      best = All-push (IsNoBetter a given q) cycles k all (inl (q, (set, (broken, better_irrefl q.score))));
    }

    pub broken_from_none : (d : PlanEnd) → IsEnded a given cycles d → All (IsNoBetter a given q) cycles
    broken_from_none d h = each_of _ (IsNoBetter a given q) cycles (λ j u. inr u) h.all

    no_better : (r : OffsetPlan) → IsBetter q.score r.score → (j : ℕ) → IsNoBetter a given r j → IsNoBetter a given q j
    no_better r b j (inl (s, h)) = inl (s, (h.0, (h.1.0, no_better_on s.score r.score q.score h.1.1 b)))
    no_better r b j (inr h) = inr h

    pub broken_from_worse : (j : ℕ) (r : OffsetPlan) (d : PlanEnd) → IsBetter q.score r.score → IsBroken a given cycles j r d → All (IsNoBetter a given q) cycles
    broken_from_worse j r d b h = each_of (IsNoBetter a given r) (IsNoBetter a given q) cycles (no_better r b) h.best

    pub broken_no_better : (r : OffsetPlan) → ¬ IsBetter q.score r.score → IsNoBetter a given r k
    broken_no_better r n = inl (q, (set, (broken, n)))

    pub broken_no_wider : (P : ℚ → Type 0) → IsNoWider a given P k
    broken_no_wider P = inr (inl (q, (set, λ g. absurd (not_good a q.timing q.end set.set.end broken g))))

  pub broken_stays : (cycles : List ℕ) (j : ℕ) (r : OffsetPlan) (e : PlanEnd) (k : ℕ) → IsBroken a given cycles j r e → IsNoBetter a given r k → IsBroken a given (cycles ++ k ∷ []) j r e
  broken_stays cycles j r e k h fits = record {
    set = h.set;
    breaks = h.breaks;
    among = Contains-append_left cycles (k ∷ []) j h.among;
    best = All-push (IsNoBetter a given r) cycles k h.best fits;
  }

  -- ---- no set
  pub first_ended : (cycles : List ℕ) (k : ℕ) (e : PlanEnd) → cycles ≡ [] → HasNoOffsetSet a given k e → IsEnded a given (cycles ++ k ∷ []) e
  first_ended cycles k e empty h = record {
    k = k;
    more = [];
    cycles_are = ap (λ xs. xs ++ k ∷ []) empty;
    first = h;
    all = All-push (λ j. (d : PlanEnd) × HasNoOffsetSet a given j d) cycles k (subst (λ xs. All (λ j. (d : PlanEnd) × HasNoOffsetSet a given j d) xs) (sym empty) (none_in _)) (e, h);
  }

  pub ended_stays : (cycles : List ℕ) (e : PlanEnd) (k : ℕ) (d : PlanEnd) → IsEnded a given cycles e → HasNoOffsetSet a given k d → IsEnded a given (cycles ++ k ∷ []) e
  ended_stays cycles e k d h none = record {
    k = h.k;
    more = h.more ++ k ∷ [];
    cycles_are = ap (λ xs. xs ++ k ∷ []) h.cycles_are;
    first = h.first;
    all = All-push (λ j. (d : PlanEnd) × HasNoOffsetSet a given j d) cycles k h.all (d, none);
  }
