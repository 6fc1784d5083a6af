-- What a search of the street with one cycle alone says of the street.
use Rattle.std.proofs.Common.{◌≡◌, ℕ, pos, Option, Some, None, Result, Ok, Err, inr, sym, ap, subst, arith}
use Rattle.std.specs.Prelude.{IfSome, IfOk}
use Rattle.std.specs.Option.{option_or}
use Rattle.std.proofs.lemmas.Int.{ints}
use Rattle.narrow_fraction.specs.declared.memory.Memory.{Memory}
use Rattle.rational_theory.specs.Rational.{ℚ, whole, ◌*ℚ◌, ◌≤ℚ◌}
use Rattle.rational_theory.proofs.Order.{≤ℚ_trans, ≤ℚ-*ℚ, whole-≤ℤ}
use Rattle.progression.specs.Street.{Street}
use Rattle.progression.specs.Speeds.{number}
use Rattle.progression.specs.TimingRecord.{TimingRecord, base}
use Rattle.progression.specs.BaseRecord.{cycle}
use Rattle.progression.specs.Good.{Good}
use Rattle.progression.specs.Best.{Bounded, bands_of}
use Rattle.branch_and_bound.specs.declared.found.Verdict.{Verdict}
use Rattle.branch_and_bound.specs.declared.found.Verdict.TheVariants.{Best, NoTiming, Stopped}
use Rattle.box_search.specs.declared.site.SitePart.{SitePart}
use Rattle.box_search.specs.Kinds.{ProvesBy}
use Rattle.second_plan.specs.Seconds.{IsWholeCycle}
use Rattle.second_plan.specs.declared.answer.PlanEnd.TheVariants as end
use Rattle.whole_plan.specs.Sought.{street_at, bound_by, IsCeiling, IsSought, IsStart}
use Rattle.whole_plan.specs.Sets.{IsOutcomeFrom, IsOutcome}
use Rattle.whole_plan.specs.declared.searching.CycleFound.{CycleFound}
use Rattle.whole_plan.specs.declared.setting.Outcome.{Outcome}
use Rattle.whole_plan.specs.declared.setting.Outcome.TheVariants.{OffsetSet, Ended}

pub ceiling_of : (a : Street) (timing : Option TimingRecord) (bound : ℚ) (v : Verdict SitePart) → ProvesBy (bands_of a) timing bound v → IsCeiling a (bound_by v bound)
ceiling_of a None bound Best h = absurd h
ceiling_of a (Some t) bound Best h = subst (λ x. Bounded a x) h.1 h.0.greatest
ceiling_of a timing bound NoTiming h = h.1
ceiling_of a timing bound (Stopped stop) h = h.0

-- what is good at a cycle within the limits is good
pub good_within : (a : Street) (k : ℕ) (t : TimingRecord) → IsWholeCycle a k → Good (street_at a k) t → Good a t
good_within a k t w g =
    let some : whole (pos 0) ≤ℚ number t.grid = whole-≤ℤ (pos 0) (pos t.grid) (omega (arith, ints)) in
    record {
      base = record {
        formed = g.base.formed;
        shape = g.base.shape;
        patterns = g.base.patterns;
        cycle_least = ≤ℚ_trans (a.head.cycle.least *ℚ number t.grid) (number k *ℚ number t.grid) (number (cycle a (base t)))
            (≤ℚ-*ℚ a.head.cycle.least (number k) (number t.grid) w.least some) g.base.cycle_least;
        cycle_most = ≤ℚ_trans (number (cycle a (base t))) (number k *ℚ number t.grid) (a.head.cycle.most *ℚ number t.grid) g.base.cycle_most
            (≤ℚ-*ℚ (number k) a.head.cycle.most (number t.grid) w.most some);
        fast = g.base.fast;
        slow = g.base.slow;
        rise = g.base.rise;
        drop = g.base.drop;
      };
      ratio = g.ratio;
      least = g.least;
      equal = g.equal;
      outbound = g.outbound;
      inbound = g.inbound;
    }

pub all_within : (a : Street) (k : ℕ) (s : Street) (o : Option TimingRecord) → IsWholeCycle a k → s ≡ street_at a k → IfSome o (λ t. Good s t) → IfSome o (λ t. Good a t)
all_within a k s None w e h = tt
all_within a k s (Some t) w e h = good_within a k t w (subst (λ b. Good b t) e h)

-- ---- what comes of a cycle
module _ (a : Street) (given : Option TimingRecord) (k : ℕ) (s : CycleFound) (found : IsSought (street_at a k) s) where
  from_start : (t : TimingRecord) (r : Outcome) → IsStart a given k (Some t) → IsOutcomeFrom a (base t) k r → IsOutcome a given k r
  from_start t (OffsetSet q) start h = record { timing = t; start = start; set = h }
  from_start t (Ended e) start h = inr (t, (start, h))

  pub from_found : (t : TimingRecord) (r : Result Outcome Memory) → s.timing ≡ Some t → IfOk r (λ x. IsOutcomeFrom a (base t) k x) → IfOk r (λ x. IsOutcome a given k x)
  from_found t (Err m) e h = tt
  from_found t (Ok r) e h = from_start t r (record { sought = s; found = found; start_is = sym (ap (λ o. option_or o given) e) }) h
