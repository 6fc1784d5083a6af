-- The least base with the pairs that are put is the timing of the plan.
use Rattle.std.proofs.Common.{◌≡◌, ℕ, ◌<◌, ◌≤◌, pos, sym, ◌∙◌, ap, subst, arith}
use Rattle.std.specs.Prelude.{Option, None, Some, IfSome}
use Rattle.progression.specs.Street.{Street, count, HasSignal}
use Rattle.progression.specs.BaseRecord.{BaseRecord, common_red}
use Rattle.progression.specs.TimingRecord.{base}
use Rattle.progression.specs.declared.parts.Dir.TheVariants.{Outbound, Inbound}
use Rattle.artery_model.specs.Valid.{IsValid}
use Rattle.band_measure.specs.Widest.{IsWidestBand}
use Rattle.band_measure.specs.declared.pair.Widest.{Widest}
use Rattle.description_reader.specs.Typed.{Typed, IsTyped}
use Rattle.typed_plan.specs.Asked.{IsLeast}
use Rattle.typed_plan.specs.Counts.{count_fault, HasCounts}
use Rattle.typed_plan.specs.Grid.{too_fine, least_base}
use Rattle.typed_plan.specs.Ends.{ArePut, pair_or_none, paired, IsBelow, StartsAtOnce, IsTimingOf}
use Rattle.typed_plan.specs.declared.timing.Measured.{Measured}
use Rattle.typed_plan.proofs.Forward.{begun, forward}
use Rattle.typed_plan.proofs.LeastGrid.{first_red, red_starts, is_least}

-- a pair whose first and whose band are below the cycle
pub below_of : (cycle : ℕ) (found : Option Widest) → IfSome found (λ (w : Widest). w.first < cycle) → IfSome found (λ (w : Widest). w.band < cycle) → IsBelow cycle found
below_of cycle None h k = tt
below_of cycle (Some w) h k = (h, k)

module _ (a : Street) (p : Typed) (valid : IsValid a) (typed : IsTyped p) (counts : HasCounts a p) (fault : count_fault a p ≡ None) (fine : too_fine a p ≡ None)
    (m : Measured) (there back : Option Widest) where
  abbrev out : Widest
  out = pair_or_none m.outbound

  abbrev inward : Widest
  inward = pair_or_none m.inbound

  of_least : m.timing ≡ paired (least_base a p) out inward → IsWidestBand a (least_base a p) Outbound there → IsWidestBand a (least_base a p) Inbound back
      → ArePut a there back m.outbound m.inbound → IsTimingOf a p m
  of_least is widest_out widest_in put =
      let parts : 1 ≤ a.head.parts = let l = valid.least_parts in omega (arith, l) in
      let few : 1 ≤ count a = let l = valid.few in omega (arith, l) in
      let on : base m.timing ≡ least_base a p = ap base is in
      record {
        counts = fault;
        fine = fine;
        least = subst (λ s. IsLeast a p s) (sym on) (is_least a p parts (begun a p typed parts) counts few (forward a p typed counts));
        first = subst (λ s. common_red s 1 ≡ pos 0) (sym on) (first_red a p parts (begun a p typed parts) counts few (forward a p typed counts));
        reds = subst (λ s. (i : ℕ) → HasSignal a i → StartsAtOnce a s i) (sym on) (red_starts a p parts (begun a p typed parts) counts few (forward a p typed counts));
        there = there;
        back = back;
        widest_out = subst (λ s. IsWidestBand a s Outbound there) (sym on) widest_out;
        widest_in = subst (λ s. IsWidestBand a s Inbound back) (sym on) widest_in;
        put = put;
        pairs = is ∙ ap (λ s. paired s out inward) (sym on);
      }

  pub is_timing : (f : BaseRecord) → f ≡ least_base a p → m.timing ≡ paired f out inward → IsWidestBand a f Outbound there → IsWidestBand a f Inbound back
      → ArePut a there back m.outbound m.inbound → IsTimingOf a p m
  is_timing f e is widest_out widest_in put =
      of_least (is ∙ ap (λ g. paired g out inward) e) (subst (λ g. IsWidestBand a g Outbound there) e widest_out) (subst (λ g. IsWidestBand a g Inbound back) e widest_in) put
