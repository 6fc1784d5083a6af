-- One kind of times after the other: what is shared so far, and the first multiple that is too large.
use Rattle.std.proofs.Common.{◌≡◌, ◌++◌, ℕ, List, None, Some, Result, Ok, Err, ◌∙◌, ap, subst}
use Rattle.std.specs.Prelude.{find, IfOk, IfErr}
use Rattle.progression.specs.Street.{Street}
use Rattle.progression.specs.declared.parts.Dir.TheVariants.{Outbound, Inbound}
use Rattle.description_reader.specs.Typed.{Typed}
use Rattle.typed_plan.specs.Grid.{common_all, commons, with_part, with_offsets, with_out, shared, sizes, too_fine}
use Rattle.typed_plan.specs.declared.times.Times.TheVariants.{Part, After, Run}
use Rattle.typed_plan.proofs.First.{large, skip, stop}

module _ (a : Street) (p : Typed) where
  abbrev from_in : List ℕ
  from_in = commons a p (Run Inbound) (with_out a p) ++ sizes a p

  abbrev from_out : List ℕ
  from_out = commons a p (Run Outbound) (with_offsets a p) ++ from_in

  abbrev from_offsets : List ℕ
  from_offsets = commons a p After (with_part a p) ++ from_out

  module _ (one : ℕ) (one_is : one ≡ common_all a p Part 1) (one_none : find large (commons a p Part 1) ≡ None) where
    part_is : one ≡ with_part a p
    unfolding with_part
    part_is = one_is

    past_part : too_fine a p ≡ find large from_offsets
    past_part = skip (commons a p Part 1) from_offsets one_none

    pub first_offset : (k : ℕ) → find large (commons a p After one) ≡ Some k → too_fine a p ≡ Some k
    first_offset k h = past_part ∙ stop (commons a p After (with_part a p)) from_out k (subst (λ m. find large (commons a p After m) ≡ Some k) part_is h)

    module _ (two : ℕ) (two_is : two ≡ common_all a p After one) (two_none : find large (commons a p After one) ≡ None) where
      offsets_is : two ≡ with_offsets a p
      unfolding with_offsets
      offsets_is = two_is ∙ ap (common_all a p After) part_is

      past_offsets : too_fine a p ≡ find large from_out
      past_offsets = past_part ∙ skip (commons a p After (with_part a p)) from_out (subst (λ m. find large (commons a p After m) ≡ None) part_is two_none)

      pub first_run : (k : ℕ) → find large (commons a p (Run Outbound) two) ≡ Some k → too_fine a p ≡ Some k
      first_run k h =
          past_offsets ∙ stop (commons a p (Run Outbound) (with_offsets a p)) from_in k (subst (λ m. find large (commons a p (Run Outbound) m) ≡ Some k) offsets_is h)

      module _ (three : ℕ) (three_is : three ≡ common_all a p (Run Outbound) two) (three_none : find large (commons a p (Run Outbound) two) ≡ None) where
        out_is : three ≡ with_out a p
        unfolding with_out
        out_is = three_is ∙ ap (common_all a p (Run Outbound)) offsets_is

        past_out : too_fine a p ≡ find large from_in
        past_out =
            past_offsets ∙ skip (commons a p (Run Outbound) (with_offsets a p)) from_in (subst (λ m. find large (commons a p (Run Outbound) m) ≡ None) offsets_is three_none)

        pub shared_is : (r : Result ℕ ℕ) → IfOk r (λ n. n ≡ common_all a p (Run Inbound) three) → IfOk r (λ n. n ≡ shared a p)
        unfolding shared
        shared_is (Ok n) h = h ∙ ap (common_all a p (Run Inbound)) out_is
        shared_is (Err n) h = tt

        pub so_far : (r : Result ℕ ℕ) → IfOk r (λ n. find large (commons a p (Run Inbound) three) ≡ None) → IfOk r (λ n. too_fine a p ≡ find large (sizes a p))
        so_far (Ok n) h =
            past_out ∙ skip (commons a p (Run Inbound) (with_out a p)) (sizes a p) (subst (λ m. find large (commons a p (Run Inbound) m) ≡ None) out_is h)
        so_far (Err n) h = tt

        pub first_in : (r : Result ℕ ℕ) → IfErr r (λ n. find large (commons a p (Run Inbound) three) ≡ Some n) → IfErr r (λ n. too_fine a p ≡ Some n)
        first_in (Ok n) h = tt
        first_in (Err n) h =
            past_out ∙ stop (commons a p (Run Inbound) (with_out a p)) (sizes a p) n (subst (λ m. find large (commons a p (Run Inbound) m) ≡ Some n) out_is h)
