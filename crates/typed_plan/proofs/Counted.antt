-- A plan without a fault of its counts has as many numbers as the artery has signals and links.
use Rattle.std.proofs.Common.{◌≡◌, ℕ, ◌+◌, ◌-◌, ◌==◌, ◌≤◌, length, true, arith}
use Rattle.std.proofs.lemmas.Bool.Decides.{nat_tests}
use Rattle.std.specs.Prelude.{None, codes, [], ◌∷◌}
use Rattle.progression.specs.Street.{Street, count}
use Rattle.progression.specs.declared.parts.Dir.TheVariants.{Outbound, Inbound}
use Rattle.description_reader.specs.Typed.{Typed, measured}
use Rattle.typed_plan.specs.Counts.{counted, links_counted, count_fault, HasCounts}
use Rattle.artery_model.proofs.Validity.{each_none, passes_of}

same_of : (n m : ℕ) → (n == m) ≡ true → n ≡ m
same_of n m e = grind (arith, nat_tests)

one_more : (n m : ℕ) → 1 ≤ m → n ≡ m - 1 → n + 1 ≡ m
one_more n m h e = omega arith

pub has_counts : (a : Street) (p : Typed) → 1 ≤ count a → count_fault a p ≡ None → HasCounts a p
has_counts a p some e =
    let tests = each_none (
    counted (length p.offsets) (count a) (codes "offset")
    ∷ counted (length p.patterns) (count a) (codes "patterns")
    ∷ links_counted a p Outbound
    ∷ links_counted a p Inbound
    ∷ []) e in
    record {
      offsets = same_of _ _ (passes_of _ _ _ tests.0);
      patterns = same_of _ _ (passes_of _ _ _ tests.1.0);
      links = λ d. elim d as (λ d. length (measured p d) + 1 ≡ count a) [
        | Outbound ↦ one_more (length (measured p Outbound)) (count a) some (same_of _ _ (passes_of _ _ _ tests.1.1.0))
        | Inbound ↦ one_more (length (measured p Inbound)) (count a) some (same_of _ _ (passes_of _ _ _ tests.1.1.1.0))
      ];
    }
