-- The greatest bound of one more node.
use Rattle.std.proofs.Common.{◌≡◌, ℕ, ◌+◌, ◌<◌, ◌⊎◌, inl, inr, List, Option, Some, None, refl, sym, subst, take, length, get_or}
use Rattle.std.specs.Prelude.{All}
use Rattle.std.proofs.lemmas.List.Elements.{All-more, All-weaker}
use Rattle.std.proofs.lemmas.Option.{slice_get_read}
use Rattle.rational_theory.specs.Rational.{ℚ, ◌≤ℚ◌, ◌<ℚ◌}
use Rattle.rational_theory.proofs.Order.{≤ℚ_refl, ≤ℚ_trans, <ℚ-≤ℚ, <ℚ_not-≤ℚ, not-≤ℚ}
use Rattle.branch_and_bound.specs.declared.node.Node.{Node}
use Rattle.branch_and_bound.specs.declared.greatest.Greatest.{Greatest}
use Rattle.branch_and_bound.specs.Greatest.{IsGreatest, IsOverBound, IsOverAll, IsLess, IsSame, IsLarger, bound_of}

grow_over : (old : Option Greatest) (i : ℕ) (bound : ℚ) (other : Option ℚ) → IsOverAll old bound → IsOverBound old other → IsOverBound (Some (record { index = i; bound = bound })) other
grow_over old i bound None h k = tt
grow_over None i bound (Some b) h k = absurd k
grow_over (Some g) i bound (Some b) h k = ≤ℚ_trans b g.bound bound k (<ℚ-≤ℚ g.bound bound h)

≤ℚ-<ℚ : (x y z : ℚ) → x ≤ℚ y → y <ℚ z → x <ℚ z
≤ℚ-<ℚ x y z h k = not-≤ℚ x z (λ l. <ℚ_not-≤ℚ y z k (≤ℚ_trans z x y l h))

less_before : (old : Option Greatest) (bound : ℚ) (other : Option ℚ) → IsOverAll old bound → IsOverBound old other → IsLess bound other
less_before old bound None h k = tt
less_before None bound (Some b) h k = absurd k
less_before (Some g) bound (Some b) h k = ≤ℚ-<ℚ b g.bound bound k h

own_over : (i : ℕ) (bound : ℚ) (other : Option ℚ) → other ≡ Some bound → IsOverBound (Some (record { index = i; bound = bound })) other
own_over i bound other e = subst (λ o. IsOverBound (Some (record { index = i; bound = bound })) o) (sym e) (≤ℚ_refl bound)

pub next_greatest : {K : Type 0} (nodes : List (Node K)) (i : ℕ) (node : Node K) (old new : Option Greatest)
    → i < length nodes → node ≡ get_or nodes i node → IsGreatest nodes i old → IsSame old new node ⊎ IsLarger old new i node → IsGreatest nodes (i + 1) new
next_greatest nodes i node old new h e p (inl q) =
    let over : All (λ n. IsOverBound old (bound_of n)) (take (i + 1) nodes) = All-more (λ n. IsOverBound old (bound_of n)) nodes i node h p.over (subst (λ n. IsOverBound old (bound_of n)) e q.over) in
    let there : IsGreatest nodes (i + 1) old = record { over = over; waits = p.waits; first = p.first } in
    subst (λ g. IsGreatest nodes (i + 1) g) (sym q.same) there
next_greatest nodes i node old new h e p (inr q) =
    let most : Option Greatest = Some (record { index = i; bound = q.bound }) in
    let front : All (λ n. IsOverBound most (bound_of n)) (take i nodes) = All-weaker (λ n. IsOverBound old (bound_of n)) (λ n. IsOverBound most (bound_of n))
    (λ n k. grow_over old i q.bound (bound_of n) q.over k) (take i nodes) p.over in
    let here : IsOverBound most (bound_of (get_or nodes i node)) = subst (λ n. IsOverBound most (bound_of n)) e (own_over i q.bound (bound_of node) q.is) in
    let there : IsGreatest nodes (i + 1) most = record {
      over = All-more (λ n. IsOverBound most (bound_of n)) nodes i node h front here;
      waits = record { node = node; at = slice_get_read nodes (length nodes) i node refl h e; waits = q.is };
      first = All-weaker (λ n. IsOverBound old (bound_of n)) (λ n. IsLess q.bound (bound_of n)) (λ n k. less_before old q.bound (bound_of n) q.over k) (take i nodes) p.over;
    } in
    subst (λ g. IsGreatest nodes (i + 1) g) (sym q.new_is) there
