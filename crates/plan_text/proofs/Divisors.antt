-- The rule on the common divisor of a leaf's whole numbers.
use Rattle.std.proofs.Common.{◌≡◌, ◌↔◌, ℕ, zero, suc, ℤ, ◌*◌, ◌/◌, ◌<◌, List, [], ◌∷◌, All, refl, sym, ◌∙◌, ap, subst, arith, unsigned_abs, mul_comm, get_or}
use Rattle.std.proofs.lemmas.List.Elements.{All-nil, All-cons, All-head, All-tail, All-weaker}
use Rattle.std.proofs.lemmas.Nat.Gcd.{dvd_refl, dvd_trans}
use Prim.Native.Nat.{◌∣◌}
use native.Mathlib.Nat.{mul-div_cancel', dvd-mul_left, dvd_of_mul-dvd-mul_left, mul-dvd-mul_left, eq-one_of_dvd-one, one-dvd, pos_of_dvd_of_pos}
use Rattle.rational_theory.specs.Gcd.{gcd, lcm}
use Rattle.rational_theory.specs.Rational.{ℚ, over}
use Rattle.rational_theory.specs.laws.Coprime.{gcd-IsGcd}
use Rattle.rational_theory.specs.laws.Fractions.{times_part}
use Rattle.rational_theory.proofs.Multiples.{IsMultiple, lcm_first, lcm_second, lcm_least}
use Rattle.named_row.specs.declared.leaves.Weight.{Weight}
use Rattle.plan_text.specs.Leaves.{denominator_from, denominator_of}
use Rattle.plan_text.specs.DivisorRule.{divisor_from, AreOver, DivisorRule}
use Rattle.plan_text.proofs.Multipliers.{times_over}

divides : (n d : ℕ) → IsMultiple n d → d ∣ n
divides n d h = subst (λ m. d ∣ m) (sym h.is) (dvd-mul_left d h.times)

-- ---- what the two numbers mean

abbrev HasDen : ℕ → Weight → Type 0
HasDen k w = w.by.den ∣ k

least_divides : (d : ℕ) (ws : List Weight) (k : ℕ) → denominator_from d ws ∣ k → (d ∣ k) × All (HasDen k) ws
unfolding denominator_from
least_divides d [] k h = (h, All-nil (HasDen k))
least_divides d (w ∷ ws) k h =
    let n = w.by.den in
    let r = least_divides (lcm d n) ws k h in
    (dvd_trans d (divides (lcm d n) d (lcm_first d n w.by.positive)) r.0, All-cons (HasDen k) w ws (dvd_trans n (divides (lcm d n) n (lcm_second d n)) r.0) r.1)

divides_least : (d : ℕ) (ws : List Weight) (k : ℕ) → d ∣ k → All (HasDen k) ws → denominator_from d ws ∣ k
unfolding denominator_from
divides_least d [] k h all = h
divides_least d (w ∷ ws) k h all = divides_least (lcm d w.by.den) ws k (lcm_least d w.by.den k w.by.positive h (All-head (HasDen k) w ws all)) (All-tail (HasDen k) w ws all)

least : (ws : List Weight) (k : ℕ) → (denominator_of ws ∣ k) ↔ All (HasDen k) ws
least ws k = (λ h. (least_divides 1 ws k h).1, λ all. divides_least 1 ws k (one-dvd k) all)

abbrev Divides : ℕ → ℤ → Type 0
Divides k v = k ∣ unsigned_abs v

greatest_divides : (d : ℕ) (vs : List ℤ) (k : ℕ) → k ∣ divisor_from d vs → (k ∣ d) × All (Divides k) vs
unfolding divisor_from
greatest_divides d [] k h = (h, All-nil (Divides k))
greatest_divides d (v ∷ vs) k h =
    let g = gcd-IsGcd d (unsigned_abs v) in
    let r = greatest_divides (gcd d (unsigned_abs v)) vs k h in
    (dvd_trans k r.0 g.0, All-cons (Divides k) v vs (dvd_trans k r.0 g.1) r.1)

divides_greatest : (d : ℕ) (vs : List ℤ) (k : ℕ) → k ∣ d → All (Divides k) vs → k ∣ divisor_from d vs
unfolding divisor_from
divides_greatest d [] k h all = h
divides_greatest d (v ∷ vs) k h all = divides_greatest (gcd d (unsigned_abs v)) vs k ((gcd-IsGcd d (unsigned_abs v)).2 k h (All-head (Divides k) v vs all)) (All-tail (Divides k) v vs all)

greatest : (d : ℕ) (vs : List ℤ) (k : ℕ) → (k ∣ divisor_from d vs) ↔ ((k ∣ d) × All (Divides k) vs)
greatest d vs k = (λ h. greatest_divides d vs k h, λ p. divides_greatest d vs k p.0 p.1)

-- ---- a number over another, in lowest terms

den_over : (v : ℤ) (d : ℕ) → 0 < d → (over v d).den ≡ d / gcd (unsigned_abs v) d
unfolding over
den_over v zero h = absurd (omega arith)
den_over v (suc d) h = refl

-- the divisor that was taken out
taken : (v : ℤ) (d : ℕ) → 0 < d → gcd (unsigned_abs v) d * (over v d).den ≡ d
taken v d h = ap (λ n. gcd (unsigned_abs v) d * n) (den_over v d h) ∙ (times_part (unsigned_abs v) d h).1

-- ---- the rule

-- each denominator divides the number without a divisor that it shares with all
part_divides : (d g q : ℕ) (v : ℤ) → 0 < d → 0 < g → g * q ≡ d → g ∣ d → Divides g v → (over v d).den ∣ q
part_divides d g q v h k e m n =
    let x = (over v d).den in
    let shared : g ∣ gcd (unsigned_abs v) d = (gcd-IsGcd (unsigned_abs v) d).2 g n m in
    let along : x * g ∣ x * gcd (unsigned_abs v) d = mul-dvd-mul_left g x shared in
    let whole : x * gcd (unsigned_abs v) d ≡ g * q = mul_comm x (gcd (unsigned_abs v) d) ∙ taken v d h ∙ sym e in
    dvd_of_mul-dvd-mul_left x k (subst (λ n. n ∣ g * q) (mul_comm x g) (subst (λ n. x * g ∣ n) whole along))

-- what is left of the number over a multiple of the denominator divides the whole number
rest_divides : (d l k : ℕ) (v : ℤ) → 0 < d → l * k ≡ d → (over v d).den ∣ l → Divides k v
rest_divides d l k v h e m =
    let x = (over v d).den in
    let along : k * x ∣ k * l = mul-dvd-mul_left x k m in
    let whole : k * l ≡ x * gcd (unsigned_abs v) d = mul_comm k l ∙ e ∙ sym (taken v d h) ∙ mul_comm (gcd (unsigned_abs v) d) x in
    let part : x * k ∣ x * gcd (unsigned_abs v) d = subst (λ n. n ∣ x * gcd (unsigned_abs v) d) (mul_comm k x) (subst (λ n. k * x ∣ n) whole along) in
    dvd_trans k (dvd_of_mul-dvd-mul_left k (over v d).positive part) (gcd-IsGcd (unsigned_abs v) d).0

abbrev OverHas : ℕ → ℕ → ℤ → Type 0
OverHas d k v = (over v d).den ∣ k

by_values : (d k : ℕ) (vs : List ℤ) (ws : List Weight) → AreOver d vs ws → All (OverHas d k) vs → All (HasDen k) ws
by_values d k vs [] e all = All-nil (HasDen k)
by_values d k [] (w ∷ ws) e all = cc
by_values d k (v ∷ vs) (w ∷ ws) e all =
    let here : w.by ≡ over v d = cc in
    let rest : AreOver d vs ws = cc in
    All-cons (HasDen k) w ws (subst (λ (x : ℚ). x.den ∣ k) (sym here) (All-head (OverHas d k) v vs all)) (by_values d k vs ws rest (All-tail (OverHas d k) v vs all))

by_weights : (d k : ℕ) (vs : List ℤ) (ws : List Weight) → AreOver d vs ws → All (HasDen k) ws → All (OverHas d k) vs
by_weights d k [] ws e all = All-nil (OverHas d k)
by_weights d k (v ∷ vs) [] e all = cc
by_weights d k (v ∷ vs) (w ∷ ws) e all =
    let here : w.by ≡ over v d = cc in
    let rest : AreOver d vs ws = cc in
    All-cons (OverHas d k) v vs (subst (λ (x : ℚ). x.den ∣ k) here (All-head (HasDen k) w ws all)) (by_weights d k vs ws rest (All-tail (HasDen k) w ws all))

-- a number that a multiple of it divides
is_one : (g q d : ℕ) → 0 < d → g * q ≡ d → d ∣ q → g ≡ 1
is_one g q d h e m =
    let above : 0 < q = pos_of_dvd_of_pos (subst (λ n. q ∣ n) e (dvd-mul_left q g)) h in
    let part : q * g ∣ q * 1 = subst (λ n. n ∣ q * 1) (sym (mul_comm q g ∙ e)) (subst (λ n. d ∣ n) (omega arith) m) in
    eq-one_of_dvd-one (dvd_of_mul-dvd-mul_left g above part)

rule_left : (d : ℕ) (vs : List ℤ) (ws : List Weight) → 0 < d → AreOver d vs ws → denominator_of ws ≡ d → divisor_from d vs ≡ 1
rule_left d vs ws h over_d e =
    let g = divisor_from d vs in
    let shared = greatest_divides d vs g (dvd_refl g) in
    let above : 0 < g = pos_of_dvd_of_pos shared.0 h in
    let whole : g * (d / g) ≡ d = mul-div_cancel' g shared.0 in
    let parts : All (OverHas d (d / g)) vs = All-weaker (Divides g) (OverHas d (d / g)) (λ v m. part_divides d g (d / g) v h above whole shared.0 m) vs shared.1 in
    let below : denominator_of ws ∣ d / g = (least ws (d / g)).1 (by_values d (d / g) vs ws over_d parts) in
    is_one g (d / g) d h whole (subst (λ n. n ∣ d / g) e below)

rule_right : (d : ℕ) (vs : List ℤ) (ws : List Weight) → 0 < d → AreOver d vs ws → divisor_from d vs ≡ 1 → denominator_of ws ≡ d
rule_right d vs ws h over_d e =
    let l = denominator_of ws in
    let own : All (OverHas d d) vs = λ k z lt. subst (λ n. (over (get_or vs k z) d).den ∣ n) (taken (get_or vs k z) d h)
    (dvd-mul_left (over (get_or vs k z) d).den (gcd (unsigned_abs (get_or vs k z)) d)) in
    let under : l ∣ d = (least ws d).1 (by_values d d vs ws over_d own) in
    let whole : l * (d / l) ≡ d = mul-div_cancel' l under in
    let each : All (OverHas d l) vs = by_weights d l vs ws over_d ((least ws l).0 (dvd_refl l)) in
    let rest : All (Divides (d / l)) vs = All-weaker (OverHas d l) (Divides (d / l)) (λ v m. rest_divides d l (d / l) v h whole m) vs each in
    let last : d / l ∣ d = subst (λ n. d / l ∣ n) whole (dvd-mul_left (d / l) l) in
    let one : d / l ≡ 1 = eq-one_of_dvd-one (subst (λ n. d / l ∣ n) e (divides_greatest d vs (d / l) last rest)) in
    sym (omega arith) ∙ ap (λ n. l * n) (sym one) ∙ whole

pub divisor_rule : DivisorRule
divisor_rule = record {
  least = least;
  greatest = greatest;
  rule = λ d vs ws h over_d. (λ e. rule_left d vs ws h over_d e, λ e. rule_right d vs ws h over_d e);
  wholes = times_over;
}
