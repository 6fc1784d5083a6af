-- Lemmas on the definitions of `Lines`.
use Rattle.std.proofs.Common.{◌≡◌, ℕ, zero, suc, pos, List, [], ◌∷◌, length, get_or, ◌<◌, refl, sym, ◌∙◌, ap, arith}
use Rattle.std.proofs.Math.ListN.{set, length-set}
use Rattle.std.proofs.lemmas.List.{get_or-set_same, get_or-set_other}
use Rattle.rational_theory.proofs.Arithmetic.{*ℚ-one, *ℚ-zero, +ℚ-zero}
use Rattle.rational_theory.specs.Rational.{ℚ, whole, neg_ℚ, inverse_ℚ, ◌+ℚ◌, ◌*ℚ◌}
use Rattle.rational_theory.proofs.Order.{*ℚ-inverse}
use Rattle.rational_theory.specs.Rows.{dot, scale, add}
use Rattle.rational_theory.proofs.Rows.{dot-scale, dot-add}
use Rattle.rational_theory.proofs.Ring.{one-*ℚ, zero-+ℚ, ring, at, lit, minus, ◌⊕◌, ◌⊗◌}
use Rattle.simplex_theory.specs.Lines.{values, divided, cleared}

pub dot-set : (c k : List ℚ) (j : ℕ) (v w : ℚ) → j < length c → j < length k
    → dot (set c j v) (set k j w) +ℚ get_or c j (whole (pos 0)) *ℚ get_or k j (whole (pos 0)) ≡ dot c k +ℚ v *ℚ w
dot-set [] k j v w h l = absurd (omega arith)
dot-set (a ∷ us) [] j v w h l = absurd (omega arith)
dot-set (a ∷ us) (b ∷ bs) zero v w h l =
    ring ((at 0 ⊗ at 1 ⊕ at 2) ⊕ at 3 ⊗ at 4) ((at 3 ⊗ at 4 ⊕ at 2) ⊕ at 0 ⊗ at 1) (v ∷ w ∷ dot us bs ∷ a ∷ b ∷ []) refl
dot-set (a ∷ us) (b ∷ bs) (suc j) v w h l =
    let e = dot-set us bs j v w (omega arith) (omega arith) in
    ring ((at 0 ⊕ at 1) ⊕ at 2) (at 0 ⊕ (at 1 ⊕ at 2)) (a *ℚ b ∷ dot (set us j v) (set bs j w) ∷ get_or us j (whole (pos 0)) *ℚ get_or bs j (whole (pos 0)) ∷ []) refl
    ∙ ap (λ t. a *ℚ b +ℚ t) e
    ∙ ring (at 0 ⊕ (at 1 ⊕ at 2)) ((at 0 ⊕ at 1) ⊕ at 2) (a *ℚ b ∷ dot us bs ∷ v *ℚ w ∷ []) refl

-- the exchanged row, solved for the variable that stood at place j
pub divided_gap : (c k : List ℚ) (j : ℕ) (b : ℚ) → j < length c → j < length k → (get_or c j (whole (pos 0)) ≡ whole (pos 0) → ⊥)
    → get_or k j (whole (pos 0)) +ℚ dot (divided j c) (set k j b) ≡ inverse_ℚ (get_or c j (whole (pos 0))) *ℚ (b +ℚ dot c k)
unfolding divided
divided_gap c k j b h l n =
    let p = get_or c j (whole (pos 0)) in
    let s = get_or k j (whole (pos 0)) in
    let i = inverse_ℚ p in
    let d = dot (set c j (whole (pos 1))) (set k j b) in
    ap (λ t. s +ℚ t) (dot-scale i (set c j (whole (pos 1))) (set k j b))
    ∙ ap (λ t. t +ℚ i *ℚ d) (sym (one-*ℚ s) ∙ ap (λ t. t *ℚ s) (sym (*ℚ-inverse p n)))
    ∙ ring (at 0 ⊗ at 1 ⊗ at 2 ⊕ at 1 ⊗ at 3) (at 1 ⊗ (at 3 ⊕ at 0 ⊗ at 2)) (p ∷ i ∷ s ∷ d ∷ []) refl
    ∙ ap (λ t. i *ℚ t) (dot-set c k j (whole (pos 1)) b h l)
    ∙ ring (at 0 ⊗ (at 1 ⊕ lit (pos 1) ⊗ at 2)) (at 0 ⊗ (at 2 ⊕ at 1)) (i ∷ dot c k ∷ b ∷ []) refl

-- another row: what it is off by, less so many times what the exchanged row is off by
pub cleared_gap : (d e k : List ℚ) (j : ℕ) (y b : ℚ) → j < length d → j < length k
    → y +ℚ dot (cleared j e d) (set k j b) ≡ (y +ℚ dot d k) +ℚ neg_ℚ (get_or d j (whole (pos 0))) *ℚ (get_or k j (whole (pos 0)) +ℚ dot e (set k j b))
unfolding cleared
cleared_gap d e k j y b h l =
    let g = get_or d j (whole (pos 0)) in
    let s = get_or k j (whole (pos 0)) in
    let t = dot (set d j (whole (pos 0))) (set k j b) in
    let u = dot e (set k j b) in
    ap (λ v. y +ℚ v) (dot-add (set d j (whole (pos 0))) (scale (neg_ℚ g) e) (set k j b) ∙ ap (λ v. t +ℚ v) (dot-scale (neg_ℚ g) e (set k j b)))
    ∙ ring (at 0 ⊕ (at 1 ⊕ minus (at 2) ⊗ at 3)) ((at 0 ⊕ (at 1 ⊕ at 2 ⊗ at 4)) ⊕ minus (at 2) ⊗ (at 4 ⊕ at 3)) (y ∷ t ∷ g ∷ u ∷ s ∷ []) refl
    ∙ ap (λ v. (y +ℚ v) +ℚ neg_ℚ g *ℚ (s +ℚ u)) (dot-set d k j (whole (pos 0)) b h l)
    ∙ ring ((at 0 ⊕ (at 1 ⊕ lit (pos 0) ⊗ at 2)) ⊕ at 3) ((at 0 ⊕ at 1) ⊕ at 3) (y ∷ dot d k ∷ b ∷ neg_ℚ g *ℚ (s +ℚ u) ∷ []) refl

-- ---- what stands at the places
pub length-values : (x : ℕ → ℚ) (z : ℚ) (vs : List ℕ) → length (values x z vs) ≡ suc (length vs)
length-values x z [] = refl
length-values x z (v ∷ vs) = ap suc (length-values x z vs)

pub values-set : (x : ℕ → ℚ) (z : ℚ) (vs : List ℕ) (j b : ℕ) → j < length vs → values x z (set vs j b) ≡ set (values x z vs) j (x b)
values-set x z [] j b h = absurd (omega arith)
values-set x z (v ∷ vs) zero b h = refl
values-set x z (v ∷ vs) (suc j) b h = ap (λ t. x v ∷ t) (values-set x z vs j b (omega arith))

pub get_or-values : (x : ℕ → ℚ) (z : ℚ) (vs : List ℕ) (j : ℕ) → j < length vs → get_or (values x z vs) j (whole (pos 0)) ≡ x (get_or vs j 0)
get_or-values x z [] j h = absurd (omega arith)
get_or-values x z (v ∷ vs) zero h = refl
get_or-values x z (v ∷ vs) (suc j) h = get_or-values x z vs j (omega arith)

-- ---- cells
pub length-scale : (k : ℚ) (c : List ℚ) → length (scale k c) ≡ length c
length-scale k [] = refl
length-scale k (a ∷ us) = ap suc (length-scale k us)

pub length-add : (c d : List ℚ) → length c ≡ length d → length (add c d) ≡ length c
length-add [] [] h = refl
length-add [] (b ∷ bs) h = absurd (omega arith)
length-add (a ∷ us) [] h = refl
length-add (a ∷ us) (b ∷ bs) h = ap suc (length-add us bs (omega arith))

pub length-divided : (j : ℕ) (c : List ℚ) → length (divided j c) ≡ length c
unfolding divided
length-divided j c = length-scale _ _ ∙ length-set c j (whole (pos 1))

pub length-cleared : (j : ℕ) (e d : List ℚ) → length d ≡ length e → length (cleared j e d) ≡ length d
unfolding cleared
length-cleared j e d h =
    length-add (set d j (whole (pos 0))) (scale (neg_ℚ (get_or d j (whole (pos 0)))) e) (length-set d j (whole (pos 0)) ∙ h ∙ sym (length-scale _ e))
    ∙ length-set d j (whole (pos 0))

pub get_or-scale : (k : ℚ) (c : List ℚ) (i : ℕ) → get_or (scale k c) i (whole (pos 0)) ≡ k *ℚ get_or c i (whole (pos 0))
get_or-scale k [] i = sym (*ℚ-zero k)
get_or-scale k (a ∷ us) zero = refl
get_or-scale k (a ∷ us) (suc i) = get_or-scale k us i

pub get_or-add : (c d : List ℚ) (i : ℕ) → get_or (add c d) i (whole (pos 0)) ≡ get_or c i (whole (pos 0)) +ℚ get_or d i (whole (pos 0))
get_or-add [] d i = sym (zero-+ℚ _)
get_or-add (a ∷ us) [] i = sym (+ℚ-zero _)
get_or-add (a ∷ us) (b ∷ bs) zero = refl
get_or-add (a ∷ us) (b ∷ bs) (suc i) = get_or-add us bs i

pub divided_at : (j : ℕ) (c : List ℚ) → j < length c → get_or (divided j c) j (whole (pos 0)) ≡ inverse_ℚ (get_or c j (whole (pos 0)))
unfolding divided
divided_at j c h = get_or-scale _ (set c j (whole (pos 1))) j ∙ ap (λ t. inverse_ℚ (get_or c j (whole (pos 0))) *ℚ t) (get_or-set_same c j (whole (pos 1)) (whole (pos 0)) h) ∙ *ℚ-one _

pub divided_other : (j k : ℕ) (c : List ℚ) → (k ≡ j → ⊥) → get_or (divided j c) k (whole (pos 0)) ≡ inverse_ℚ (get_or c j (whole (pos 0))) *ℚ get_or c k (whole (pos 0))
unfolding divided
divided_other j k c n = get_or-scale _ (set c j (whole (pos 1))) k ∙ ap (λ t. inverse_ℚ (get_or c j (whole (pos 0))) *ℚ t) (get_or-set_other c j k (whole (pos 1)) (whole (pos 0)) n)

pub cleared_at : (j : ℕ) (e d : List ℚ) → j < length d → get_or (cleared j e d) j (whole (pos 0)) ≡ neg_ℚ (get_or d j (whole (pos 0))) *ℚ get_or e j (whole (pos 0))
unfolding cleared
cleared_at j e d h =
    get_or-add (set d j (whole (pos 0))) (scale (neg_ℚ (get_or d j (whole (pos 0)))) e) j
    ∙ ap (λ t. t +ℚ get_or (scale (neg_ℚ (get_or d j (whole (pos 0)))) e) j (whole (pos 0))) (get_or-set_same d j (whole (pos 0)) (whole (pos 0)) h)
    ∙ zero-+ℚ _ ∙ get_or-scale _ e j

pub cleared_other : (j k : ℕ) (e d : List ℚ) → (k ≡ j → ⊥)
    → get_or (cleared j e d) k (whole (pos 0)) ≡ get_or d k (whole (pos 0)) +ℚ neg_ℚ (get_or d j (whole (pos 0))) *ℚ get_or e k (whole (pos 0))
unfolding cleared
cleared_other j k e d n =
    get_or-add (set d j (whole (pos 0))) (scale (neg_ℚ (get_or d j (whole (pos 0)))) e) k
    ∙ ap (λ t. t +ℚ get_or (scale (neg_ℚ (get_or d j (whole (pos 0)))) e) k (whole (pos 0))) (get_or-set_other d j k (whole (pos 0)) (whole (pos 0)) n)
    ∙ ap (λ t. get_or d k (whole (pos 0)) +ℚ t) (get_or-scale _ e k)
