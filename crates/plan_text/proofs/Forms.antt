-- What the form of a leaf says of its multipliers.
use Rattle.std.proofs.Common.{◌≡◌, ℕ, ◌<◌, ◌≤◌, ◌^◌, Bool, true, false, List, [], ◌∷◌, All, refl, sym, ◌∙◌, ap, subst, arith, unsigned_abs, inl, inr}
use Rattle.std.specs.Prelude.{◌||◌, ◌⊎◌, if◌then◌else◌}
use Rattle.std.specs.List.{list_any}
use Rattle.std.proofs.lemmas.List.Elements.{All-nil, All-cons, All-head, All-tail, All-weaker}
use Rattle.std.proofs.lemmas.Bool.Decides.{leb_tells}
use Rattle.named_row.specs.declared.leaves.Weight.{Weight}
use Rattle.plan_text.specs.declared.form.LeafForm.{LeafForm}
use Rattle.plan_text.specs.declared.form.LeafForm.TheVariants.{Over, Plain}
use Rattle.plan_text.specs.Leaves.{denominator_of, times_denominator, IsWhole, is_wide, form_of, IsWritable}

-- a number fits or is wide
fits_or_wide : (n : ℕ) → ((is_wide n ≡ true) × (2 ^ 127 ≤ n)) ⊎ ((is_wide n ≡ false) × (n < 2 ^ 127))
fits_or_wide n = leb_tells (2 ^ 127) n

abbrev any_wide : ℕ → List Weight → Bool
any_wide d ws = list_any (λ (w : Weight). is_wide (unsigned_abs (times_denominator d w.by))) ws

-- where all fit, none is wide
none_wide : (d : ℕ) (ws : List Weight) → All (IsWhole d) ws → any_wide d ws ≡ false
none_wide d [] h = refl
none_wide d (w ∷ ws) h =
    elim (fits_or_wide (unsigned_abs (times_denominator d w.by))) [
      | inl p ↦ absurd (omega (arith, p.1, All-head (IsWhole d) w ws h))
      | inr p ↦ ap (λ (b : Bool). b || any_wide d ws) p.0 ∙ none_wide d ws (All-tail (IsWhole d) w ws h)
    ]

-- and the other way round
whole_below : (d : ℕ) (ws : List Weight) → any_wide d ws ≡ false → All (IsWhole d) ws
whole_below d [] e = All-nil (IsWhole d)
whole_below d (w ∷ ws) e =
    elim (fits_or_wide (unsigned_abs (times_denominator d w.by))) [
      | inl p ↦ absurd (wide_not (any_wide d ws) p.0 e)
      | inr p ↦ All-cons (IsWhole d) w ws p.1 (whole_below d ws (sym (ap (λ (b : Bool). b || any_wide d ws) p.0) ∙ e))
    ]
  where
    wide_not : {b : Bool} (r : Bool) → b ≡ true → (b || r) ≡ false → ⊥
    wide_not r p q = cc

-- a leaf has whole numbers over its least common denominator exactly where it and they fit
pub record IsOver (d : ℕ) (ws : List Weight) : Type 0 where
  pub denominator : d ≡ denominator_of ws
  pub small : d < 2 ^ 127
  pub wholes : All (IsWhole d) ws

form_from : (ws : List Weight) (x y : Bool) → is_wide (denominator_of ws) ≡ x → any_wide (denominator_of ws) ws ≡ y → form_of ws ≡ (if x || y then Plain else Over (denominator_of ws))
unfolding form_of
form_from ws x y e f = ap (λ (b : Bool). if b || any_wide (denominator_of ws) ws then Plain else Over (denominator_of ws)) e ∙ ap (λ (b : Bool). if x || b then Plain else Over (denominator_of ws)) f

pub form_over : (d : ℕ) (ws : List Weight) → IsOver d ws → form_of ws ≡ Over d
form_over d ws h =
    let own : denominator_of ws < 2 ^ 127 = subst (λ n. n < 2 ^ 127) h.denominator h.small in
    let narrow : is_wide (denominator_of ws) ≡ false = elim (fits_or_wide (denominator_of ws)) [ inl p ↦ absurd (omega (arith, p.1, own)) | inr p ↦ p.0 ] in
    let none : any_wide (denominator_of ws) ws ≡ false = none_wide (denominator_of ws) ws (subst (λ n. All (IsWhole n) ws) h.denominator h.wholes) in
    form_from ws false false narrow none ∙ ap Over (sym h.denominator)

pub form_wide : (ws : List Weight) → (denominator_of ws < 2 ^ 127 → ⊥) → form_of ws ≡ Plain
form_wide ws h = form_from ws true (any_wide (denominator_of ws) ws) (elim (fits_or_wide (denominator_of ws)) [ inl p ↦ p.0 | inr p ↦ absurd (h p.1) ]) refl

or_true : (b : Bool) (x y : LeafForm) → (if b || true then x else y) ≡ x
or_true true x y = refl
or_true false x y = refl

pub form_long : (d : ℕ) (ws : List Weight) → d ≡ denominator_of ws → (All (IsWhole d) ws → ⊥) → form_of ws ≡ Plain
form_long d ws e h = long (any_wide (denominator_of ws) ws) refl
  where
    long : (b : Bool) → any_wide (denominator_of ws) ws ≡ b → form_of ws ≡ Plain
    long true f = form_from ws (is_wide (denominator_of ws)) true refl f ∙ or_true (is_wide (denominator_of ws)) Plain (Over (denominator_of ws))
    long false f = absurd (h (subst (λ n. All (IsWhole n) ws) (sym e) (whole_below (denominator_of ws) ws f)))

over_from : (d : ℕ) (ws : List Weight) (x y : Bool) → is_wide (denominator_of ws) ≡ x → any_wide (denominator_of ws) ws ≡ y
    → (if x || y then Plain else Over (denominator_of ws)) ≡ Over d → IsOver d ws
over_from d ws true y e f g = cc
over_from d ws false true e f g = cc
over_from d ws false false e f g =
    let own : denominator_of ws ≡ d = cc in
    let small : denominator_of ws < 2 ^ 127 = elim (fits_or_wide (denominator_of ws)) [ inl p ↦ absurd (apart p.0 e) | inr p ↦ p.1 ] in
    record { denominator = sym own; small = subst (λ n. n < 2 ^ 127) own small; wholes = subst (λ n. All (IsWhole n) ws) own (whole_below (denominator_of ws) ws f) }
  where
    apart : {b : Bool} → b ≡ true → b ≡ false → ⊥
    apart p q = cc

pub over_says : (d : ℕ) (ws : List Weight) → form_of ws ≡ Over d → IsOver d ws
over_says d ws e = over_from d ws (is_wide (denominator_of ws)) (any_wide (denominator_of ws) ws) refl refl
    (sym (form_from ws (is_wide (denominator_of ws)) (any_wide (denominator_of ws) ws) refl refl) ∙ e)

-- so the multipliers can be written in the form of their leaf
pub writable : (ws : List Weight) (form : LeafForm) → form ≡ form_of ws → All (IsWritable form) ws
writable ws Plain e = λ k d lt. tt
writable ws (Over d) e = let h = over_says d ws (sym e) in All-weaker (IsWhole d) (IsWritable (Over d)) (λ w k. (h.small, k)) ws h.wholes
