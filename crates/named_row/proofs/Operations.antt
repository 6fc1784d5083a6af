-- The two operations at one place, in their order.
use Rattle.std.proofs.Common.{◌≡◌, Option, Some, None, sym, ◌∙◌, ap, ap₂}
use Rattle.rational_theory.specs.Rational.{ℚ, ◌*ℚ◌}
use Rattle.narrow_fraction.specs.Attempt.{earlier}
use Rattle.narrow_fraction.specs.Past128.{Fits128, Past128, past_wide}
use Rattle.narrow_fraction.proofs.Past128.{past_none, past_some}
use Rattle.narrow_fraction.specs.declared.wide.Op.TheVariants.{Add, Mul}
use Rattle.narrow_fraction.specs.declared.wide.Wide.{Wide}
use Rattle.named_row.specs.declared.names.Place.{Place}
use Rattle.named_row.specs.Refusals.{at, place_refusal}
use Rattle.named_row.specs.declared.wide_at.WideAt.{WideAt}

-- what a product's refusal is at its place
at_some : (p : Place) (o : Option Wide) (w v : Wide) → o ≡ Some v → w ≡ v → at p o ≡ Some (record { place = p; wide = w })
at_some p o w v e f = ap (at p) e ∙ ap (λ (t : Wide). at p (Some t)) (sym f)

-- the product was refused
pub product_refused : (p : Place) (k x c : ℚ) (w : Wide) → (w ≡ record { op = Mul; left = k; right = c }) × Past128 Mul k c → place_refusal p k x c ≡ Some (record { place = p; wide = w })
unfolding place_refusal
product_refused p k x c w h = ap (λ o. earlier o (at p (past_wide Add x (k *ℚ c)))) (at_some p (past_wide Mul k c) w _ (past_some Mul k c h.1) h.0)

-- the product fits, and the sum was refused
pub sum_refused : (p : Place) (k x c q : ℚ) (w : Wide) → Fits128 Mul k c × (q ≡ k *ℚ c) → (w ≡ record { op = Add; left = x; right = q }) × Past128 Add x q
    → place_refusal p k x c ≡ Some (record { place = p; wide = w })
unfolding place_refusal
sum_refused p k x c q w f h =
    ap₂ earlier (ap (at p) (past_none Mul k c f.0)) (ap (λ t. at p (past_wide Add x t)) (sym f.1) ∙ at_some p (past_wide Add x q) w _ (past_some Add x q h.1) h.0)

-- both fit
pub both_fit : (p : Place) (k x c q : ℚ) → Fits128 Mul k c × (q ≡ k *ℚ c) → Fits128 Add x q → place_refusal p k x c ≡ None
unfolding place_refusal
both_fit p k x c q f h =
    ap₂ earlier (ap (at p) (past_none Mul k c f.0)) (ap (λ t. at p (past_wide Add x t)) (sym f.1) ∙ ap (at p) (past_none Add x q h))

-- a refusal of one of the two names their place
first_there : (p : Place) (o q : Option Wide) (w : WideAt) → earlier (at p o) (at p q) ≡ Some w → w.place ≡ p
first_there p (Some a) q w e = let f : ◌≡◌ {A = WideAt} (record { place = p; wide = a }) w = cc in sym (ap (λ (t : WideAt). t.place) f)
first_there p None (Some b) w e = let f : ◌≡◌ {A = WideAt} (record { place = p; wide = b }) w = cc in sym (ap (λ (t : WideAt). t.place) f)
first_there p None None w e = cc

pub refused_there : (p : Place) (k x c : ℚ) (w : WideAt) → place_refusal p k x c ≡ Some w → w.place ≡ p
unfolding place_refusal
refused_there p k x c w e = first_there p (past_wide Mul k c) (past_wide Add x (k *ℚ c)) w e
