-- The texts of four lists of items, one after the other.
use Rattle.std.proofs.Common.{◌≡◌, ℕ, List, ◌++◌, flat_map, ap, ◌∙◌}
use Rattle.std.proofs.lemmas.Grind.{flat_map-append}

pub four_texts : {A : Type 0} (g : A → List ℕ) (w x y z : List A) → flat_map g (w ++ (x ++ (y ++ z))) ≡ flat_map g w ++ (flat_map g x ++ (flat_map g y ++ flat_map g z))
four_texts g w x y z =
    flat_map-append g w (x ++ (y ++ z))
    ∙ ap (λ (t : List ℕ). flat_map g w ++ t) (flat_map-append g x (y ++ z) ∙ ap (λ (t : List ℕ). flat_map g x ++ t) (flat_map-append g y z))
