-- The next turn of a loop from 1 on that writes a piece of each number, and its end.
use Rattle.std.proofs.Common.{◌≡◌, ℕ, ◌+◌, ◌-◌, ◌≤◌, List, ◌++◌, flat_map, ap, ◌∙◌, arith}
use Rattle.std.specs.List.{range_with_len}
use Rattle.quantity_text.proofs.Pushed.{one_more}
use Rattle.timing_measures.proofs.Pieces.{piece_next, texts_up}

module _ (start new old : List ℕ) (i : ℕ) (some : 1 ≤ i) where
  pub piece_written : (f : ℕ → List ℕ) → new ≡ old ++ f i → old ≡ start ++ flat_map f (range_with_len 1 (i - 1))
      → (1 ≤ i + 1) × (new ≡ start ++ flat_map f (range_with_len 1 (i + 1 - 1)))
  piece_written f p q = (omega arith, one_more start _ (f i) _ old new q p (piece_next f i some))

  -- of a list of items of each number, the text of each item
  pub texts_written : {A : Type 0} (g : A → List ℕ) (f : ℕ → List A) → new ≡ old ++ flat_map g (f i) → old ≡ start ++ flat_map g (flat_map f (range_with_len 1 (i - 1)))
      → (1 ≤ i + 1) × (new ≡ start ++ flat_map g (flat_map f (range_with_len 1 (i + 1 - 1))))
  texts_written g f p q =
      let here : i + 1 - 1 ≡ i = omega arith in
      (omega arith, one_more start _ (flat_map g (f i)) _ old new q p (ap (λ n. flat_map g (flat_map f (range_with_len 1 n))) here ∙ texts_up g f i some))

-- a loop has ended that went to one more than a number, or below it
last_up : (x y z : ℕ) → (1 ≤ y + 1 → x ≤ y + 1) → y + 1 ≤ x → y ≡ z → x - 1 ≡ z
last_up x y z h k e = let some : 1 ≤ y + 1 = omega arith in let l = h some in omega arith

last_below : (x y z : ℕ) → (1 ≤ y → x ≤ y) → y ≤ x → 1 ≤ y → y ≡ z → x - 1 ≡ z - 1
last_below x y z h k some e = let l = h some in omega arith

module _ {B : Type 0} (g : ℕ → B) where
  pub ends_up : (x y z : ℕ) → (1 ≤ y + 1 → x ≤ y + 1) → y + 1 ≤ x → y ≡ z → g (x - 1) ≡ g z
  ends_up x y z h k e = ap g (last_up x y z h k e)

  pub ends_below : (x y z : ℕ) → (1 ≤ y → x ≤ y) → y ≤ x → 1 ≤ y → y ≡ z → g (x - 1) ≡ g (z - 1)
  ends_below x y z h k some e = ap g (last_below x y z h k some e)
