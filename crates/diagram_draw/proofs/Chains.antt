-- What a list becomes that is made by extensions, each by what it means, and what a loop makes of it.
use Rattle.std.proofs.Common.{◌≡◌, ℕ, ◌+◌, ◌-◌, ◌≤◌, List, [], ◌∷◌, ◌++◌, map, flat_map, append-nil, sym, ap, ◌∙◌, arith}
use Rattle.std.specs.List.{range_with_len}
use Rattle.timing_measures.proofs.Pieces.{extended, extended_one, range_on, piece_up, map_up, text_on, text_up, texts_up}
use Rattle.quantity_text.proofs.Pushed.{one_more, six_pushed, three_pushed, two_pushed}
use Rattle.std.proofs.lemmas.Grind.{flat_map-append}
use Rattle.diagram_draw.specs.Shapes.{Caption, captions_text}
use Rattle.diagram_draw.proofs.Joins.{captions_joined}

-- ---- one element or one list more
pub with_one : {A : Type 0} (new old whole : List A) (x y : A) → new ≡ old ++ x ∷ [] → x ≡ y → old ≡ whole → new ≡ whole ++ y ∷ []
with_one new old whole x y p q r = cc

pub with_more : {A : Type 0} (new old now row piece whole : List A) → new ≡ old ++ now → now ≡ row → row ≡ piece → old ≡ whole → new ≡ whole ++ piece
with_more new old now row piece whole p q r s = cc

-- one piece more of the numbers from 0 on
pub piece_on : {A : Type 0} (f : ℕ → List A) (i : ℕ) → flat_map f (range_with_len 0 (i + 1)) ≡ flat_map f (range_with_len 0 i) ++ f i
piece_on f i = ap (flat_map f) (range_on i) ∙ (flat_map-append f (range_with_len 0 i) (i ∷ []) ∙ ap (λ ys. flat_map f (range_with_len 0 i) ++ ys) (append-nil (f i)))

pub with_piece : {A : Type 0} (new old piece whole next : List A) → new ≡ old ++ piece → old ≡ whole → next ≡ whole ++ piece → new ≡ next
with_piece new old piece whole next p q r = cc

-- ---- numbers of a loop
back_one : (i : ℕ) → i + 1 - 1 ≡ i
back_one i = omega arith

from_one : (i : ℕ) → 1 ≤ i + 1
from_one i = omega arith

same_end : (x y : ℕ) → x ≤ y → y ≤ x → x ≡ y
same_end x y h k = omega arith

last_up : (x y z : ℕ) → (1 ≤ y + 1 → x ≤ y + 1) → y + 1 ≤ x → y ≡ z → x - 1 ≡ z
last_up x y z h k e = let l = h (from_one y) in omega arith

last_below : (x y z : ℕ) → (1 ≤ y → x ≤ y) → y ≤ x → 1 ≤ y → y ≡ z → x - 1 ≡ z - 1
last_below x y z h k some e = let l = h some in omega arith

module _ {B : Type 0} (g : ℕ → B) where
  -- a loop has ended that went to a number, below one, or to one more
  pub ends_at : (x y z : ℕ) → x ≤ y → y ≤ x → y ≡ z → g x ≡ g z
  ends_at x y z h k e = ap g (same_end x y h k ∙ e)

  pub ends_up : (x y z : ℕ) → (1 ≤ y + 1 → x ≤ y + 1) → y + 1 ≤ x → y ≡ z → g (x - 1) ≡ g z
  ends_up x y z h k e = ap g (last_up x y z h k e)

  pub ends_below : (x y z : ℕ) → (1 ≤ y → x ≤ y) → y ≤ x → 1 ≤ y → y ≡ z → g (x - 1) ≡ g (z - 1)
  ends_below x y z h k some e = ap g (last_below x y z h k some e)

-- ---- the next turn of a loop upwards from 1
module _ {A : Type 0} (i : ℕ) (some : 1 ≤ i) (new old : List A) where
  pub mapped_up : (f : ℕ → A) (x : A) → new ≡ old ++ x ∷ [] → x ≡ f i → old ≡ map f (range_with_len 1 (i - 1))
      → (1 ≤ i + 1) × (new ≡ map f (range_with_len 1 (i + 1 - 1)))
  mapped_up f x p q r =
      (from_one i, extended_one _ _ _ _ _ _ p q r (ap (λ n. map f (range_with_len 1 n)) (back_one i) ∙ map_up f i some))

  pub pieced_up : (f : ℕ → List A) (now row : List A) → new ≡ old ++ now → now ≡ row → row ≡ f i → old ≡ flat_map f (range_with_len 1 (i - 1))
      → (1 ≤ i + 1) × (new ≡ flat_map f (range_with_len 1 (i + 1 - 1)))
  pieced_up f now row p q r s =
      (from_one i, extended _ _ _ _ _ _ _ p q r s (ap (λ n. flat_map f (range_with_len 1 n)) (back_one i) ∙ piece_up f i some))

-- texts in a list, with nothing behind them
pub two_listed : {A : Type 0} (start one two x y : List A) → one ≡ start ++ x → two ≡ one ++ y → two ≡ start ++ (x ++ (y ++ []))
two_listed {A} start one two x y p q = two_pushed start one two x y p q ∙ ap (λ (a : List A). start ++ (x ++ a)) (sym (append-nil y))

pub three_listed : {A : Type 0} (start one two three x y z : List A) → one ≡ start ++ x → two ≡ one ++ y → three ≡ two ++ z → three ≡ start ++ (x ++ (y ++ (z ++ [])))
three_listed {A} start one two three x y z p q r = three_pushed start one two three x y z p q r ∙ ap (λ (a : List A). start ++ (x ++ (y ++ a))) (sym (append-nil z))

-- the text of lists of captions
pub two_rows : (start one two : List ℕ) (xs ys : List Caption) → one ≡ start ++ captions_text xs → two ≡ one ++ captions_text ys → two ≡ start ++ captions_text (xs ++ ys)
two_rows start one two xs ys p q = two_pushed start one two (captions_text xs) (captions_text ys) p q ∙ ap (λ (a : List ℕ). start ++ a) (sym (captions_joined xs ys))

pub three_rows : (start one two three : List ℕ) (xs ys zs : List Caption)
    → one ≡ start ++ captions_text xs → two ≡ one ++ captions_text ys → three ≡ two ++ captions_text zs → three ≡ start ++ captions_text (xs ++ (ys ++ zs))
three_rows start one two three xs ys zs p q r = two_rows start one three xs (ys ++ zs) p (two_rows one two three ys zs q r)

pub four_rows : (start one two three four : List ℕ) (ws xs ys zs : List Caption)
    → one ≡ start ++ captions_text ws → two ≡ one ++ captions_text xs → three ≡ two ++ captions_text ys → four ≡ three ++ captions_text zs
    → four ≡ start ++ captions_text (ws ++ (xs ++ (ys ++ zs)))
four_rows start one two three four ws xs ys zs p q r s = two_rows start one four ws (xs ++ (ys ++ zs)) p (three_rows one two three four xs ys zs q r s)

-- ---- the next turn of a loop that writes
module _ {A : Type 0} (g : A → List ℕ) (start new old : List ℕ) (i : ℕ) where
  pub text_written_on : (f : ℕ → A) → new ≡ old ++ g (f i) → old ≡ start ++ flat_map g (map f (range_with_len 0 i)) → new ≡ start ++ flat_map g (map f (range_with_len 0 (i + 1)))
  text_written_on f p q = one_more start _ (g (f i)) _ old new q p (text_on g f i)

  pub text_written_up : 1 ≤ i → (f : ℕ → A) → new ≡ old ++ g (f i) → old ≡ start ++ flat_map g (map f (range_with_len 1 (i - 1)))
      → (1 ≤ i + 1) × (new ≡ start ++ flat_map g (map f (range_with_len 1 (i + 1 - 1))))
  text_written_up some f p q =
      (from_one i, one_more start _ (g (f i)) _ old new q p (ap (λ n. flat_map g (map f (range_with_len 1 n))) (back_one i) ∙ text_up g f i some))

  pub row_written_up : 1 ≤ i → (f : ℕ → List A) → new ≡ old ++ flat_map g (f i) → old ≡ start ++ flat_map g (flat_map f (range_with_len 1 (i - 1)))
      → (1 ≤ i + 1) × (new ≡ start ++ flat_map g (flat_map f (range_with_len 1 (i + 1 - 1))))
  row_written_up some f p q =
      (from_one i, one_more start _ (flat_map g (f i)) _ old new q p (ap (λ n. flat_map g (flat_map f (range_with_len 1 n))) (back_one i) ∙ texts_up g f i some))

pub piece_written_up : (start new old : List ℕ) (i : ℕ) → 1 ≤ i → (f : ℕ → List ℕ) → new ≡ old ++ f i → old ≡ start ++ flat_map f (range_with_len 1 (i - 1))
    → (1 ≤ i + 1) × (new ≡ start ++ flat_map f (range_with_len 1 (i + 1 - 1)))
piece_written_up start new old i some f p q =
    (from_one i, one_more start _ (f i) _ old new q p (ap (λ n. flat_map f (range_with_len 1 n)) (back_one i) ∙ piece_up f i some))

pub seven_pushed : {A : Type 0} (start one two three four five six seven t u v w x y z : List A) → one ≡ start ++ t → two ≡ one ++ u → three ≡ two ++ v
    → four ≡ three ++ w → five ≡ four ++ x → six ≡ five ++ y → seven ≡ six ++ z
    → seven ≡ start ++ (t ++ (u ++ (v ++ (w ++ (x ++ (y ++ z))))))
seven_pushed start one two three four five six seven t u v w x y z p q r h i j k =
    two_pushed start one seven t (u ++ (v ++ (w ++ (x ++ (y ++ z))))) p (six_pushed one two three four five six seven u v w x y z q r h i j k)

-- the second of three is what is said of it
pub three_pushed_as : {A : Type 0} (start one two three x y z w : List A) → one ≡ start ++ x → two ≡ one ++ y → y ≡ w → three ≡ two ++ z
    → three ≡ start ++ (x ++ (w ++ z))
three_pushed_as start one two three x y z w p q e r = three_pushed start one two three x w z p (q ∙ ap (λ a. one ++ a) e) r
