-- Lists and texts made piece by piece, one of each number of a range, upwards or downwards.
use Rattle.std.proofs.Common.{◌≡◌, ℕ, zero, suc, ◌+◌, ◌-◌, ◌≤◌, List, [], ◌∷◌, ◌++◌, map, reverse, flat_map, ap, ◌∙◌, arith}
use Rattle.std.specs.List.{range_with_len}
use Rattle.std.proofs.lemmas.List.{append-nil, map-append}
use Rattle.std.proofs.lemmas.Grind.{flat_map-append, reverse_onto}

-- what an old list and its extension become, each by its meaning
pub extended : {A : Type 0} (new old now row piece whole next : List A) → new ≡ old ++ now → now ≡ row → row ≡ piece → old ≡ whole → next ≡ whole ++ piece → new ≡ next
extended new old now row piece whole next p q r s t = cc

-- the next number of a range, at its end
pub range_more : (a n : ℕ) → range_with_len a (suc n) ≡ range_with_len a n ++ (a + n) ∷ []
range_more a zero = ap (λ k. k ∷ []) (omega arith)
range_more a (suc n) = ap (λ ks. a ∷ ks) (range_more (a + 1) n ∙ ap (λ k. range_with_len (a + 1) n ++ k ∷ []) (omega arith))

pub range_up : (i : ℕ) → 1 ≤ i → range_with_len 1 i ≡ range_with_len 1 (i - 1) ++ i ∷ []
range_up zero h = absurd (omega arith)
range_up (suc n) h = range_more 1 n ∙ ap (λ m. range_with_len 1 m ++ (1 + n) ∷ []) (omega arith) ∙ ap (λ k. range_with_len 1 (suc n - 1) ++ k ∷ []) (omega arith)

pub range_on : (i : ℕ) → range_with_len 0 (i + 1) ≡ range_with_len 0 i ++ i ∷ []
range_on i = ap (range_with_len 0) (let e : i + 1 ≡ suc i = omega arith in e) ∙ range_more 0 i ∙ ap (λ k. range_with_len 0 i ++ k ∷ []) (omega arith)

module _ {A : Type 0} where
  -- one piece of each number
  one_piece : (f : ℕ → List A) (xs : List ℕ) (k : ℕ) → flat_map f (xs ++ k ∷ []) ≡ flat_map f xs ++ f k
  one_piece f xs k = flat_map-append f xs (k ∷ []) ∙ ap (λ ys. flat_map f xs ++ ys) (append-nil (f k))

  pub piece_up : (f : ℕ → List A) (i : ℕ) → 1 ≤ i → flat_map f (range_with_len 1 i) ≡ flat_map f (range_with_len 1 (i - 1)) ++ f i
  piece_up f i h = ap (flat_map f) (range_up i h) ∙ one_piece f (range_with_len 1 (i - 1)) i

  -- as a loop goes on to the next number
  pub piece_next : (f : ℕ → List A) (i : ℕ) → 1 ≤ i → flat_map f (range_with_len 1 (i + 1 - 1)) ≡ flat_map f (range_with_len 1 (i - 1)) ++ f i
  piece_next f i h = let here : i + 1 - 1 ≡ i = omega arith in ap (λ n. flat_map f (range_with_len 1 n)) here ∙ piece_up f i h

  -- one element of each number
  pub map_up : (f : ℕ → A) (i : ℕ) → 1 ≤ i → map f (range_with_len 1 i) ≡ map f (range_with_len 1 (i - 1)) ++ f i ∷ []
  map_up f i h = ap (map f) (range_up i h) ∙ map-append f (range_with_len 1 (i - 1)) (i ∷ [])

  pub map_on : (f : ℕ → A) (i : ℕ) → map f (range_with_len 0 (i + 1)) ≡ map f (range_with_len 0 i) ++ f i ∷ []
  map_on f i = ap (map f) (range_on i) ∙ map-append f (range_with_len 0 i) (i ∷ [])

  -- the text of one element of each number, and of some
  one_text : (g : A → List ℕ) (xs : List A) (x : A) → flat_map g (xs ++ x ∷ []) ≡ flat_map g xs ++ g x
  one_text g xs x = flat_map-append g xs (x ∷ []) ∙ ap (λ ys. flat_map g xs ++ ys) (append-nil (g x))

  pub text_up : (g : A → List ℕ) (f : ℕ → A) (i : ℕ) → 1 ≤ i → flat_map g (map f (range_with_len 1 i)) ≡ flat_map g (map f (range_with_len 1 (i - 1))) ++ g (f i)
  text_up g f i h = ap (flat_map g) (map_up f i h) ∙ one_text g (map f (range_with_len 1 (i - 1))) (f i)

  pub text_on : (g : A → List ℕ) (f : ℕ → A) (i : ℕ) → flat_map g (map f (range_with_len 0 (i + 1))) ≡ flat_map g (map f (range_with_len 0 i)) ++ g (f i)
  text_on g f i = ap (flat_map g) (map_on f i) ∙ one_text g (map f (range_with_len 0 i)) (f i)

  pub texts_up : (g : A → List ℕ) (f : ℕ → List A) (i : ℕ) → 1 ≤ i → flat_map g (flat_map f (range_with_len 1 i)) ≡ flat_map g (flat_map f (range_with_len 1 (i - 1))) ++ flat_map g (f i)
  texts_up g f i h = ap (flat_map g) (piece_up f i h) ∙ flat_map-append g (flat_map f (range_with_len 1 (i - 1))) (f i)

  -- ---- downwards, from number n on
  -- the pieces from number n down to number i
  abbrev pub pieces_down : (ℕ → List A) → ℕ → ℕ → List A
  pieces_down f n i = flat_map f (reverse (range_with_len i (n + 1 - i)))

  down_to : (f : ℕ → List A) (i m : ℕ) → flat_map f (reverse (range_with_len i (suc m))) ≡ flat_map f (reverse (range_with_len (i + 1) m)) ++ f i
  down_to f i m = ap (flat_map f) (reverse_onto (range_with_len (i + 1) m) i []) ∙ one_piece f (reverse (range_with_len (i + 1) m)) i

  pub none_down : (f : ℕ → List A) (n i : ℕ) → i ≡ n + 1 → pieces_down f n i ≡ []
  none_down f n i e = let z : n + 1 - i ≡ 0 = omega arith in ap (λ m. flat_map f (reverse (range_with_len i m))) z

  pub piece_down : (f : ℕ → List A) (n i : ℕ) → 1 ≤ i → i ≤ n + 1 → pieces_down f n (i - 1) ≡ pieces_down f n i ++ f (i - 1)
  piece_down f n i h k =
      let m : n + 1 - (i - 1) ≡ suc (n + 1 - i) = omega arith in
      let s : i - 1 + 1 ≡ i = omega arith in
      ap (λ k. flat_map f (reverse (range_with_len (i - 1) k))) m
      ∙ down_to f (i - 1) (n + 1 - i)
      ∙ ap (λ j. flat_map f (reverse (range_with_len j (n + 1 - i))) ++ f (i - 1)) s

  pub all_down : (f : ℕ → List A) (n i : ℕ) → i ≡ 1 → pieces_down f n i ≡ flat_map f (reverse (range_with_len 1 n))
  all_down f n i e =
      let m : n + 1 - i ≡ n = omega arith in
      ap (λ k. flat_map f (reverse (range_with_len i k))) m ∙ ap (λ j. flat_map f (reverse (range_with_len j n))) e

-- a list with one element more, by its meaning
pub extended_one : {A : Type 0} (new old whole next : List A) (x y : A) → new ≡ old ++ x ∷ [] → x ≡ y → old ≡ whole → next ≡ whole ++ y ∷ [] → new ≡ next
extended_one new old whole next x y p q r s = cc
