-- Lemmas on the definitions of `Matchings`.
use Rattle.std.proofs.Common.{◌≡◌, ℕ, zero, suc, ◌+◌, inl, inr, List, [], ◌∷◌, ◌++◌, Option, Some, refl, sym, subst, ap, ◌∙◌, take, length, arith}
use Rattle.std.specs.List.{slice_get}
use Rattle.search_box.specs.declared.span.At.{At}
use Rattle.branch_and_bound.specs.Lines.{BoxLine, owed, Fills, Finds, total, line_after}
use Rattle.branch_and_bound.specs.Matchings.{Matches}

-- one more of each
pub Matches-more : {N M : Type 0} (R : ℕ → N → M → Type 0) (i : ℕ) (nodes : List N) (others : List M) (node : N) (other : M)
    → Matches R i nodes others → R (i + length nodes) node other → Matches R i (nodes ++ node ∷ []) (others ++ other ∷ [])
Matches-more R i [] [] node other h k = let e : i + 0 ≡ i = omega arith in (subst (λ j. R j node other) e k, tt)
Matches-more R i [] (o ∷ others) node other h k = absurd h
Matches-more R i (n ∷ nodes) [] node other h k = absurd h
Matches-more R i (n ∷ nodes) (o ∷ others) node other h k =
    let e : i + suc (length nodes) ≡ suc i + length nodes = omega arith in
    (h.0, Matches-more R (suc i) nodes others node other h.1 (subst (λ j. R j node other) e k))

-- the node that corresponds to one at an index
pub record HasMatch {N M : Type 0} (R : ℕ → N → M → Type 0) (i : ℕ) (nodes : List N) (index : ℕ) (other : M) : Type 0 where
  pub node : N
  pub at : slice_get nodes index ≡ Some node
  pub is : R (i + index) node other

pub Matches-at : {N M : Type 0} (R : ℕ → N → M → Type 0) (i : ℕ) (nodes : List N) (others : List M) (index : ℕ) (other : M)
    → Matches R i nodes others → slice_get others index ≡ Some other → HasMatch R i nodes index other
Matches-at R i [] [] index other h e = cc
Matches-at R i [] (o ∷ others) index other h e = absurd h
Matches-at R i (n ∷ nodes) [] index other h e = absurd h
Matches-at R i (n ∷ nodes) (o ∷ others) zero other h e =
    let q : o ≡ other = cc in
    let j : i ≡ i + 0 = omega arith in
    record { node = n; at = refl; is = subst (λ k. R k n other) j (subst (λ x. R i n x) q h.0) }
Matches-at R i (n ∷ nodes) (o ∷ others) (suc index) other h e =
    let m = Matches-at R (suc i) nodes others index other h.1 e in
    let j : suc i + index ≡ i + suc index = omega arith in
    record { node = m.node; at = m.at; is = subst (λ k. R k m.node other) j m.is }

-- and back
Matches-flip : {N M : Type 0} (R : ℕ → N → M → Type 0) (i : ℕ) (nodes : List N) (others : List M) → Matches R i nodes others → Matches (λ j other node. R j node other) i others nodes
Matches-flip R i [] [] h = tt
Matches-flip R i [] (o ∷ others) h = absurd h
Matches-flip R i (n ∷ nodes) [] h = absurd h
Matches-flip R i (n ∷ nodes) (o ∷ others) h = (h.0, Matches-flip R (suc i) nodes others h.1)

abbrev pub HasOther : {N M : Type 0} → (ℕ → N → M → Type 0) → ℕ → List M → ℕ → N → Type 0
HasOther R = HasMatch (λ j other node. R j node other)

pub Matches-back : {N M : Type 0} (R : ℕ → N → M → Type 0) (i : ℕ) (nodes : List N) (others : List M) (index : ℕ) (node : N)
    → Matches R i nodes others → slice_get nodes index ≡ Some node → HasOther R i others index node
Matches-back R i nodes others index node h e = Matches-at (λ j other this. R j this other) i others nodes index node (Matches-flip R i nodes others h) e

module _ {N M : Type 0} (cut : N → Option At) (cut_other : M → Option At) (R : ℕ → N → M → Type 0) (same : (i : ℕ) (node : N) (other : M) → R i node other → cut_other other ≡ cut node) where
  -- what the nodes tell of their lines, the others tell too
  pub Fills-match : (P : BoxLine → N → Type 0) (Q : BoxLine → M → Type 0) → ((i : ℕ) (line : BoxLine) (node : N) (other : M) → R i node other → P line node → Q line other)
      → (i : ℕ) (lines : List BoxLine) (nodes : List N) (others : List M) → Matches R i nodes others → Fills cut P lines nodes → Fills cut_other Q lines others
  Fills-match P Q f i lines [] [] m h = h
  Fills-match P Q f i lines [] (o ∷ others) m h = absurd m
  Fills-match P Q f i lines (n ∷ nodes) [] m h = absurd m
  Fills-match P Q f i [] (n ∷ nodes) (o ∷ others) m h = absurd h
  Fills-match P Q f i (line ∷ lines) (n ∷ nodes) (o ∷ others) m h =
      (f i line n o m.0 h.0, subst (λ c. Fills cut_other Q (owed c line lines) others) (sym (same i n o m.0)) (Fills-match P Q f (suc i) (owed (cut n) line lines) nodes others m.1 h.1))

  pub Finds-match : (P : BoxLine → N → Type 0) (Q : BoxLine → M → Type 0) → ((i : ℕ) (line : BoxLine) (node : N) (other : M) → R i node other → P line node → Q line other)
      → (i : ℕ) (lines : List BoxLine) (nodes : List N) (others : List M) → Matches R i nodes others → Finds cut P lines nodes → Finds cut_other Q lines others
  Finds-match P Q f i lines [] [] m h = h
  Finds-match P Q f i lines [] (o ∷ others) m h = absurd m
  Finds-match P Q f i lines (n ∷ nodes) [] m h = absurd m
  Finds-match P Q f i [] (n ∷ nodes) (o ∷ others) m h = absurd h
  Finds-match P Q f i (line ∷ lines) (n ∷ nodes) (o ∷ others) m (inl h) = inl (f i line n o m.0 h)
  Finds-match P Q f i (line ∷ lines) (n ∷ nodes) (o ∷ others) m (inr h) =
      inr (subst (λ c. Finds cut_other Q (owed c line lines) others) (sym (same i n o m.0)) (Finds-match P Q f (suc i) (owed (cut n) line lines) nodes others m.1 h))

  -- both cost the same
  pub total-match : (cost : BoxLine → ℕ) (i : ℕ) (lines : List BoxLine) (nodes : List N) (others : List M) → Matches R i nodes others
      → total cut cost lines nodes ≡ total cut_other cost lines others
  total-match cost i lines [] [] m = refl
  total-match cost i lines [] (o ∷ others) m = absurd m
  total-match cost i lines (n ∷ nodes) [] m = absurd m
  total-match cost i [] (n ∷ nodes) (o ∷ others) m = refl
  total-match cost i (line ∷ lines) (n ∷ nodes) (o ∷ others) m =
      let e = total-match cost (suc i) (owed (cut n) line lines) nodes others m.1 in
      let f = ap (λ c. total cut_other cost (owed c line lines) others) (same i n o m.0) in
      omega (arith, e, f)

  -- nodes at the same index have the same line
  pub line_after-match : (i : ℕ) (index : ℕ) (lines : List BoxLine) (nodes : List N) (others : List M) → Matches R i nodes others
      → line_after cut lines (take index nodes) ≡ line_after cut_other lines (take index others)
  line_after-match i zero [] nodes others m = refl
  line_after-match i zero (line ∷ lines) nodes others m = refl
  line_after-match i (suc index) [] nodes others m = refl
  line_after-match i (suc index) (line ∷ lines) [] [] m = refl
  line_after-match i (suc index) (line ∷ lines) [] (o ∷ others) m = absurd m
  line_after-match i (suc index) (line ∷ lines) (n ∷ nodes) [] m = absurd m
  line_after-match i (suc index) (line ∷ lines) (n ∷ nodes) (o ∷ others) m =
      line_after-match (suc i) index (owed (cut n) line lines) nodes others m.1
      ∙ ap (λ c. line_after cut_other (owed c line lines) (take index others)) (sym (same i n o m.0))
