-- Lemmas on the definitions of `Basics`: the list names the basic variables in ascending order, and there is one such list alone.
use Rattle.std.proofs.Common.{◌≡◌, ℕ, zero, suc, Bool, true, false, List, [], ◌∷◌, length, ◌+◌, ◌<◌, ◌≤◌, ◌⊎◌, inl, inr, refl, sym, ◌∙◌, ap, ap₂, subst, arith}
use Rattle.std.proofs.lemmas.Bool.{cond_both, true≢false}
use Rattle.simplex_theory.specs.Tableau.{Tableau, height, width, IsShaped}
use Rattle.simplex_theory.proofs.Tableau.{same_or_other}
use Rattle.simplex_theory.specs.DualSteps.{IsPlaced}
use Rattle.entry_theory.specs.Basics.{listed, basics_of}
use Rattle.entry_theory.specs.Entry.{variable_at, IsAmong, NamesBasics, is_among}
use Rattle.entry_theory.proofs.Rows.{among_true, among_found}

record IsListing (f : ℕ → Bool) (a n : ℕ) (xs : List ℕ) : Type 0 where
  low : (k : ℕ) → k < length xs → a ≤ variable_at xs k
  passes : (k : ℕ) → k < length xs → (variable_at xs k < a + n) × (f (variable_at xs k) ≡ true)
  ascending : (i k : ℕ) → i < k → k < length xs → variable_at xs i < variable_at xs k
  has : (v : ℕ) → a ≤ v → v < a + n → f v ≡ true → IsAmong xs v

after_head : (x v : ℕ) (xs : List ℕ) → IsAmong xs v → IsAmong (x ∷ xs) v
after_head x v xs a = record { at = suc a.at; within = let w = a.within in omega arith; holds = a.holds }

listing_more : (f : ℕ → Bool) (a n : ℕ) (xs : List ℕ) → f a ≡ true → IsListing f (suc a) n xs → IsListing f a (suc n) (a ∷ xs)
listing_more f a n xs e l = record { low = low; passes = passes; ascending = rises; has = λ v h m p. pick v h m p (same_or_other v a) }
  where
    low : (k : ℕ) → k < length (a ∷ xs) → a ≤ variable_at (a ∷ xs) k
    low zero h = omega arith
    low (suc k) h = let b = l.low k (omega arith) in omega arith

    passes : (k : ℕ) → k < length (a ∷ xs) → (variable_at (a ∷ xs) k < a + suc n) × (f (variable_at (a ∷ xs) k) ≡ true)
    passes zero h = (omega arith, e)
    passes (suc k) h = let b = l.passes k (omega arith) in let c = b.0 in (omega arith, b.1)

    rises : (i k : ℕ) → i < k → k < length (a ∷ xs) → variable_at (a ∷ xs) i < variable_at (a ∷ xs) k
    rises i zero h m = absurd (omega arith)
    rises zero (suc k) h m = let b = l.low k (omega arith) in omega arith
    rises (suc i) (suc k) h m = l.ascending i k (omega arith) (omega arith)

    pick : (v : ℕ) → a ≤ v → v < a + suc n → f v ≡ true → (v ≡ a) ⊎ (v ≡ a → ⊥) → IsAmong (a ∷ xs) v
    pick v h m p (inl q) = record { at = 0; within = omega arith; holds = sym q }
    pick v h m p (inr q) = after_head a v xs (l.has v (grind arith) (omega arith) p)

listing_skip : (f : ℕ → Bool) (a n : ℕ) (xs : List ℕ) → f a ≡ false → IsListing f (suc a) n xs → IsListing f a (suc n) xs
listing_skip f a n xs e l = record {
  low = λ k h. let b = l.low k h in omega arith;
  passes = λ k h. let b = l.passes k h in let c = b.0 in (omega arith, b.1);
  ascending = l.ascending;
  has = λ v h m p. pick v h m p (same_or_other v a);
}
  where
    pick : (v : ℕ) → a ≤ v → v < a + suc n → f v ≡ true → (v ≡ a) ⊎ (v ≡ a → ⊥) → IsAmong xs v
    pick v h m p (inl q) = absurd (true≢false (sym p ∙ ap f q ∙ e))
    pick v h m p (inr q) = l.has v (grind arith) (omega arith) p

listing : (f : ℕ → Bool) (a n : ℕ) → IsListing f a n (listed f a n)
unfolding listed
listing f a zero = record { low = λ k h. absurd (omega arith); passes = λ k h. absurd (omega arith); ascending = λ i k h m. absurd (omega arith); has = λ v h m p. absurd (omega arith) }
listing f a (suc n) =
    let l = listing f (suc a) n in
    cond_both (f a) (a ∷ listed f (suc a) n) (listed f (suc a) n) (IsListing f a (suc n)) (λ e. listing_more f a n (listed f (suc a) n) e l) (λ e. listing_skip f a n (listed f (suc a) n) e l)

pub names_basics_of : (t : Tableau) → IsShaped t → IsPlaced t → NamesBasics (basics_of t) t
unfolding basics_of
names_basics_of t s p =
    let l = listing (is_among t.basic) 0 (height t + width t) in
    record {
      ascending = l.ascending;
      basics = λ v. (
        λ a. let b = among_found t.basic v (subst (λ u. is_among t.basic u ≡ true) a.holds (l.passes a.at a.within).1) in
            record { row = b.at; within = subst (λ m. b.at < m) s.basics b.within; is = b.holds },
        λ b. let e = p.low_rows b.row b.within in let q = b.is in l.has v (omega arith) (omega arith) (among_true t.basic v (record { at = b.row; within = rw s.basics b.within; holds = b.is })),
      );
    }

-- ---- there is one such list alone
abbrev Rises : List ℕ → Type 0
Rises vs = (i k : ℕ) → i < k → k < length vs → variable_at vs i < variable_at vs k

-- the head is the least
head_least : (v x : ℕ) (vs : List ℕ) → Rises (v ∷ vs) → IsAmong (v ∷ vs) x → v ≤ x
head_least v x vs r a = pick a.at a.within a.holds
  where
    pick : (k : ℕ) → k < length (v ∷ vs) → variable_at (v ∷ vs) k ≡ x → v ≤ x
    pick zero h e = omega arith
    pick (suc k) h e = let b = r 0 (suc k) (omega arith) h in omega arith

-- what is in the tail is above the head, so it is in the other tail
in_tail : (v w x : ℕ) (vs ws : List ℕ) → v ≡ w → Rises (v ∷ vs) → ((y : ℕ) → IsAmong (v ∷ vs) y → IsAmong (w ∷ ws) y) → IsAmong vs x → IsAmong ws x
in_tail v w x vs ws e r f a = pick c.at c.within c.holds
  where
    c : IsAmong (w ∷ ws) x
    c = f x (after_head v x vs a)

    above : v < x
    above = let h = a.within in let q = a.holds in let b = r 0 (suc a.at) (omega arith) (omega arith) in omega arith

    pick : (k : ℕ) → k < length (w ∷ ws) → variable_at (w ∷ ws) k ≡ x → IsAmong ws x
    pick zero h q = absurd (let b = above in omega arith)
    pick (suc k) h q = record { at = k; within = omega arith; holds = q }

same_lists : (vs ws : List ℕ) → Rises vs → Rises ws → ((v : ℕ) → IsAmong vs v → IsAmong ws v) → ((v : ℕ) → IsAmong ws v → IsAmong vs v) → vs ≡ ws
same_lists [] [] r s f g = refl
same_lists [] (w ∷ ws) r s f g = absurd (let a = (g w (record { at = 0; within = omega arith; holds = refl })).within in omega arith)
same_lists (v ∷ vs) [] r s f g = absurd (let a = (f v (record { at = 0; within = omega arith; holds = refl })).within in omega arith)
same_lists (v ∷ vs) (w ∷ ws) r s f g =
    let a = head_least w v ws s (f v (record { at = 0; within = omega arith; holds = refl })) in
    let b = head_least v w vs r (g w (record { at = 0; within = omega arith; holds = refl })) in
    let e : v ≡ w = omega arith in
    ap₂ (λ x xs. x ∷ xs) e
    (same_lists vs ws (λ i k h m. r (suc i) (suc k) (omega arith) (omega arith)) (λ i k h m. s (suc i) (suc k) (omega arith) (omega arith))
    (λ x. in_tail v w x vs ws e r f) (λ x. in_tail w v x ws vs (sym e) s g))

pub names_only : (vs ws : List ℕ) (t : Tableau) → NamesBasics vs t → NamesBasics ws t → vs ≡ ws
names_only vs ws t a b = same_lists vs ws a.ascending b.ascending (λ v h. (b.basics v).1 ((a.basics v).0 h)) (λ v h. (a.basics v).1 ((b.basics v).0 h))
