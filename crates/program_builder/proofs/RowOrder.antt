-- Lemmas on the definitions of `RowOrder`.
use Rattle.std.proofs.Common.{◌≡◌, ◌↔◌, ℕ, zero, suc, List, [], ◌∷◌, ◌++◌, length, Bool, true, false, Option, None, Some, ◌+◌, ◌-◌, ◌<◌, ◌≤◌, ◌⊎◌}
use Rattle.std.proofs.Common.{inl, inr, refl, sym, ◌∙◌, ap, subst, arith, length-append, if◌then◌else◌}
use Rattle.std.proofs.lemmas.List.{get_or_append_left, get_or-append_right}
use Rattle.progression.specs.Street.{Street, count}
use Rattle.linear_theory.specs.Names.{HasRow, name_of, last_family}
use Rattle.loop_rows.proofs.RowTests.{row_decided}
use Rattle.loop_rows.specs.Following.{IsAfter, IsNextRow}
use Rattle.named_row.specs.Order.{IsBelow}
use Rattle.named_row.specs.declared.names.RowId.{RowId}
use Rattle.fraction_tableau.specs.NamedTableaus.{unnamed, name_in}
use Rattle.program_builder.specs.BoxRows.{if_there, names_below, names_through, is_there, rows_of, name_before, IsAmong}
use Rattle.linear_theory.proofs.Families.{index_most, family_least, family_most}
use Rattle.program_builder.specs.RowOrder.{IsAscending, StandsAt, IsRowAt, IsNextIn}

-- what is true of each name of a list
abbrev Each : (RowId → Type 0) → List RowId → Type 0
Each P rows = (k : ℕ) → k < length rows → P (name_in rows k)

below_or_not : (k n : ℕ) → (k < n) ⊎ (n ≤ k)
below_or_not k n = grind arith

each_append : (P : RowId → Type 0) (xs ys : List RowId) → Each P xs → Each P ys → Each P (xs ++ ys)
each_append P xs ys f g k h = pick (below_or_not k (length xs))
  where
    pick : (k < length xs) ⊎ (length xs ≤ k) → P (name_in (xs ++ ys) k)
    pick (inl l) = subst P (sym (get_or_append_left xs ys unnamed k l)) (f k l)
    pick (inr l) = subst P (sym (get_or-append_right xs ys (length xs) k unnamed refl l)) (g (k - length xs) (let e = length-append xs ys in omega arith))

ascending_append : (xs ys : List RowId) → IsAscending xs → IsAscending ys → ((i k : ℕ) → i < length xs → k < length ys → IsBelow (name_in xs i) (name_in ys k)) → IsAscending (xs ++ ys)
ascending_append xs ys f g b = record { ascending = λ i k h l. let e = length-append xs ys in pick i k h (omega arith) (below_or_not i (length xs)) (below_or_not k (length xs)) }
  where
    low : (i : ℕ) → i < length xs → name_in (xs ++ ys) i ≡ name_in xs i
    low i l = get_or_append_left xs ys unnamed i l

    high : (i : ℕ) → length xs ≤ i → name_in (xs ++ ys) i ≡ name_in ys (i - length xs)
    high i l = get_or-append_right xs ys (length xs) i unnamed refl l

    pick : (i k : ℕ) → i < k → k < length xs + length ys → (i < length xs) ⊎ (length xs ≤ i) → (k < length xs) ⊎ (length xs ≤ k) → IsBelow (name_in (xs ++ ys) i) (name_in (xs ++ ys) k)
    pick i k h n (inl l) (inl m) = rw (low i l, low k m) (f.ascending i k h m)
    pick i k h n (inl l) (inr m) = rw (low i l, high k m) (b i (k - length xs) l (omega arith))
    pick i k h n (inr l) (inl m) = absurd (omega arith)
    pick i k h n (inr l) (inr m) = rw (high i l, high k m) (g.ascending (i - length xs) (k - length xs) (omega arith) (omega arith))

-- ---- one name
-- a name of this family with an index in a range, of a row that is there
record IsOf (has : RowId → Bool) (f from to : ℕ) (r : RowId) : Type 0 where
  family : r.family ≡ f
  least : from ≤ r.index
  most : r.index < to
  there : has r ≡ true

there_of : (has : RowId → Bool) (f n : ℕ) → Each (IsOf has f n (suc n)) (if_there has f n)
there_of has f n = pick (has (record { family = f; index = n })) refl
  where
    pick : (b : Bool) → has (record { family = f; index = n }) ≡ b → Each (IsOf has f n (suc n)) (if b then record { family = f; index = n } ∷ [] else [])
    pick true e zero h = record { family = refl; least = omega arith; most = omega arith; there = e }
    pick true e (suc k) h = absurd (omega arith)
    pick false e k h = absurd (omega arith)

there_ascending : (has : RowId → Bool) (f n : ℕ) → IsAscending (if_there has f n)
there_ascending has f n = pick (has (record { family = f; index = n }))
  where
    pick : (b : Bool) → IsAscending (if b then record { family = f; index = n } ∷ [] else [])
    pick true = record { ascending = λ i k h l. absurd (omega arith) }
    pick false = record { ascending = λ i k h l. absurd (omega arith) }

among_there : (has : RowId → Bool) (f n : ℕ) → has (record { family = f; index = n }) ≡ true → IsAmong (if_there has f n) (record { family = f; index = n })
among_there has f n h = rw h (record { place = 0; within = omega arith; is = refl })

-- ---- a family
among_left : (xs ys : List RowId) (r : RowId) → IsAmong xs r → IsAmong (xs ++ ys) r
among_left xs ys r m = record { place = m.place; within = let e = length-append xs ys in let l = m.within in omega arith; is = get_or_append_left xs ys unnamed m.place m.within ∙ m.is }

among_right : (xs ys : List RowId) (r : RowId) → IsAmong ys r → IsAmong (xs ++ ys) r
among_right xs ys r m = record {
  place = length xs + m.place;
  within = let e = length-append xs ys in let l = m.within in omega arith;
  is = get_or-append_right xs ys (length xs) (length xs + m.place) unnamed refl (omega arith) ∙ ap (name_in ys) (omega arith) ∙ m.is;
}

below_of : (has : RowId → Bool) (f n : ℕ) → Each (IsOf has f 0 n) (names_below has f n)
unfolding names_below
below_of has f zero = λ k h. absurd (omega arith)
below_of has f (suc n) = each_append (IsOf has f 0 (suc n)) (names_below has f n) (if_there has f n)
    (λ k h. let p = below_of has f n k h in record { family = p.family; least = omega arith; most = let l = p.most in omega arith; there = p.there })
    (λ k h. let p = there_of has f n k h in record { family = p.family; least = omega arith; most = p.most; there = p.there })

below_ascending : (has : RowId → Bool) (f n : ℕ) → IsAscending (names_below has f n)
unfolding names_below
below_ascending has f zero = record { ascending = λ i k h l. absurd (omega arith) }
below_ascending has f (suc n) = ascending_append (names_below has f n) (if_there has f n) (below_ascending has f n) (there_ascending has f n)
    (λ i k h l. let p = below_of has f n i h in let q = there_of has f n k l in inr (p.family ∙ sym q.family, let m = p.most in let w = q.least in omega arith))

among_below : (has : RowId → Bool) (f i n : ℕ) → has (record { family = f; index = i }) ≡ true → i < n → IsAmong (names_below has f n) (record { family = f; index = i })
unfolding names_below
among_below has f i zero h l = absurd (omega arith)
among_below has f i (suc n) h l = pick (below_or_not i n) (λ m. among_below has f i n h m)
  where
    pick : (i < n) ⊎ (n ≤ i) → (i < n → IsAmong (names_below has f n) (record { family = f; index = i })) → IsAmong (names_below has f n ++ if_there has f n) (record { family = f; index = i })
    pick (inl m) g = among_left (names_below has f n) (if_there has f n) _ (g m)
    pick (inr m) g = let e : i ≡ n = omega arith in among_right (names_below has f n) (if_there has f n) _ (rw e (among_there has f n (rw (← e) h)))

-- ---- all families
-- a name of a family up to this one, of a row that is there
record IsThrough (has : RowId → Bool) (f : ℕ) (r : RowId) : Type 0 where
  most : r.family ≤ f
  there : has r ≡ true

through_of : (has : RowId → Bool) (m f : ℕ) → Each (IsThrough has f) (names_through has m f)
unfolding names_through
through_of has m zero = λ k h. absurd (omega arith)
through_of has m (suc f) = each_append (IsThrough has (suc f)) (names_through has m f) (names_below has (suc f) m)
    (λ k h. let p = through_of has m f k h in record { most = let l = p.most in omega arith; there = p.there })
    (λ k h. let p = below_of has (suc f) m k h in record { most = let e = p.family in omega arith; there = p.there })

pub names_ascending : (has : RowId → Bool) (m f : ℕ) → IsAscending (names_through has m f)
unfolding names_through
names_ascending has m zero = record { ascending = λ i k h l. absurd (omega arith) }
names_ascending has m (suc f) = ascending_append (names_through has m f) (names_below has (suc f) m) (names_ascending has m f) (below_ascending has (suc f) m)
    (λ i k h l. let p = through_of has m f i h in let q = below_of has (suc f) m k l in inl (let m = p.most in let e = q.family in omega arith))

among_through : (has : RowId → Bool) (m g i f : ℕ) → has (record { family = g; index = i }) ≡ true → i < m → 1 ≤ g → g ≤ f → IsAmong (names_through has m f) (record { family = g; index = i })
unfolding names_through
among_through has m g i zero h b l n = absurd (omega arith)
among_through has m g i (suc f) h b l n = pick (below_or_not g (suc f)) (λ k. among_through has m g i f h b l k)
  where
    pick : (g < suc f) ⊎ (suc f ≤ g) → (g ≤ f → IsAmong (names_through has m f) (record { family = g; index = i }))
        → IsAmong (names_through has m f ++ names_below has (suc f) m) (record { family = g; index = i })
    pick (inl p) k = among_left (names_through has m f) (names_below has (suc f) m) _ (k (omega arith))
    pick (inr p) k =
        let e : g ≡ suc f = omega arith in
        among_right (names_through has m f) (names_below has (suc f) m) _
        (rw e (among_below has (suc f) i m (rw (← e) h) b))

-- ---- the laws of such a list
-- each of its rows is there, and each row that is there and of these families and indices is in it
pub names_there : (has : RowId → Bool) (m f k : ℕ) → k < length (names_through has m f) → has (name_in (names_through has m f) k) ≡ true
names_there has m f k h = (through_of has m f k h).there

pub among_names : (has : RowId → Bool) (m f : ℕ) (r : RowId) → has r ≡ true → r.index < m → 1 ≤ r.family → r.family ≤ f → IsAmong (names_through has m f) r
among_names has m f r h b l n = among_through has m r.family r.index f h b l n

-- ---- from each name to the next, in any ascending list
not_below_itself : (r : RowId) → IsBelow r r → ⊥
not_below_itself r (inl h) = absurd (omega arith)
not_below_itself r (inr h) = absurd (let l = h.1 in omega arith)

not_both_below : (r s : RowId) → IsBelow r s → IsBelow s r → ⊥
not_both_below r s (inl h) (inl k) = absurd (omega arith)
not_both_below r s (inl h) (inr k) = absurd (let e = k.0 in omega arith)
not_both_below r s (inr h) (inl k) = absurd (let e = h.0 in omega arith)
not_both_below r s (inr h) (inr k) = absurd (let l = h.1 in let m = k.1 in omega arith)

module _ (rows : List RowId) (o : IsAscending rows) where
  -- what comes after the name before place k stands at k or later
  after_place : (k i : ℕ) → i < length rows → k ≤ length rows → IsAfter (name_before rows k) (name_in rows i) → k ≤ i
  after_place zero i h l f = omega arith
  after_place (suc k) i h l f = pick (below_or_not i (suc k)) (below_or_not i k)
    where
      pick : (i < suc k) ⊎ (suc k ≤ i) → (i < k) ⊎ (k ≤ i) → suc k ≤ i
      pick (inr m) n = m
      pick (inl m) (inl n) = absurd (not_both_below _ _ (o.ascending i k n (omega arith)) f)
      pick (inl m) (inr n) = let e : i ≡ k = omega arith in absurd (not_below_itself (name_in rows k) (rw e at f))

  -- and what stands there comes after it
  place_after : (k : ℕ) → k < length rows → IsAfter (name_before rows k) (name_in rows k)
  place_after zero h = tt
  place_after (suc k) h = o.ascending k (suc k) (omega arith) h

  -- the next name after the one before place k is the one at k
  pub next_in_at : (k : ℕ) (r : RowId) → k ≤ length rows → IsNextIn rows (name_before rows k) (Some r) → StandsAt rows k r
  next_in_at k r l f = pick (below_or_not k i) (after_place k i m.within l (subst (λ s. IsAfter (name_before rows k) s) (sym m.is) f.above))
    where
      m : IsAmong rows r
      m = f.there

      i : ℕ
      i = m.place

      pick : (k < i) ⊎ (i ≤ k) → k ≤ i → StandsAt rows k r
      pick (inl h) n =
          let w = m.within in
          absurd (f.first (name_in rows k) (record { place = k; within = omega arith; is = refl }) (place_after k (omega arith))
          (subst (λ s. IsBelow (name_in rows k) s) m.is (o.ascending k i h m.within)))
      pick (inr h) n = let e : i ≡ k = omega arith in record { within = rw (← e) m.within; is = sym m.is ∙ ap (name_in rows) e }

  -- and there is none after the last
  pub next_in_none : (k : ℕ) → k ≤ length rows → IsNextIn rows (name_before rows k) None → k ≡ length rows
  next_in_none k l f = pick (below_or_not k (length rows))
    where
      pick : (k < length rows) ⊎ (length rows ≤ k) → k ≡ length rows
      pick (inl h) = absurd (f (name_in rows k) (record { place = k; within = h; is = refl }) (place_after k h))
      pick (inr h) = omega arith

-- ---- an artery's
pub rows_ascending : (a : Street) → IsAscending (rows_of a)
unfolding rows_of
rows_ascending a = names_ascending (is_there a) (suc (count a)) last_family

-- a row is in the list exactly where the artery has it
pub rows_there : (a : Street) (k : ℕ) → k < length (rows_of a) → HasRow a (name_of (name_in (rows_of a) k).family (name_in (rows_of a) k).index)
unfolding rows_of
rows_there a k h = (row_decided a _).0 (names_there (is_there a) (suc (count a)) last_family k h)

pub among_rows : (a : Street) (r : RowId) → HasRow a (name_of r.family r.index) → IsAmong (rows_of a) r
unfolding rows_of
among_rows a r h =
    let b = index_most a r.family r.index h in
    among_names (is_there a) (suc (count a)) last_family r ((row_decided a (name_of r.family r.index)).1 h) (omega arith) (family_least a r.family r.index h) (family_most a r.family r.index h)

pub among_there_is : (a : Street) (r : RowId) → IsAmong (rows_of a) r ↔ HasRow a (name_of r.family r.index)
among_there_is a r = (λ m. subst (λ s. HasRow a (name_of s.family s.index)) m.is (rows_there a m.place m.within), λ h. among_rows a r h)

-- the artery's next row is the list's next name
pub next_in_rows : (a : Street) (after o : Option RowId) → IsNextRow a after o → IsNextIn (rows_of a) after o
next_in_rows a after (Some r) f = record {
  there = among_rows a r f.there;
  above = f.above;
  first = λ s m. f.first s ((among_there_is a s).0 m);
}
next_in_rows a after None f = λ s m. f s ((among_there_is a s).0 m)

pub next_at : (a : Street) (k : ℕ) (r : RowId) → k ≤ length (rows_of a) → IsNextRow a (name_before (rows_of a) k) (Some r) → IsRowAt a k r
next_at a k r l f = next_in_at (rows_of a) (rows_ascending a) k r l (next_in_rows a _ (Some r) f)

pub next_none : (a : Street) (k : ℕ) → k ≤ length (rows_of a) → IsNextRow a (name_before (rows_of a) k) None → k ≡ length (rows_of a)
next_none a k l f = next_in_none (rows_of a) (rows_ascending a) k l (next_in_rows a _ None f)
