-- Where the rows of a family stand whose indices are those from 1 on: behind all rows of the families before it. So an artery's rows of the outbound waits stand at
-- the places from 0 on, one for each signal, and those of the inbound waits behind them.
use Rattle.std.proofs.Common.{◌≡◌, ◌↔◌, ℕ, zero, suc, List, [], ◌∷◌, ◌++◌, length, Bool, true, false, ◌+◌, ◌-◌, ◌<◌, ◌≤◌, ◌⊎◌, inl, inr, refl, sym, ◌∙◌, ap, ap₂, subst, arith, length-append}
use Rattle.std.proofs.lemmas.List.{get_or_append_left, get_or-append_right, get_or_push, append-nil}
use Rattle.progression.specs.Street.{Street, count}
use Rattle.linear_theory.specs.Names.{name_of, last_family}
use Rattle.loop_rows.proofs.RowTests.{row_decided}
use Rattle.named_row.specs.declared.names.RowId.{RowId}
use Rattle.fraction_tableau.specs.NamedTableaus.{unnamed, name_in}
use Rattle.program_builder.specs.BoxRows.{if_there, names_below, names_through, is_there, rows_of}

-- the names with the indices from 1 to n
abbrev pub indices_to : ℕ → ℕ → List RowId
indices_to f zero = []
indices_to f (suc n) = indices_to f n ++ record { family = f; index = suc n } ∷ []

pub length-indices_to : (f n : ℕ) → length (indices_to f n) ≡ n
length-indices_to f zero = refl
length-indices_to f (suc n) = length-append (indices_to f n) (record { family = f; index = suc n } ∷ []) ∙ (let e = length-indices_to f n in omega arith)

pub at-indices_to : (f n k : ℕ) → k < n → name_in (indices_to f n) k ≡ record { family = f; index = suc k }
at-indices_to f zero k h = absurd (omega arith)
at-indices_to f (suc n) k h = pick (cases k n h) (λ l. at-indices_to f n k l)
  where
    cases : (k n : ℕ) → k < suc n → (k < n) ⊎ (k ≡ n)
    cases k n h = grind arith

    pick : (k < n) ⊎ (k ≡ n) → (k < n → name_in (indices_to f n) k ≡ record { family = f; index = suc k })
        → name_in (indices_to f n ++ record { family = f; index = suc n } ∷ []) k ≡ record { family = f; index = suc k }
    pick (inl l) g = get_or_append_left (indices_to f n) (record { family = f; index = suc n } ∷ []) unnamed k (let e = length-indices_to f n in omega arith) ∙ g l
    pick (inr l) g = get_or_push (indices_to f n) (record { family = f; index = suc n }) unnamed k (let e = length-indices_to f n in omega arith)
        ∙ ap (λ i. record { family = f; index = suc i }) (sym l)

-- a family whose rows have the indices from 1 to n
pub record HasUpTo (has : RowId → Bool) (f n : ℕ) : Type 0 where
  pub there : (i : ℕ) → 1 ≤ i → i ≤ n → has (record { family = f; index = i }) ≡ true
  pub none : has (record { family = f; index = 0 }) ≡ false
  pub past : (i : ℕ) → n < i → has (record { family = f; index = i }) ≡ false

module _ (has : RowId → Bool) where
  -- where a test says so
  pub up_to_from : (f n : ℕ) → ((i : ℕ) → (has (record { family = f; index = i }) ≡ true) ↔ ((1 ≤ i) × (i ≤ n))) → HasUpTo has f n
  up_to_from f n d = record {
    there = λ i h l. (d i).1 (h, l);
    none = not_there 0 (λ h. absurd (let l = h.0 in omega arith));
    past = λ i l. not_there i (λ h. absurd (let k = h.1 in omega arith));
  }
    where
      not_there : (i : ℕ) → ((1 ≤ i) × (i ≤ n) → ⊥) → has (record { family = f; index = i }) ≡ false
      not_there i h = pick (has (record { family = f; index = i })) refl
        where
          pick : (b : Bool) → has (record { family = f; index = i }) ≡ b → b ≡ false
          pick true e = absurd (h ((d i).0 e))
          pick false e = refl

  one_there : (f i : ℕ) → has (record { family = f; index = i }) ≡ true → if_there has f i ≡ record { family = f; index = i } ∷ []
  one_there f i h = rw h refl

  none_there : (f i : ℕ) → has (record { family = f; index = i }) ≡ false → if_there has f i ≡ []
  none_there f i h = rw h refl

  below_within : (f m n : ℕ) → HasUpTo has f m → n ≤ m → names_below has f (suc n) ≡ indices_to f n
  unfolding names_below
  below_within f m zero h l = none_there f 0 h.none
  below_within f m (suc n) h l = ap₂ (λ xs ys. xs ++ ys) (below_within f m n h (omega arith)) (one_there f (suc n) (h.there (suc n) (omega arith) l))

  below_past : (f m k : ℕ) → HasUpTo has f m → names_below has f (suc (m + k)) ≡ indices_to f m
  unfolding names_below
  below_past f m zero h = let e : m + 0 ≡ m = omega arith in ap (λ n. names_below has f (suc n)) e ∙ below_within f m m h (omega arith)
  below_past f m (suc k) h =
      let e : m + suc k ≡ suc (m + k) = omega arith in
      ap (λ n. names_below has f (suc n)) e ∙ ap₂ (λ xs ys. xs ++ ys) (below_past f m k h) (none_there f (suc (m + k)) (h.past (suc (m + k)) (omega arith))) ∙ append-nil (indices_to f m)

  -- all of its names
  pub below_all : (f m n : ℕ) → HasUpTo has f m → m ≤ n → names_below has f (suc n) ≡ indices_to f m
  below_all f m n h l = let e : n ≡ m + (n - m) = omega arith in ap (λ k. names_below has f (suc k)) e ∙ below_past f m (n - m) h

  -- the names of the first families stand first
  pub stays_first : (m f g k : ℕ) → f ≤ g → k < length (names_through has m f) → (k < length (names_through has m g)) × (name_in (names_through has m g) k ≡ name_in (names_through has m f) k)
  unfolding names_through
  stays_first m f zero k h l = let e : f ≡ 0 = omega arith in (subst (λ n. k < length (names_through has m n)) e l, ap (λ n. name_in (names_through has m n) k) (sym e))
  stays_first m f (suc g) k h l = pick (cases f g h) (λ q. stays_first m f g k q l)
    where
      cases : (f g : ℕ) → f ≤ suc g → (f ≤ g) ⊎ (f ≡ suc g)
      cases f g h = grind arith

      pick : (f ≤ g) ⊎ (f ≡ suc g) → (f ≤ g → (k < length (names_through has m g)) × (name_in (names_through has m g) k ≡ name_in (names_through has m f) k))
          → (k < length (names_through has m (suc g))) × (name_in (names_through has m (suc g)) k ≡ name_in (names_through has m f) k)
      pick (inl q) s =
          let p = s q in
          let b = p.0 in
          (let e = length-append (names_through has m g) (names_below has (suc g) m) in omega arith, get_or_append_left (names_through has m g) (names_below has (suc g) m) unnamed k b ∙ p.1)
      pick (inr e) s = (subst (λ n. k < length (names_through has m n)) e l, ap (λ n. name_in (names_through has m n) k) (sym e))

  -- those of a family stand behind the families before it
  pub stands_behind : (m f g k : ℕ) → suc f ≤ g → k < length (names_below has (suc f) m)
      → (length (names_through has m f) + k < length (names_through has m g)) × (name_in (names_through has m g) (length (names_through has m f) + k) ≡ name_in (names_below has (suc f) m) k)
  unfolding names_through
  stands_behind m f g k h l =
      let e = length-append (names_through has m f) (names_below has (suc f) m) in
      let s = stays_first m (suc f) g (length (names_through has m f) + k) h (omega arith) in (
        s.0,
        s.1 ∙ get_or-append_right (names_through has m f) (names_below has (suc f) m) (length (names_through has m f)) (length (names_through has m f) + k) unnamed refl (omega arith)
            ∙ ap (name_in (names_below has (suc f) m)) (omega arith),
      )

-- ---- an artery's waits
first_two : (a : Street) → names_through (is_there a) (suc (count a)) 2 ≡ indices_to 1 (count a) ++ indices_to 2 (count a)
unfolding names_through
first_two a = ap₂ (λ xs ys. xs ++ ys) (below_all (is_there a) 1 (count a) (count a) (up_to_from (is_there a) 1 (count a) (λ i. row_decided a (name_of 1 i))) (omega arith))
    (below_all (is_there a) 2 (count a) (count a) (up_to_from (is_there a) 2 (count a) (λ i. row_decided a (name_of 2 i))) (omega arith))

length-first_two : (a : Street) → length (names_through (is_there a) (suc (count a)) 2) ≡ count a + count a
length-first_two a =
    ap length (first_two a) ∙ length-append (indices_to 1 (count a)) (indices_to 2 (count a))
    ∙ (let e = length-indices_to 1 (count a) in let f = length-indices_to 2 (count a) in omega arith)

-- there are two rows at least for each signal
pub rows_least : (a : Street) (k : ℕ) → k < count a + count a → k < length (rows_of a)
unfolding rows_of
rows_least a k h = (stays_first (is_there a) (suc (count a)) 2 last_family k (omega arith) (let e = length-first_two a in omega arith)).0

pub outbound_waits : (a : Street) (k : ℕ) → k < count a → name_in (rows_of a) k ≡ record { family = 1; index = suc k }
unfolding rows_of
outbound_waits a k h =
    let e = length-first_two a in
    let f = length-indices_to 1 (count a) in
    (stays_first (is_there a) (suc (count a)) 2 last_family k (omega arith) (omega arith)).1 ∙ ap (λ xs. name_in xs k) (first_two a)
    ∙ get_or_append_left (indices_to 1 (count a)) (indices_to 2 (count a)) unnamed k (omega arith) ∙ at-indices_to 1 (count a) k h

pub inbound_waits : (a : Street) (k : ℕ) → k < count a → name_in (rows_of a) (count a + k) ≡ record { family = 2; index = suc k }
unfolding rows_of
inbound_waits a k h =
    let e = length-first_two a in
    let f = length-indices_to 1 (count a) in
    (stays_first (is_there a) (suc (count a)) 2 last_family (count a + k) (omega arith) (omega arith)).1 ∙ ap (λ xs. name_in xs (count a + k)) (first_two a)
    ∙ get_or-append_right (indices_to 1 (count a)) (indices_to 2 (count a)) (count a) (count a + k) unnamed f (omega arith)
    ∙ ap (name_in (indices_to 2 (count a))) (omega arith) ∙ at-indices_to 2 (count a) k h
