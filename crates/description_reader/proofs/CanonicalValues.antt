-- The values of a canonical description are read back as the numbers that they were made of, and pass the tests that those passed.
use Rattle.std.proofs.Common.{◌≡◌, ℕ, ◌+◌, ◌<◌, ◌≤◌, pos, ℤ, List, [], ◌∷◌, length, map, Bool, true, false, None, Some, is_some, ◌&&◌, nat_le, nat_lt, refl, ◌∙◌, ap, ap₂, arith}
use Rattle.std.specs.Prelude.{unwrap_or}
use Rattle.std.specs.List.{list_all}
use Rattle.std.proofs.lemmas.Bool.Decides.{nat_tests}
use Rattle.std.proofs.lemmas.Bool.{lt-ltb}
use Rattle.toml.specs.Data.{Data, string, boolean, array, as_table}
use Rattle.toml.specs.View.{items_of}
use Rattle.rational_theory.specs.Rational.{ℚ, whole}
use Rattle.quantity_text.specs.Quantity.{quantity_of}
use Rattle.quantity_text.specs.Exact.{exact_spelling}
use Rattle.quantity_text.proofs.ReadBack.{exact_spelling_is_quantity}
use Rattle.progression.specs.declared.parts.Pair.{Pair}
use Rattle.artery_model.specs.Bounds.{most_numerator, most_denominator}
use Rattle.artery_model.specs.Limits.{within, in_range}
use Rattle.description_reader.specs.Canonical.{number_data, quantity_data, pair_data, patterns_from}
use Rattle.description_reader.specs.Checks.{meets}
use Rattle.description_reader.specs.KeyTable.{key, both, alone, items, tables, two_quantities}
use Rattle.description_reader.specs.Quantity.{number_in}
use Rattle.description_reader.specs.Values.{items_in}
use Rattle.description_reader.specs.Streets.{u32_or_zero, pair_of, patterns_of}
use Rattle.description_reader.specs.declared.demand.Demand.{Demand}
use Rattle.description_reader.specs.declared.demand.Demand.TheVariants.{Anything, Table, Array, Integer, Boolean, Text, Quantity, Number, Between, BelowParts, Within}
use Rattle.description_reader.specs.declared.key_table.Demands.{Demands}
use Rattle.description_reader.specs.declared.key_table.Presence.{Presence}
use Rattle.description_reader.specs.declared.key_table.Presence.TheVariants.{Needed, Optional, NotLast}
use Rattle.description_reader.proofs.Views.{list_of_items}
use Rattle.description_reader.proofs.CanonicalTests.{both_of, Stands, Passes}
use Rattle.description_reader.proofs.CanonicalLimits.{AreWithin}

-- ---- quantities
below_of : (n m k : ℕ) → m < k → nat_le n m ≡ true → n < k
below_of n m k h e = grind (arith, nat_tests)

-- a quantity within its limits is read back
pub quantity_back : (low high q : ℚ) → within low high q ≡ true → quantity_of (exact_spelling q) ≡ Some q
quantity_back low high q e =
    let sizes = both_of _ _ (both_of _ _ (both_of _ _ e).0).0 in
    exact_spelling_is_quantity q (below_of _ most_numerator _ (omega arith) sizes.0) (below_of _ most_denominator _ (omega arith) sizes.1)

pub number_back : (low high q : ℚ) → within low high q ≡ true → number_in (quantity_data q) ≡ q
number_back low high q e = ap (λ o. unwrap_or o (whole (pos 0))) (quantity_back low high q e)

number_meets : (parts : ℤ) (low high q : ℚ) → within low high q ≡ true → meets parts Number (quantity_data q) ≡ true
number_meets parts low high q e = ap is_some (quantity_back low high q e)

within_meets : (parts low high : ℤ) (q : ℚ) → within (whole low) (whole high) q ≡ true → meets parts (Within low high) (quantity_data q) ≡ true
within_meets parts low high q e = ap (within (whole low) (whole high)) (number_back (whole low) (whole high) q e) ∙ e

pub pair_back : (low high : ℤ) (p : Pair) → AreWithin low high p → pair_of (items_in (pair_data p)) ≡ p
pair_back low high p h = rw (quantity_back _ _ p.least h.least, quantity_back _ _ p.most h.most)

-- ---- whole numbers
pub u32_back : (n : ℕ) → n < 4294967296 → u32_or_zero (pos n) ≡ n
u32_back n h = rw (lt-ltb n 4294967296 h)

pub below_meets : (least parts n : ℕ) → nat_le least n ≡ true → nat_lt n parts ≡ true → meets (pos parts) (BelowParts (pos least)) (number_data n) ≡ true
below_meets least parts n e f = ap₂ (λ a b. a && b) e f

-- ---- patterns
four_back : (a b c d : Bool) → patterns_of (Some (array (items_of (patterns_from 1 (a ∷ b ∷ c ∷ d ∷ []))))) ≡ a ∷ b ∷ c ∷ d ∷ []
four_back true true true true = refl
four_back true true true false = refl
four_back true true false true = refl
four_back true true false false = refl
four_back true false true true = refl
four_back true false true false = refl
four_back true false false true = refl
four_back true false false false = refl
four_back false true true true = refl
four_back false true true false = refl
four_back false true false true = refl
four_back false true false false = refl
four_back false false true true = refl
four_back false false true false = refl
four_back false false false true = refl
four_back false false false false = refl

pub patterns_back : (bs : List Bool) → length bs ≡ 4 → patterns_of (Some (array (items_of (patterns_from 1 bs)))) ≡ bs
patterns_back [] e = absurd (omega arith)
patterns_back (a ∷ []) e = absurd (omega arith)
patterns_back (a ∷ b ∷ []) e = absurd (omega arith)
patterns_back (a ∷ b ∷ c ∷ []) e = absurd (omega arith)
patterns_back (a ∷ b ∷ c ∷ d ∷ x ∷ xs) e = absurd (omega arith)
patterns_back (a ∷ b ∷ c ∷ d ∷ []) e = four_back a b c d

-- the numbers that are named are what they must be, where each of them is
patterns_meet : (parts : ℤ) (demand : Demand) (i : ℕ) (bs : List Bool) → ((k : ℕ) → i ≤ k → k < i + length bs → meets parts demand (number_data k) ≡ true)
    → list_all (meets parts demand) (patterns_from i bs) ≡ true
patterns_meet parts demand i [] h = refl
patterns_meet parts demand i (true ∷ bs) h =
    ap₂ (λ a b. a && b) (h i (omega arith) (omega arith)) (patterns_meet parts demand (i + 1) bs (λ k least most. h k (omega arith) (omega arith)))
patterns_meet parts demand i (false ∷ bs) h = patterns_meet parts demand (i + 1) bs (λ k least most. h k (omega arith) (omega arith))

-- ---- what stands at the keys
there : (presence : Presence) (d : Data) → Stands presence (Some d)
there Needed d = refl
there Optional d = tt
there NotLast d = tt

all_meet : {X : Type 0} (test : Data → Bool) (f : X → Data) → ((x : X) → test (f x) ≡ true) → (xs : List X) → list_all test (map f xs) ≡ true
all_meet test f h [] = refl
all_meet test f h (x ∷ xs) = ap₂ (λ a b. a && b) (h x) (all_meet test f h xs)

one_to_four : (k : ℕ) (bs : List Bool) → length bs ≡ 4 → 1 ≤ k → k < 1 + length bs → in_range 1 4 k ≡ true
one_to_four k bs e least most = grind (arith, nat_tests)

module _ (parts : ℤ) (name : List ℕ) (presence : Presence) where
  pub number_passes : (range : Demand) (n : ℕ) → meets parts range (number_data n) ≡ true → Passes parts (key name presence (alone Integer) (alone range)) (Some (number_data n))
  number_passes range n h = record {
    stands = there presence (number_data n);
    types = record { value = refl; items = refl };
    numbers = record { value = refl; items = refl };
    ranges = record { value = h; items = refl };
  }

  pub text_passes : (range : Demand) (t : List ℕ) → meets parts range (string t) ≡ true → Passes parts (key name presence (alone Text) (alone range)) (Some (string t))
  text_passes range t h = record {
    stands = there presence (string t);
    types = record { value = refl; items = refl };
    numbers = record { value = refl; items = refl };
    ranges = record { value = h; items = refl };
  }

  pub flag_passes : (b : Bool) → Passes parts (key name presence (alone Boolean) (alone Anything)) (Some (boolean b))
  flag_passes b = record {
    stands = there presence (boolean b);
    types = record { value = refl; items = refl };
    numbers = record { value = refl; items = refl };
    ranges = record { value = refl; items = refl };
  }

  pub quantity_passes : (low high : ℤ) (q : ℚ) → within (whole low) (whole high) q ≡ true → Passes parts (key name presence (alone Quantity) (alone (Within low high))) (Some (quantity_data q))
  quantity_passes low high q h = record {
    stands = there presence (quantity_data q);
    types = record { value = refl; items = refl };
    numbers = record { value = number_meets parts (whole low) (whole high) q h; items = refl };
    ranges = record { value = within_meets parts low high q h; items = refl };
  }

  pub pair_passes : (low high : ℤ) (p : Pair) → AreWithin low high p → Passes parts (key name presence two_quantities (items (Within low high))) (Some (pair_data p))
  pair_passes low high p h = record {
    stands = there presence (pair_data p);
    types = record { value = refl; items = refl };
    numbers = record {
      value = refl;
      items = ap₂ (λ a b. a && (b && true)) (number_meets parts (whole low) (whole high) p.least h.least) (number_meets parts (whole low) (whole high) p.most h.most);
    };
    ranges = record {
      value = refl;
      items = ap₂ (λ a b. a && (b && true)) (within_meets parts low high p.least h.least) (within_meets parts low high p.most h.most);
    };
  }

  pub patterns_pass : (bs : List Bool) → length bs ≡ 4
      → Passes parts (key name presence (both Array Integer) (items (Between (pos 1) (pos 4)))) (Some (array (items_of (patterns_from 1 bs))))
  patterns_pass bs four =
      let each = λ (demand : Demand) (h : (k : ℕ) → 1 ≤ k → k < 1 + length bs → meets parts demand (number_data k) ≡ true).
      ap (list_all (meets parts demand)) (list_of_items (patterns_from 1 bs)) ∙ patterns_meet parts demand 1 bs h in
      record {
        stands = there presence (array (items_of (patterns_from 1 bs)));
        types = record { value = refl; items = each Integer (λ k least most. refl) };
        numbers = record { value = refl; items = each Anything (λ k least most. refl) };
        ranges = record { value = refl; items = each (Between (pos 1) (pos 4)) (λ k least most. one_to_four k bs four least most) };
      }

  pub tables_pass : {X : Type 0} (f : X → Data) (range : Demand) (xs : List X) → ((x : X) → is_some (as_table (f x)) ≡ true) → meets parts range (array (items_of (map f xs))) ≡ true
      → Passes parts (key name presence tables (alone range)) (Some (array (items_of (map f xs))))
  tables_pass {X = X} f range xs h k =
      let each = λ (demand : Demand) (m : (x : X) → meets parts demand (f x) ≡ true). ap (list_all (meets parts demand)) (list_of_items (map f xs)) ∙ all_meet (meets parts demand) f m xs in
      record {
        stands = there presence (array (items_of (map f xs)));
        types = record { value = refl; items = each Table h };
        numbers = record { value = refl; items = each Anything (λ x. refl) };
        ranges = record { value = k; items = each Anything (λ x. refl) };
      }

  pub absent_passes : (types ranges : Demands) → Stands presence None → Passes parts (key name presence types ranges) None
  absent_passes types ranges s = record {
    stands = s;
    types = record { value = refl; items = refl };
    numbers = record { value = refl; items = refl };
    ranges = record { value = refl; items = refl };
  }
