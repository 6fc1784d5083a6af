-- Each family has one name, and each name is of one family.
use Rattle.std.proofs.lemmas.List.{drop_more, length-map}
use Rattle.std.proofs.lemmas.Bool.{and_parts, eqb-true, true≢false}
use Rattle.std.proofs.Common.{◌≡◌, ℕ, zero, suc, ◌+◌, ◌-◌, ◌<◌, ◌≤◌, ◌⊎◌, inl, inr, Bool, true, false, List, [], ◌∷◌, drop, get_or, length, Option, Some, None, refl, sym, ap, ◌∙◌, subst, arith}
use Rattle.std.specs.Prelude.{if◌then◌else◌, slice_index_or, ◌==◌, ◌&&◌}
use Rattle.certificate_model.specs.Words.{is_text}
use Rattle.certificate_model.specs.declared.family.FamilyName.{FamilyName}
use Rattle.certificate_model.specs.Families.{Table, Family, table_of, texts, ordinary, family_name_in, number_in, family_in}
use Rattle.plan_text.proofs.Pieces.{lacks}
use Rattle.plan_text.proofs.Fields.{same_text, IsKey}

-- a test that is true of each number up to n
abbrev pub holds_to : ℕ → (ℕ → Bool) → Bool
holds_to zero test = true
holds_to (suc n) test = test (suc n) && holds_to n test

test_is : (n : ℕ) (test : ℕ → Bool) → holds_to n test ≡ true → (f : ℕ) → 1 ≤ f → f ≤ n → test f ≡ true
test_is zero test e f l m = absurd (omega arith)
test_is (suc n) test e f l m = last_or_before (cases f n m) (test_is n test (and_parts (test (suc n)) (holds_to n test) e).1 f l)
  where
    cases : (f n : ℕ) → f ≤ suc n → (f ≡ suc n) ⊎ (f ≤ n)
    cases f n m = grind arith

    last_or_before : (f ≡ suc n) ⊎ (f ≤ n) → (f ≤ n → test f ≡ true) → test f ≡ true
    last_or_before (inl q) before = subst (λ k. test k ≡ true) (sym q) (and_parts (test (suc n)) (holds_to n test) e).0
    last_or_before (inr k) before = before k

-- a number is this one
abbrev pub is_some_of : ℕ → Option ℕ → Bool
is_some_of n None = false
is_some_of n (Some m) = m == n

some_of : (n : ℕ) (o : Option ℕ) → is_some_of n o ≡ true → o ≡ Some n
some_of n None e = absurd (true≢false (sym e))
some_of n (Some m) e = ap Some (eqb-true m n e)

-- each name of a table is one word, and the first such name is its own
pub record Tells (table : Table) : Type 0 where
  pub again : (f : ℕ) → 1 ≤ f → f ≤ length table → family_in table (family_name_in table f) ≡ Some f
  pub word : (f : ℕ) → 1 ≤ f → f ≤ length table → IsKey (family_name_in table f)

-- as a test of a number
abbrev pub tells : Table → ℕ → Bool
tells table n = is_some_of n (family_in table (family_name_in table n)) && (lacks 32 (family_name_in table n) && lacks 10 (family_name_in table n))

pub tells_by : (table : Table) → holds_to (length table) (tells table) ≡ true → Tells table
tells_by table e =
    let each : (f : ℕ) → 1 ≤ f → f ≤ length table → tells table f ≡ true = test_is (length table) (tells table) e in
    record {
      again = λ f l m. some_of f (family_in table (family_name_in table f)) (and_parts _ _ (each f l m)).0;
      word = λ f l m.
          let p = and_parts _ _ (and_parts (is_some_of f (family_in table (family_name_in table f))) _ (each f l m)).1 in
          record { spaces = p.0; feeds = p.1 };
    }

pub ordinary_tells : Tells ordinary
unfolding ordinary
ordinary_tells = tells_by ordinary refl

-- a number that is found stands where its name does
pub record IsFound (n : ℕ) (names : List (List ℕ)) (w : List ℕ) (f : ℕ) : Type 0 where
  pub least : n ≤ f
  pub most : f < n + length names
  pub name : w ≡ slice_index_or names (f - n) []

later : (n : ℕ) (name : List ℕ) (names : List (List ℕ)) (w : List ℕ) (f : ℕ) → IsFound (n + 1) names w f → IsFound n (name ∷ names) w f
later n name names w f p =
    let l = p.least in
    let m = p.most in
    record { least = omega arith; most = omega arith; name = p.name ∙ sym (one_on (omega arith)) }
  where
    one_on : f - n ≡ suc (f - (n + 1)) → slice_index_or (name ∷ names) (f - n) [] ≡ slice_index_or names (f - (n + 1)) []
    one_on e = ap (λ (k : ℕ). slice_index_or (name ∷ names) k []) e

found_by : (n : ℕ) (name : List ℕ) (names : List (List ℕ)) (w : List ℕ) (f : ℕ) (b : Bool) → (b ≡ true → name ≡ w) → (number_in (n + 1) names w ≡ Some f → IsFound (n + 1) names w f)
    → (if b then Some n else number_in (n + 1) names w) ≡ Some f → IsFound n (name ∷ names) w f
found_by n name names w f true is more e =
    let k : n ≡ f = cc in
    subst (IsFound n (name ∷ names) w) k (record { least = omega arith; most = omega arith; name = sym (is refl) ∙ sym (first (omega arith)) })
  where
    first : n - n ≡ 0 → slice_index_or (name ∷ names) (n - n) [] ≡ name
    first e = ap (λ (k : ℕ). slice_index_or (name ∷ names) k []) e
found_by n name names w f false is more e = later n name names w f (more e)

number_takes : (n : ℕ) (names : List (List ℕ)) (w : List ℕ) (f : ℕ) → number_in n names w ≡ Some f → IsFound n names w f
number_takes n [] w f e = absurd cc
number_takes n (name ∷ names) w f e = found_by n name names w f (is_text name w) (same_text name w) (number_takes (n + 1) names w f) e

-- a word that names a family is its name
pub record Names (table : Table) (w : List ℕ) (f : ℕ) : Type 0 where
  pub first : 1 ≤ f
  pub last : f ≤ length table
  pub name : w ≡ family_name_in table f

pub family_takes : (table : Table) (w : List ℕ) (f : ℕ) → family_in table w ≡ Some f → Names table w f
family_takes table w f e =
    let p = number_takes 1 (texts table) w f e in
    let l = p.least in
    let m = p.most in
    record { first = l; last = omega (arith, length-map table (λ (g : Family). g.text)); name = p.name }

-- ---- what the code finds

pub goes_on : (i : ℕ) (names : List FamilyName) (w : List ℕ) (d : FamilyName) (total : Option ℕ) → i < length names → is_text (get_or names i d).text.now w ≡ false
    → total ≡ number_in (i + 1) (texts (table_of (drop i names))) w → total ≡ number_in (i + 1 + 1) (texts (table_of (drop (i + 1) names))) w
goes_on i names w d total lt other so_far = so_far ∙ rw (drop_more names i d lt, other) refl

pub stops : (i : ℕ) (names : List FamilyName) (w : List ℕ) (d : FamilyName) (total : Option ℕ) → i < length names → is_text (get_or names i d).text.now w ≡ true
    → total ≡ number_in (i + 1) (texts (table_of (drop i names))) w → Some (i + 1) ≡ total
stops i names w d total lt same so_far = sym (so_far ∙ rw (drop_more names i d lt, same) refl)
