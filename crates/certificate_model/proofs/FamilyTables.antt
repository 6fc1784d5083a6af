-- What the code finds in a table of families by a number.
use Rattle.std.proofs.lemmas.List.{length-map}
use Rattle.std.proofs.lemmas.Bool.{eq-eqb}
use Rattle.std.proofs.lemmas.Bool.Decides.{nat_tests}
use Rattle.std.proofs.Common.{◌≡◌, ℕ, zero, suc, ◌+◌, ◌-◌, ◌<◌, ◌≤◌, Bool, true, false, List, [], ◌∷◌, get_or, length, refl, sym, ap, ◌∙◌, ltb, ltb-true, ltb-false, arith}
use Rattle.std.specs.Prelude.{if◌then◌else◌, slice_index_or, ◌==◌, ◌||◌}
use Rattle.certificate_model.specs.declared.family.FamilyName.{FamilyName}
use Rattle.certificate_model.specs.Families.{Table, named, table_of, texts, family_name_in, lone_among, is_lone_in}

lt-eqb : (n k : ℕ) → n < k → (k == n) ≡ false
lt-eqb n k lt = grind (arith, nat_tests)

gt-eqb : (n k : ℕ) → k < n → (k == n) ≡ false
gt-eqb n k lt = grind (arith, nat_tests)

-- the name of a family that is there
pub at_index : (names : List FamilyName) (i : ℕ) (d : FamilyName) → i < length names → (get_or names i d).text.now ≡ slice_index_or (texts (table_of names)) i []
at_index [] i d lt = absurd (omega arith)
at_index (n ∷ ns) zero d lt = refl
at_index (n ∷ ns) (suc i) d lt = at_index ns i d (omega arith)

-- and whether it has one row alone
later_lone : (n : ℕ) (f : FamilyName) (fs : List FamilyName) (k : ℕ) (b : Bool) → n < k
    → (if b then (k == n) || lone_among (n + 1) (table_of fs) k else lone_among (n + 1) (table_of fs) k) ≡ lone_among (n + 1) (table_of fs) k
later_lone n f fs k true lt = rw (lt-eqb n k lt) refl
later_lone n f fs k false lt = refl

none_lone : (n : ℕ) (table : Table) (k : ℕ) → k < n → lone_among n table k ≡ false
none_lone n [] k lt = refl
none_lone n (f ∷ fs) k lt = none_by f.lone (none_lone (n + 1) fs k (omega arith))
  where
    none_by : (b : Bool) → lone_among (n + 1) fs k ≡ false → (if b then (k == n) || lone_among (n + 1) fs k else lone_among (n + 1) fs k) ≡ false
    none_by true more = rw (gt-eqb n k lt, more) refl
    none_by false more = more

first_lone : (n : ℕ) (f : FamilyName) (fs : List FamilyName) (b : Bool) → (if b then (n == n) || lone_among (n + 1) (table_of fs) n else lone_among (n + 1) (table_of fs) n) ≡ b
first_lone n f fs true = rw (eq-eqb n n refl) refl
first_lone n f fs false = none_lone (n + 1) (table_of fs) n (omega arith)

pub lone_at : (n : ℕ) (names : List FamilyName) (i : ℕ) (d : FamilyName) → i < length names → lone_among n (table_of names) (n + i) ≡ (get_or names i d).is_lone
lone_at n [] i d lt = absurd (omega arith)
lone_at n (f ∷ fs) zero d lt =
    let e : n + 0 ≡ n = omega arith in
    ap (λ (k : ℕ). lone_among n (table_of (f ∷ fs)) k) e ∙ first_lone n f fs f.is_lone
lone_at n (f ∷ fs) (suc i) d lt =
    let e : n + suc i ≡ n + 1 + i = omega arith in
    ap (λ (k : ℕ). lone_among n (table_of (f ∷ fs)) k) e ∙ later_lone n f fs (n + 1 + i) f.is_lone (omega arith) ∙ lone_at (n + 1) fs i d (omega arith)

pub past_lone : (n : ℕ) (table : Table) (k : ℕ) → n + length table ≤ k → lone_among n table k ≡ false
past_lone n [] k le = refl
past_lone n (f ∷ fs) k le = past_by f.lone (past_lone (n + 1) fs k (omega arith))
  where
    past_by : (b : Bool) → lone_among (n + 1) fs k ≡ false → (if b then (k == n) || lone_among (n + 1) fs k else lone_among (n + 1) fs k) ≡ false
    past_by true more = rw (lt-eqb n k (omega arith), more) refl
    past_by false more = more

pub zero_lone : (table : Table) → lone_among 1 table 0 ≡ false
zero_lone table = none_lone 1 table 0 (omega arith)

-- as an index looks them up
pub name_here : (names : List FamilyName) (i family : ℕ) (f d : FamilyName) → true ≡ ltb i (length names) → f ≡ slice_index_or names i d → i ≡ family - 1
    → f.text.now ≡ family_name_in (table_of names) family
name_here names i family f d lt is at = ap (λ (g : FamilyName). g.text.now) is ∙ at_index names i d (ltb-true _ _ (sym lt)) ∙ ap (λ (k : ℕ). slice_index_or (texts (table_of names)) k []) at

pub lone_here : (names : List FamilyName) (i family : ℕ) (f d : FamilyName) → true ≡ ltb i (length names) → f ≡ slice_index_or names i d → i ≡ family - 1
    → (family ≡ 0 → ⊥) → f.is_lone ≡ is_lone_in (table_of names) family
lone_here names i family f d lt is at some =
    let e : 1 + i ≡ family = one_more family some (omega arith) in
    ap (λ (g : FamilyName). g.is_lone) is ∙ sym (lone_at 1 names i d (ltb-true _ _ (sym lt))) ∙ ap (λ (k : ℕ). is_lone_in (table_of names) k) e
  where
    one_more : (n : ℕ) → (n ≡ 0 → ⊥) → i ≡ n - 1 → 1 + i ≡ n
    one_more zero h k = absurd (h refl)
    one_more (suc n) h k = omega arith

pub lone_past : (names : List FamilyName) (i family : ℕ) → false ≡ ltb i (length names) → i ≡ family - 1 → (family ≡ 0 → ⊥) → false ≡ is_lone_in (table_of names) family
lone_past names i family ge at some =
    let le : length names ≤ i = ltb-false _ _ (sym ge) in
    sym (past_lone 1 (table_of names) family (one_more family some (omega arith)))
  where
    one_more : (n : ℕ) → (n ≡ 0 → ⊥) → i ≡ n - 1 → 1 + length (table_of names) ≤ n
    one_more zero h k = absurd (h refl)
    one_more (suc n) h k = omega (arith, ltb-false i (length names) (sym ge), length-map names named)
