-- The numbers of a plan that a timing can hold.
use Rattle.std.proofs.Common.{◌≡◌, ℕ, zero, suc, ◌+◌, ◌*◌, ◌^◌, ◌<◌, ◌≤◌, List, [], ◌∷◌, ◌++◌, length, get_or, map, arith, refl, sym, ◌∙◌, ap, subst, true, false, pos}
use Rattle.std.specs.Prelude.{Option, Some, None, Bool, find, nat_le, All, cond}
use Rattle.std.specs.Option.{option_or}
use Rattle.std.proofs.lemmas.List.{length-map}
use Rattle.std.proofs.Math.Nat.{mul-le-mul_right}
use Rattle.std.proofs.lemmas.Bool.Decides.{nat_tests}
use Rattle.progression.specs.Street.{Street, count}
use Rattle.progression.specs.BaseRecord.{BaseRecord, IsBaseRecord}
use Rattle.artery_model.specs.Valid.{IsValid}
use Rattle.time_space.specs.Timing.{AreOfBase, base_of}
use Rattle.time_space.proofs.FinerGrids.{mul-le}
use Rattle.std.proofs.lemmas.List.Folds.{find-append}
use Rattle.second_plan.specs.Grid.{fineness, in_seconds, too_fine}

or_assoc : (a b c : Option ℕ) → option_or (option_or a b) c ≡ option_or a (option_or b c)
or_assoc None b c = refl
or_assoc (Some n) b c = refl

-- the first of four lists
pub first_of_four : (p : ℕ → Bool) (xs ys zs ws : List ℕ) → find p (xs ++ (ys ++ (zs ++ ws))) ≡ option_or (option_or (option_or (find p xs) (find p ys)) (find p zs)) (find p ws)
first_of_four p xs ys zs ws =
    find-append p xs (ys ++ (zs ++ ws))
    ∙ ap (option_or (find p xs)) (find-append p ys (zs ++ ws) ∙ ap (option_or (find p ys)) (find-append p zs ws))
    ∙ sym (or_assoc (find p xs) (find p ys) (option_or (find p zs) (find p ws)))
    ∙ sym (or_assoc (option_or (find p xs) (find p ys)) (find p zs) (find p ws))

-- ---- where nothing is too large
past : (p : ℕ → Bool) (x : ℕ) (xs : List ℕ) (b : Bool) → b ≡ p x → cond b (Some x) (find p xs) ≡ None → (p x ≡ false) × (find p xs ≡ None)
past p x xs true e h = absurd (cc)
past p x xs false e h = (sym e, h)

none_found : (p : ℕ → Bool) (xs : List ℕ) → find p xs ≡ None → (i d : ℕ) → i < length xs → p (get_or xs i d) ≡ false
none_found p [] h i d l = absurd (omega arith)
none_found p (x ∷ xs) h zero d l = (past p x xs (p x) refl h).0
none_found p (x ∷ xs) h (suc i) d l = none_found p xs ((past p x xs (p x) refl h).1) i d (omega arith)

small : (n : ℕ) → nat_le (2 ^ 80) n ≡ false → n < 2 ^ 80
small n e = grind (arith, nat_tests)

neither : (a b : Option ℕ) → option_or a b ≡ None → (a ≡ None) × (b ≡ None)
neither None b h = (refl, h)
neither (Some n) b h = absurd (cc)

-- a list of which none is too large
none_large : (xs : List ℕ) → find (λ n. nat_le (2 ^ 80) n) xs ≡ None → All (λ n. n < 2 ^ 80) xs
none_large xs h = λ i d l. small (get_or xs i d) (none_found (λ n. nat_le (2 ^ 80) n) xs h i d l)

-- the numbers of a plan that is not too fine
pub record IsFine (a : Street) (t : BaseRecord) (k : ℕ) : Type 0 where
  pub grid : t.grid * fineness a < 2 ^ 80
  pub run_out : All (λ n. n < 2 ^ 80) (map (λ n. n * fineness a) t.run_out)
  pub run_in : All (λ n. n < 2 ^ 80) (map (λ n. n * fineness a) t.run_in)
  pub cycle : a.head.parts * (2 * k * t.grid) < 2 ^ 80

pub is_fine : (a : Street) (t : BaseRecord) (k : ℕ) → too_fine a t k ≡ None → IsFine a t k
is_fine a t k h =
    let p : ℕ → Bool = λ n. nat_le (2 ^ 80) n in
    let grid = t.grid * fineness a ∷ [] in
    let there = map (λ n. n * fineness a) t.run_out in
    let back = map (λ n. n * fineness a) t.run_in in
    let whole = a.head.parts * (2 * k * t.grid) ∷ [] in
    let four = sym (first_of_four p grid there back whole) ∙ h in
    let last = neither (option_or (option_or (find p grid) (find p there)) (find p back)) (find p whole) four in
    let third = neither (option_or (find p grid) (find p there)) (find p back) last.0 in
    let second = neither (find p grid) (find p there) third.0 in
    record {
      grid = none_large grid second.0 0 0 (omega arith);
      run_out = none_large there second.1;
      run_in = none_large back third.1;
      cycle = none_large whole last.1 0 0 (omega arith);
    }

-- ---- the numbers of the plan's base
red_small : (k n g c : ℕ) → n < k → k * g ≡ c → c < 2 ^ 80 → n * g < 2 ^ 80
red_small k n g c l e h = let m : n * g ≤ k * g = mul-le-mul_right g (omega arith) in omega (arith, m)

get_or-times : (xs : List ℕ) (g i d : ℕ) → i < length xs → get_or (map (λ offset. offset * g) xs) i d ≡ get_or xs i d * g
get_or-times [] g i d l = absurd (omega arith)
get_or-times (x ∷ xs) g zero d l = refl
get_or-times (x ∷ xs) g (suc i) d l = get_or-times xs g i d (omega arith)

pub reds_small : (xs : List ℕ) (k g c : ℕ) → All (λ n. n < k) xs → k * g ≡ c → c < 2 ^ 80 → All (λ n. n < 2 ^ 80) (map (λ offset. offset * g) xs)
reds_small xs k g c h e b = λ i d l.
    let m : i < length xs = rw length-map at l in
    subst (λ n. n < 2 ^ 80) (sym (get_or-times xs g i d m)) (red_small k (get_or xs i d) g c (h i d m) e b)

pub map-map_pos : (xs : List ℕ) (g : ℕ) → map pos (map (λ offset. offset * g) xs) ≡ map (λ offset. pos (offset * g)) xs
map-map_pos [] g = refl
map-map_pos (x ∷ xs) g = ap (λ zs. pos (x * g) ∷ zs) (map-map_pos xs g)

module _ (a : Street) (t : BaseRecord) (k : ℕ) (offsets : List ℕ) where
  -- what the parts of the base have to be
  pub record AreParts (grid unit : ℕ) (patterns reds run_out run_in : List ℕ) : Type 0 where
    pub grid_is : grid ≡ t.grid * fineness a
    pub unit_is : unit ≡ 2 * k * t.grid
    pub patterns_are : patterns ≡ t.patterns
    pub reds_are : reds ≡ map (λ offset. offset * (t.grid * fineness a)) offsets
    pub run_out_are : run_out ≡ map (λ n. n * fineness a) t.run_out
    pub run_in_are : run_in ≡ map (λ n. n * fineness a) t.run_in

  pub parts_of : {grid unit : ℕ} {patterns reds run_out run_in : List ℕ} → grid ≡ t.grid * fineness a → unit ≡ 2 * k * t.grid → patterns ≡ t.patterns
      → reds ≡ map (λ offset. offset * (t.grid * fineness a)) offsets → run_out ≡ map (λ n. n * fineness a) t.run_out → run_in ≡ map (λ n. n * fineness a) t.run_in
      → AreParts grid unit patterns reds run_out run_in
  parts_of d e f g h i = record { grid_is = d; unit_is = e; patterns_are = f; reds_are = g; run_out_are = h; run_in_are = i }

  pub base_is : (grid unit : ℕ) (patterns reds run_out run_in : List ℕ) → AreParts grid unit patterns reds run_out run_in
      → base_of grid unit patterns reds run_out run_in ≡ in_seconds a t k offsets
  base_is grid unit patterns reds run_out run_in h = λ i. record {
    grid = h.grid_is i;
    unit = h.unit_is i;
    patterns = h.patterns_are i;
    reds = (ap (map pos) h.reds_are ∙ map-map_pos offsets (t.grid * fineness a)) i;
    run_out = h.run_out_are i;
    run_in = h.run_in_are i;
  }

  module _ (valid : IsValid a) (p : IsBaseRecord t) (fine : too_fine a t k ≡ None) (some : 1 ≤ k) (shape : length t.patterns ≡ count a)
      (each : All (λ n. (1 ≤ n) × (n ≤ 4)) t.patterns) (long : length offsets ≡ count a) (below : All (λ n. n < k) offsets) where
    sizes_are : IsFine a t k
    sizes_are = is_fine a t k fine

    grid_above : 1 ≤ t.grid * fineness a
    grid_above = let m : 1 * 1 ≤ t.grid * (2 * a.head.parts) = mul-le {a = 1} {b = t.grid} {c = 1} {d = 2 * a.head.parts} p.grid (let l = valid.least_parts in omega arith) in omega (arith, m)

    unit_above : 2 ≤ 2 * k * t.grid
    unit_above = let m : 1 * 1 ≤ k * t.grid = mul-le {a = 1} {b = k} {c = 1} {d = t.grid} some p.grid in omega (arith, m)

    unit_below : 2 * k * t.grid < 2 ^ 80
    unit_below = let m : 1 * (2 * k * t.grid) ≤ a.head.parts * (2 * k * t.grid) = mul-le-mul_right (2 * k * t.grid) (let l = valid.least_parts in omega arith) in
        let h = sizes_are.cycle in omega (arith, m, h)

    listed : AreOfBase (t.grid * fineness a) (2 * k * t.grid) t.patterns (map (λ offset. offset * (t.grid * fineness a)) offsets) (map (λ n. n * fineness a) t.run_out)
        (map (λ n. n * fineness a) t.run_in)
    listed = record {
      grid_least = grid_above;
      grid_most = sizes_are.grid;
      unit_least = unit_above;
      unit_most = unit_below;
      few = let l = valid.few in omega arith;
      many = let l = valid.many in omega arith;
      reds_count = length-map offsets (λ offset. offset * (t.grid * fineness a)) ∙ long ∙ sym shape;
      run_out_count = ap (λ n. n + 1) (length-map t.run_out (λ n. n * fineness a)) ∙ p.run_out;
      run_in_count = ap (λ n. n + 1) (length-map t.run_in (λ n. n * fineness a)) ∙ p.run_in;
      patterns_each = each;
      reds_each = reds_small offsets k (t.grid * fineness a) (a.head.parts * (2 * k * t.grid)) below (omega arith) sizes_are.cycle;
      run_out_each = sizes_are.run_out;
      run_in_each = sizes_are.run_in;
    }

    pub of_base : (grid unit : ℕ) (patterns reds run_out run_in : List ℕ) → AreParts grid unit patterns reds run_out run_in → AreOfBase grid unit patterns reds run_out run_in
    of_base grid unit patterns reds run_out run_in h =
        let e1 = h.grid_is in let e2 = h.unit_is in let e3 = h.patterns_are in let e4 = h.reds_are in let e5 = h.run_out_are in let e6 = h.run_in_are in
        rw (e1, e2, e3, e4, e5, e6) listed
