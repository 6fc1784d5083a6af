-- The first operation of a pivot's list that leaves 128 bits is the one that is refused.
use Rattle.std.proofs.Common.{◌≡◌, ℕ, zero, suc, pos, Bool, true, false, true≢false, cond, eqb, Option, Some, None, List, [], ◌∷◌, ◌++◌, length, get_or, refl, sym, ◌∙◌, ap, ap₂, subst}
use Rattle.rational_theory.specs.Rational.{ℚ, whole, ◌*ℚ◌}
use Rattle.simplex_theory.specs.Lines.{divided}
use Rattle.simplex_theory.specs.Tableau.{Tableau, line, height, cell}
use Rattle.narrow_fraction.specs.Attempt.{earlier, first_below}
use Rattle.narrow_fraction.proofs.Attempt.{first_same, neither, some_not_none}
use Rattle.narrow_fraction.specs.Past128.{Fits128, Past128, is_past}
use Rattle.narrow_fraction.proofs.Past128.{past_none, past_some, fits_within, within}
use Rattle.narrow_fraction.specs.declared.wide.Op.TheVariants.{Mul, Div, Sub}
use Rattle.fraction_tableau.specs.Refusals.{at_cell, refused, divide_refusal, clear_refusal, pivot_refusal}
use Rattle.fraction_tableau.proofs.Refusals.{refused_none}
use Rattle.fraction_tableau.specs.Operations.{operation, listed_below, listed_others, divide_operations, cell_operations, clear_operations, pivot_operations, AllFit, IsFirstPast, IsRefusalOf}
use Rattle.fraction_tableau.specs.declared.wide_cell.WideCell.{WideCell}

-- ---- the first of a list that is refused

abbrev first_of : List WideCell → Option WideCell
first_of [] = None
first_of (o ∷ os) = earlier (refused o.wide.op o.wide.left o.wide.right o.row o.col) (first_of os)

earlier_none : (o : Option WideCell) → earlier o None ≡ o
earlier_none None = refl
earlier_none (Some w) = refl

earlier_all : (o p q : Option WideCell) → earlier (earlier o p) q ≡ earlier o (earlier p q)
earlier_all None p q = refl
earlier_all (Some w) p q = refl

first_append : (xs ys : List WideCell) → first_of (xs ++ ys) ≡ earlier (first_of xs) (first_of ys)
first_append [] ys = refl
first_append (x ∷ xs) ys =
    ap (λ o. earlier (refused x.wide.op x.wide.left x.wide.right x.row x.col) o) (first_append xs ys)
    ∙ sym (earlier_all (refused x.wide.op x.wide.left x.wide.right x.row x.col) (first_of xs) (first_of ys))

first_listed : (f : ℕ → List WideCell) (n : ℕ) → first_of (listed_below f n) ≡ first_below (λ k. first_of (f k)) n
first_listed f zero = refl
first_listed f (suc n) = first_append (listed_below f n) (f n) ∙ ap (λ o. earlier o (first_of (f n))) (first_listed f n)

first_but : (b : Bool) (xs : List WideCell) (o : Option WideCell) → first_of xs ≡ o → first_of (cond b [] xs) ≡ cond b None o
first_but true xs o e = refl
first_but false xs o e = e

-- each but the one at j
first_others : (f : ℕ → List WideCell) (g : ℕ → Option WideCell) (j n : ℕ) → ((k : ℕ) → first_of (f k) ≡ g k) → first_of (listed_others f j n) ≡ first_below (λ k. cond (eqb k j) None (g k)) n
first_others f g j n e =
    first_listed (λ k. cond (eqb k j) [] (f k)) n
    ∙ first_same (λ k. first_of (cond (eqb k j) [] (f k))) (λ k. cond (eqb k j) None (g k)) n (λ k h. first_but (eqb k j) (f k) (g k) (e k))

-- ---- of a pivot's list
first_divide : (i j : ℕ) (c : List ℚ) → first_of (divide_operations i j c) ≡ divide_refusal i j c
unfolding divide_refusal
first_divide i j c =
    ap (λ o. earlier (refused Div (whole (pos 1)) (get_or c j (whole (pos 0))) i j) o)
    (first_others (λ k. operation Div (get_or c k (whole (pos 0))) (get_or c j (whole (pos 0))) i k ∷ []) (λ k. refused Div (get_or c k (whole (pos 0))) (get_or c j (whole (pos 0))) i k)
    j (length c) (λ k. earlier_none _))

first_cell : (i j : ℕ) (e d : List ℚ) (k : ℕ)
    → first_of (cell_operations i j e d k) ≡ earlier (refused Mul (get_or d j (whole (pos 0))) (get_or e k (whole (pos 0))) i k)
    (refused Sub (get_or d k (whole (pos 0))) (get_or d j (whole (pos 0)) *ℚ get_or e k (whole (pos 0))) i k)
first_cell i j e d k = ap (λ o. earlier (refused Mul (get_or d j (whole (pos 0))) (get_or e k (whole (pos 0))) i k) o) (earlier_none _)

first_clear : (i j : ℕ) (e : List ℚ) (p : ℚ) (d : List ℚ) → first_of (clear_operations i j e p d) ≡ clear_refusal i j e d p
unfolding clear_refusal
first_clear i j e p d =
    first_append (listed_others (cell_operations i j e d) j (length d)) (operation Div (get_or d j (whole (pos 0))) p i j ∷ [])
    ∙ ap₂ earlier
    (first_others (cell_operations i j e d) (λ k. earlier (refused Mul (get_or d j (whole (pos 0))) (get_or e k (whole (pos 0))) i k)
    (refused Sub (get_or d k (whole (pos 0))) (get_or d j (whole (pos 0)) *ℚ get_or e k (whole (pos 0))) i k)) j (length d) (first_cell i j e d))
    (earlier_none _)

first_pivot : (r j : ℕ) (t : Tableau) → first_of (pivot_operations r j t) ≡ pivot_refusal r j t.rows t.goal
unfolding pivot_refusal
first_pivot r j t =
    let e = divided j (line t r) in
    let others = listed_others (λ i. clear_operations i j (divided j (line t r)) (cell t r j) (line t i)) r (height t) in
    first_append (divide_operations r j (line t r)) (clear_operations (height t) j (divided j (line t r)) (cell t r j) t.goal ++ others)
    ∙ ap₂ earlier (first_divide r j (line t r))
    (first_append (clear_operations (height t) j (divided j (line t r)) (cell t r j) t.goal) others
    ∙ ap₂ earlier (first_clear (height t) j (divided j (line t r)) (cell t r j) t.goal)
    (first_others (λ i. clear_operations i j (divided j (line t r)) (cell t r j) (line t i)) (λ i. clear_refusal i j (divided j (line t r)) (line t i) (cell t r j)) r (height t)
    (λ i. first_clear i j (divided j (line t r)) (cell t r j) (line t i))))

-- ---- what a refusal says
same_some : {A : Type 0} (x y : A) → Some x ≡ Some y → x ≡ y
same_some x y e = cc

-- an operation is refused where it leaves 128 bits, and then it is named
pub data Case (o : WideCell) : Type 0 where
  fit : Fits128 o.wide.op o.wide.left o.wide.right → refused o.wide.op o.wide.left o.wide.right o.row o.col ≡ None → Case o
  gone : Past128 o.wide.op o.wide.left o.wide.right → refused o.wide.op o.wide.left o.wide.right o.row o.col ≡ Some o → Case o

case_of : (o : WideCell) → Case o
unfolding refused
case_of o = by_test (is_past o.wide.op o.wide.left o.wide.right) refl
  where
    by_test : (b : Bool) → is_past o.wide.op o.wide.left o.wide.right ≡ b → Case o
    by_test true e =
        let n : Past128 o.wide.op o.wide.left o.wide.right = λ h. true≢false (sym e ∙ within o.wide.op o.wide.left o.wide.right h) in
        gone n (ap (at_cell o.row o.col) (past_some o.wide.op o.wide.left o.wide.right n))
    by_test false e = let h = fits_within o.wide.op o.wide.left o.wide.right e in fit h (ap (at_cell o.row o.col) (past_none o.wide.op o.wide.left o.wide.right h))

none_fit : (list : List WideCell) → first_of list ≡ None → AllFit list
none_fit [] e = tt
none_fit (o ∷ os) e = let n = neither _ (first_of os) e in by_case (case_of o) n.0 (none_fit os n.1)
  where
    by_case : Case o → refused o.wide.op o.wide.left o.wide.right o.row o.col ≡ None → AllFit os → AllFit (o ∷ os)
    by_case (fit h k) n f = (h, f)
    by_case (gone h k) n f = some_not_none (sym k ∙ n)

fit_none : (list : List WideCell) → AllFit list → first_of list ≡ None
fit_none [] h = refl
fit_none (o ∷ os) h = ap₂ earlier (refused_none o.wide.op o.wide.left o.wide.right o.row o.col h.0) (fit_none os h.1)

some_first : (list : List WideCell) (w : WideCell) → first_of list ≡ Some w → IsFirstPast list w
some_first [] w e = some_not_none (sym e)
some_first (o ∷ os) w e = by_case (case_of o) (λ q. some_first os w q)
  where
    by_case : Case o → (first_of os ≡ Some w → IsFirstPast os w) → IsFirstPast (o ∷ os) w
    by_case (fit h k) rest =
        let f = rest (sym (ap (λ q. earlier q (first_of os)) k) ∙ e) in
        record { before = o ∷ f.before; after = f.after; parts = ap (λ xs. o ∷ xs) f.parts; fit = (h, f.fit); past = f.past }
    by_case (gone n k) rest =
        let q : o ≡ w = same_some o w (sym (ap (λ q. earlier q (first_of os)) k) ∙ e) in
        record { before = []; after = os; parts = ap (λ x. x ∷ os) q; fit = tt; past = subst (λ x. Past128 x.wide.op x.wide.left x.wide.right) q n }

first_some : (before after : List WideCell) (w : WideCell) → AllFit before → Past128 w.wide.op w.wide.left w.wide.right → first_of (before ++ w ∷ after) ≡ Some w
first_some [] after w h n = by_case (case_of w)
  where
    by_case : Case w → earlier (refused w.wide.op w.wide.left w.wide.right w.row w.col) (first_of after) ≡ Some w
    by_case (fit k e) = absurd (n k)
    by_case (gone k e) = ap (λ q. earlier q (first_of after)) e
first_some (o ∷ os) after w h n = ap₂ earlier (refused_none o.wide.op o.wide.left o.wide.right o.row o.col h.0) (first_some os after w h.1 n)

pub first_is_refused : (r j : ℕ) (t : Tableau) → IsRefusalOf (pivot_operations r j t) (pivot_refusal r j t.rows t.goal)
first_is_refused r j t =
    let e = first_pivot r j t in
    record {
      named = λ o. (λ q. some_first (pivot_operations r j t) o (e ∙ q), λ f. sym e ∙ ap first_of f.parts ∙ first_some f.before f.after o f.fit f.past);
      none = (λ q. none_fit (pivot_operations r j t) (e ∙ q), λ f. sym e ∙ fit_none (pivot_operations r j t) f);
    }
