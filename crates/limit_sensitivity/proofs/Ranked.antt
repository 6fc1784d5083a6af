-- The ranking of one more.
use Rattle.std.proofs.Common.{◌≡◌, ℕ, ◌+◌, ◌<◌, List, [], ◌∷◌, ◌++◌, length, take, get_or, refl, sym, ◌∙◌, ap}
use Rattle.rational_theory.specs.Rational.{ℚ}
use Rattle.limit_sensitivity.specs.declared.ranking.RankedChange.{RankedChange}
use Rattle.limit_sensitivity.specs.Report.{with_one, ranked_onto}
use Rattle.limit_sensitivity.proofs.Matched.{one_more}

ranked_more : (base : ℚ) (others xs : List RankedChange) (x : RankedChange) → ranked_onto base others (xs ++ x ∷ []) ≡ with_one base x (ranked_onto base others xs)
ranked_more base others [] x = refl
ranked_more base others (y ∷ xs) x = ranked_more base (with_one base y others) xs x

pub next_ranked : (base : ℚ) (xs : List RankedChange) (i : ℕ) (x : RankedChange) → i < length xs → x ≡ get_or xs i x
    → ranked_onto base [] (take (i + 1) xs) ≡ with_one base x (ranked_onto base [] (take i xs))
next_ranked base xs i x lt is = ap (ranked_onto base []) (sym (one_more xs i x lt is)) ∙ ranked_more base [] (take i xs) x

pub list_next : (base : ℚ) (xs list now : List RankedChange) (i : ℕ) (x y : RankedChange) → i < length xs → x ≡ get_or xs i x → y ≡ x
    → now ≡ with_one base y list → list ≡ ranked_onto base [] (take i xs)
    → now ≡ ranked_onto base [] (take (i + 1) xs)
list_next base xs list now i x y lt is same put so = put ∙ ap (λ z. with_one base z list) same ∙ ap (with_one base x) so ∙ sym (next_ranked base xs i x lt is)
