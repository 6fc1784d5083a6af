-- One element more.
use Rattle.std.proofs.Common.{◌≡◌, ℕ, ◌+◌, ◌<◌, List, [], ◌∷◌, ◌++◌, length, sym, subst, arith, inl, inr}
use Rattle.std.specs.Prelude.{slice_index}
use Rattle.std.proofs.lemmas.Bool.{cases_lt}
use Rattle.std.proofs.lemmas.List.{get_or_append_left, get_or_push, length_push}
use Rattle.progression.specs.Street.{Street}
use Rattle.progression.specs.declared.parts.Dir.{Dir}
use Rattle.free_runs.specs.Street.{AreLimits}
use Rattle.whole_offsets.specs.Lines.{AreLeast}
use Rattle.whole_offsets.specs.Moves.{moved}
use Rattle.whole_offsets.specs.declared.moves.Move.{Move}

pub push_more : (P : ℕ → ℕ → Type 0) (xs : List ℕ) (n v : ℕ) → length xs ≡ n → ((i : ℕ) → i < n → P i (slice_index xs i)) → P n v → (i : ℕ) → i < n + 1 → P i (slice_index (xs ++ v ∷ []) i)
push_more P xs n v long each here i l = elim (cases_lt i n) [
  | inl k ↦ let m : i < length xs = omega arith in subst (P i) (sym (get_or_append_left xs (v ∷ []) 0 i m)) (each i k)
  | inr k ↦ let e : n ≡ i = omega arith in subst (λ j. P j (slice_index (xs ++ v ∷ []) j)) e (subst (P n) (sym (get_or_push xs v 0 n long)) here)
]

pub least_more : (a : Street) (grid : ℕ) (d : Dir) (runs : List ℕ) (n v most : ℕ) → AreLeast a grid d runs n → AreLimits a d grid (n + 1) v most → AreLeast a grid d (runs ++ v ∷ []) (n + 1)
least_more a grid d runs n v most h e = record {
  long = let l = length_push runs v in let m = h.long in omega arith;
  each = push_more (λ i r. (m : ℕ) × AreLimits a d grid (i + 1) r m) runs n v h.long h.each (most, e);
}

-- the first n offsets after a move
pub record AreMoved (k : ℕ) (offsets : List ℕ) (m : Move) (others : List ℕ) (n : ℕ) : Type 0 where
  pub long : length others ≡ n
  pub each : (i : ℕ) → i < n → slice_index others i ≡ moved k offsets m i
  pub below : (i : ℕ) → i < n → slice_index others i < k
