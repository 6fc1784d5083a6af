-- What is made of the moves: the best of them, of equally good ones the first.
use Rattle.std.proofs.Common.{◌≡◌, ℕ, ◌+◌, ◌-◌, ◌<◌, ◌≤◌, List, [], ◌∷◌, ◌++◌, length, refl, sym, ◌∙◌, ap, subst, arith, Option, Some, None, All, map, append_assoc}
use Rattle.std.specs.Prelude.{IfOk, Result, Ok, Err}
use Rattle.std.specs.List.{range_with_len}
use Rattle.std.proofs.lemmas.List.{ext_get_or, append-nil}
use Rattle.std.proofs.lemmas.List.Elements.{All-append, All-push, All-contains}
use Rattle.std.proofs.lemmas.List.FromFn.{map-range_with_len_more}
use Rattle.progression.specs.Street.{Street}
use Rattle.progression.specs.BaseRecord.{BaseRecord}
use Rattle.artery_model.specs.Valid.{IsValid}
use Rattle.second_plan.specs.declared.seconds.Rounded.{Rounded}
use Rattle.whole_offsets.proofs.Same.{no_better_plan}
use Rattle.whole_offsets.proofs.Scores.{better_trans, better_over}
use Rattle.whole_offsets.specs.Offsets.{IsPlanOf}
use Rattle.whole_offsets.specs.Moves.{IsMoved, moves, moves_by, stop_of}
use Rattle.whole_offsets.specs.Score.{IsBetter}
use Rattle.whole_offsets.specs.Tried.{IsTried, IsAfter, HasPlan, IsMade, IsMadeWith, NoMoveIsBetter}
use Rattle.whole_offsets.specs.declared.moves.Move.{Move}
use Rattle.whole_offsets.specs.declared.moves.Reach.{Reach}
use Rattle.whole_offsets.specs.declared.plan.Tried.{Tried}
use Rattle.whole_offsets.specs.declared.score.Score.{Score}

one_moved : (k : ℕ) (offsets : List ℕ) (m : Move) (others us : List ℕ) → IsMoved k offsets m others → IsMoved k offsets m us → others ≡ us
one_moved k offsets m others us h g =
    let long = h.as_many in
    ext_get_or 0 others us (h.as_many ∙ sym g.as_many) (λ i l. let n : i < length offsets = omega (arith, long, l) in h.each i n ∙ sym (g.each i n))

none_in : {X : Type 0} (P : X → Type 0) → All P []
none_in P i d l = absurd (omega arith)

each_of : {X : Type 0} (P Q : X → Type 0) (xs : List X) → ((x : X) → P x → Q x) → All P xs → All Q xs
each_of P Q xs f h i d l = f _ (h i d l)

-- of what a call that may fail answers
pub ok_map : {A E : Type 0} (P Q : A → Type 0) (r : Result A E) → ((x : A) → P x → Q x) → IfOk r P → IfOk r Q
ok_map P Q (Ok x) f h = f x h
ok_map P Q (Err e) f h = tt

-- the moves by a step from the places before one
abbrev pub before : Reach → ℕ → ℕ → ℕ → List Move
before reach step n start = map (λ from. record { start = from; stop = stop_of reach from n; step = step }) (range_with_len 1 (start - 1))

module _ (a : Street) (t : BaseRecord) (there : Tried) where
  abbrev Has : (Score → Type 0) → Move → Type 0
  Has = HasPlan a t there

  abbrev Beats : Score → Move → Type 0
  Beats s = Has (λ r. IsBetter s r)

  abbrev Bears : Score → Move → Type 0
  Bears s = Has (λ r. ¬ IsBetter r s)

  such : (P Q : Score → Type 0) → ((s : Score) → P s → Q s) → (ms : List Move) → All (Has P) ms → All (Has Q) ms
  such P Q f ms h = each_of (Has P) (Has Q) ms (λ m x. (x.0, (x.1.0, f x.0.score x.1.1))) h

  -- ---- one move more
  module _ (m : Move) (found : Tried) (after : IsAfter a t there m found) where
    pub none_stays : ¬ IsBetter found.score there.score → IsMadeWith a t there (m ∷ []) None None
    none_stays n ms h = All-push (Bears there.score) ms m h (found, (after, n))

    -- it is better than all before it
    last_best : (ms : List Move) → All (Beats found.score) ms → IsBetter found.score there.score → IsMade a t there (ms ++ m ∷ []) (Some found)
    last_best ms h b = (
      record { before = ms; move = m; after = []; moves_are = refl; plan = after; earlier = h; later = none_in (Bears found.score) },
      b,
    )

    pub first_better : IsBetter found.score there.score → IsMadeWith a t there (m ∷ []) None (Some found)
    first_better b ms h = last_best ms (such (λ s. ¬ IsBetter s there.score) (λ s. IsBetter found.score s) (λ s n. better_over found.score s there.score b n) ms h) b

    pub better_takes : (best : Tried) → IsBetter found.score best.score → IsMadeWith a t there (m ∷ []) (Some best) (Some found)
    better_takes best b ms (f, c) =
        let early = such (λ s. IsBetter best.score s) (λ s. IsBetter found.score s) (λ s g. better_trans found.score best.score s b g) f.before f.earlier in
        let late = such (λ s. ¬ IsBetter s best.score) (λ s. IsBetter found.score s) (λ s n. better_over found.score s best.score b n) f.after f.later in
        let one : All (Beats found.score) (f.move ∷ []) = All-push (Beats found.score) [] f.move (none_in (Beats found.score)) (best, (f.plan, b)) in
        let here : All (Beats found.score) (f.move ∷ f.after) = All-append (Beats found.score) (f.move ∷ []) f.after one late in
        let all = All-append (Beats found.score) f.before (f.move ∷ f.after) early here in
        last_best ms (subst (λ l. All (Beats found.score) l) (sym f.moves_are) all) (better_trans found.score best.score there.score b c)

    pub best_stays : (best : Tried) → ¬ IsBetter found.score best.score → IsMadeWith a t there (m ∷ []) (Some best) (Some best)
    best_stays best n ms (f, c) = (
      record {
        before = f.before;
        move = f.move;
        after = f.after ++ m ∷ [];
        moves_are = ap (λ l. l ++ m ∷ []) f.moves_are ∙ append_assoc f.before (f.move ∷ f.after) (m ∷ []);
        plan = f.plan;
        earlier = f.earlier;
        later = All-push (Bears best.score) f.after m f.later (found, (after, n));
      },
      c,
    )

  -- ---- more of them, one list after another
  pub no_more : (best : Option Tried) → IsMadeWith a t there [] best best
  no_more best ms h = subst (λ l. IsMade a t there l best) (sym (append-nil ms)) h

  pub then : (first second : List Move) (x y z : Option Tried) → IsMadeWith a t there first x y → IsMadeWith a t there second y z → IsMadeWith a t there (first ++ second) x z
  then first second x y z h g ms made = subst (λ l. IsMade a t there l z) (append_assoc ms first second) (g (ms ++ first) (h ms made))

  pub from_none : (all : List Move) (best : Option Tried) → IsMadeWith a t there all None best → IsMade a t there all best
  from_none all best h = h [] (none_in (Bears there.score))

  pub one_place_more : (reach : Reach) (step n start stop : ℕ) (x y z : Option Tried) → 1 ≤ start → stop ≡ stop_of reach start n → IsMadeWith a t there (before reach step n start) x y
      → IsMadeWith a t there (record { start = start; stop = stop; step = step } ∷ []) y z → IsMadeWith a t there (before reach step n (start + 1)) x z
  one_place_more reach step n start stop x y z some e h g =
      let move : ℕ → Move = λ from. record { start = from; stop = stop_of reach from n; step = step } in
      let more = map-range_with_len_more move 1 (start - 1) start (omega (arith, some)) in
      let long : start - 1 + 1 ≡ start + 1 - 1 = omega (arith, some) in
      let list : before reach step n start ++ move start ∷ [] ≡ before reach step n (start + 1) = sym more ∙ ap (λ l. map move (range_with_len 1 l)) long in
      subst (λ l. IsMadeWith a t there l x z) list
      (then (before reach step n start) (move start ∷ []) x y z h (subst (λ s. IsMadeWith a t there (record { start = start; stop = s; step = step } ∷ []) y z) e g))

  pub to_the_end : (reach : Reach) (step n start : ℕ) (x z : Option Tried) → start - 1 ≡ n - 1 → IsMadeWith a t there (before reach step n start) x z → IsMadeWith a t there (moves_by reach step n) x z
  to_the_end reach step n start x z e h =
      subst (λ l. IsMadeWith a t there (map (λ from. record { start = from; stop = stop_of reach from n; step = step }) (range_with_len 1 l)) x z) e h

  -- ---- the plan of a move
  pub after_of : {E : Type 0} (m : Move) (rounded : Rounded) (r : Result Tried E) → rounded.seconds ≡ there.rounded.seconds
      → IsMoved there.rounded.seconds there.rounded.offsets.items m rounded.offsets.items → IfOk r (λ x. IsTried a t rounded.seconds x) → IfOk r (λ x. x.rounded ≡ rounded)
      → IfOk r (λ x. IsAfter a t there m x)
  after_of m rounded (Ok x) e moved h g = record {
    moved = subst (λ (q : Rounded). IsMoved there.rounded.seconds there.rounded.offsets.items m q.offsets.items) (sym g) moved;
    tried = subst (λ j. IsTried a t j x) e h;
  }
  after_of m rounded (Err f) e moved h g = tt

  -- ---- no move is better
  pub none_better : IsValid a → IsTried a t there.rounded.seconds there → IsMade a t there (moves there.rounded.seconds (length there.rounded.offsets.items)) None
      → NoMoveIsBetter a t there.rounded.seconds there
  none_better valid was h other q (m, (is, moved)) p =
      let (x, (after, n)) = All-contains (Bears there.score) (moves there.rounded.seconds (length there.rounded.offsets.items)) m h is in
      let same : x.rounded.offsets.items ≡ other = one_moved there.rounded.seconds there.rounded.offsets.items m x.rounded.offsets.items other after.moved moved in
      no_better_plan a valid t there.rounded.seconds there.rounded.offsets.items other q x.timing there.timing x.score there.score p
      (subst (λ l. IsPlanOf a t there.rounded.seconds l x.timing) same after.tried.plan) was.plan after.tried.score_is was.score_is n
