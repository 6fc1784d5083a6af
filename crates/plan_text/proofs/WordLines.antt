-- Lines of words, and texts of many lines.
use Rattle.std.proofs.Common.{◌≡◌, ℕ, ◌+◌, ◌≤◌, true, List, [], ◌∷◌, ◌++◌, length, Option, Some, None, Ok, refl, sym, ap, ◌∙◌, append-nil, length-append, arith}
use Rattle.std.specs.List.{AllByRecursion}
use Rattle.certificate_model.specs.Words.{words, after_space, line_of}
use Rattle.plan_text.specs.Spelling.{ended}
use Rattle.plan_text.specs.Lines.{line_at, words_at}
use Rattle.plan_text.specs.CertificateReading.{or_number}
use Rattle.plan_text.proofs.Cuts.{words_one, words_more}
use Rattle.plan_text.proofs.Pieces.{lacks, lacks_append, cut_lacking, cut_again, joined_words}
use Rattle.plan_text.proofs.Fields.{bind_ok, moved, ok_is, line_takes, line_again, IsKey}

pub number_ok : {A : Type 0} (line : ℕ) (o : Option A) (x : A) → or_number line o ≡ Ok x → o ≡ Some x
number_ok line None x e = absurd cc
number_ok line (Some y) x e = ap (λ z. Some z) (ok_is y x e)

-- ---- a line of words

abbrev pub AreWords : List (List ℕ) → Type 0
AreWords ws = AllByRecursion IsKey ws

pub words_take : (line : ℕ) (bytes : List ℕ) (x : List (List ℕ) × List ℕ) → words_at line bytes ≡ Ok x → bytes ≡ line_of x.0 ++ 10 ∷ x.1
unfolding words_at
words_take line bytes x e =
    let a = bind_ok (line_at line bytes) (λ l. Ok (words l.0, l.1)) x e in
    moved (λ (y : List (List ℕ) × List ℕ). bytes ≡ line_of y.0 ++ 10 ∷ y.1) (words a.0.0, a.0.1) x a.2
    (line_takes line bytes a.0 a.1 ∙ ap (λ (y : List ℕ). y ++ 10 ∷ a.0.1) (sym (joined_words a.0.0)))

pub words_read : (line : ℕ) (bytes text rest : List ℕ) (ws : List (List ℕ)) → line_at line bytes ≡ Ok (text, rest) → ws ≡ words text → words_at line bytes ≡ Ok (ws, rest)
unfolding words_at
words_read line bytes text rest ws l w = rw (l, w) refl

-- what follows a line is shorter
pub words_shorter : (line : ℕ) (bytes : List ℕ) (x : List (List ℕ) × List ℕ) → words_at line bytes ≡ Ok x → length x.1 + 1 ≤ length bytes
words_shorter line bytes x e = omega (arith, ap length (words_take line bytes x e), length-append (line_of x.0) (10 ∷ x.1))

words_of_line : (w : List ℕ) (ws : List (List ℕ)) → AreWords (w ∷ ws) → words (line_of (w ∷ ws)) ≡ w ∷ ws
words_of_line w [] k = rw (append-nil w) (words_one w (cut_lacking 32 w k.0.spaces))
words_of_line w (v ∷ vs) k =
    words_more (w ++ 32 ∷ line_of (v ∷ vs)) w (line_of (v ∷ vs)) (cut_again 32 w (line_of (v ∷ vs)) k.0.spaces) ∙ ap (λ (y : List (List ℕ)). w ∷ y) (words_of_line v vs k.1)

no_feed_after : (ws : List (List ℕ)) → AreWords ws → lacks 10 (after_space ws) ≡ true
no_feed_after [] k = refl
no_feed_after (w ∷ ws) k = lacks_append 10 w (after_space ws) k.0.feeds (no_feed_after ws k.1)

no_feed : (w : List ℕ) (ws : List (List ℕ)) → AreWords (w ∷ ws) → lacks 10 (line_of (w ∷ ws)) ≡ true
no_feed w ws k = lacks_append 10 w (after_space ws) k.0.feeds (no_feed_after ws k.1)

pub words_again : (line : ℕ) (w : List ℕ) (ws : List (List ℕ)) (rest : List ℕ) → AreWords (w ∷ ws) → words_at line (line_of (w ∷ ws) ++ 10 ∷ rest) ≡ Ok (w ∷ ws, rest)
unfolding words_at
words_again line w ws rest k = rw (line_again line (line_of (w ∷ ws)) rest (no_feed w ws k), words_of_line w ws k) refl

-- ---- many lines

-- lines, each ended, and what follows
abbrev pub ended_and : List (List ℕ) → List ℕ → List ℕ
ended_and [] rest = rest
ended_and (line ∷ lines) rest = line ++ 10 ∷ ended_and lines rest

pub ended_is : (lines : List (List ℕ)) → ended_and lines [] ≡ ended lines
ended_is [] = refl
ended_is (line ∷ lines) = ap (λ (y : List ℕ). line ++ 10 ∷ y) (ended_is lines)

pub ended_more : (first second : List (List ℕ)) (rest : List ℕ) → ended_and (first ++ second) rest ≡ ended_and first (ended_and second rest)
ended_more [] second rest = refl
ended_more (line ∷ lines) second rest = ap (λ (y : List ℕ). line ++ 10 ∷ y) (ended_more lines second rest)
