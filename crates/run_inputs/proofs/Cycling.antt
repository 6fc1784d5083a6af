-- Words that spell values of one kind, and these values.
use Rattle.std.proofs.Common.{◌≡◌, ℕ, ◌+◌, ◌<◌, nat_le, ◌&&◌, Bool, true, false, true≢false, List, [], ◌∷◌, ◌++◌, length, map, take, get_or, Option, Some, refl, sym, ◌∙◌, ap, subst}
use Rattle.std.specs.List.{list_all}
use Rattle.std.proofs.lemmas.List.{take_more, map-append, get_or-map, length-map}
use Rattle.std.proofs.lemmas.List.Elements.{All-nil, All-cons}
use Rattle.std.proofs.lemmas.List.Folds.{list_all_at}
use Rattle.std.proofs.lemmas.Slice.Zip.{all_zipped_more}
use Rattle.run_inputs.specs.Cycles.{spells, are_spelled, Spell, AreSpelled, most_cycles}

second_of : (a b : Bool) → (a && b) ≡ true → b ≡ true
second_of true b e = e
second_of false b e = absurd (true≢false (sym e))

first_of : (a b : Bool) → (a && b) ≡ true → a ≡ true
first_of true b e = refl
first_of false b e = absurd (true≢false (sym e))

module _ {V : Type 0} (value : List ℕ → Option V) where
  each_spelled : (words : List (List ℕ)) → list_all (spells value) words ≡ true → Spell value words
  each_spelled [] e = All-nil (λ word. spells value word ≡ true)
  each_spelled (word ∷ words) e =
      All-cons (λ word. spells value word ≡ true) word words (first_of ((spells value) word) (list_all (spells value) words) e)
      (each_spelled words (second_of ((spells value) word) (list_all (spells value) words) e))

  -- words that are cycles spell them
  pub cycles_spelled : (words : List (List ℕ)) → are_spelled value words ≡ true → Spell value words
  cycles_spelled words e =
      each_spelled words
      (second_of (nat_le (length words) most_cycles) (list_all (spells value) words)
      (second_of (nat_le 1 (length words)) (nat_le (length words) most_cycles && list_all (spells value) words) e))

  -- the word at one place
  pub word_spelled : {S : Type 0} (text : S → List ℕ) (words : List S) (i : ℕ) (word : S) → i < length words → word ≡ get_or words i word → Spell value (map text words)
      → spells value (text word) ≡ true
  word_spelled text words i word lt is all =
      let at : get_or (map text words) i [] ≡ text word = get_or-map text words i word [] lt ∙ ap text (sym is) in
      subst (λ (w : List ℕ). spells value w ≡ true) at (all i [] (subst (λ n. i < n) (sym (length-map words text)) lt))

  -- a word that spells no cycle
  pub word_fails : {S : Type 0} (text : S → List ℕ) (words : List S) (i : ℕ) (word : S) → i < length words → word ≡ get_or words i word → spells value (text word) ≡ false
      → list_all (spells value) (map text words) ≡ false
  word_fails text words i word lt is fails =
      let at : get_or (map text words) i [] ≡ text word = get_or-map text words i word [] lt ∙ ap text (sym is) in
      list_all_at (spells value) (map text words) i [] (subst (λ n. i < n) (sym (length-map words text)) lt) (ap (spells value) at ∙ fails)

  -- one more word and its cycle
  pub cycles_more : {S : Type 0} (text : S → List ℕ) (words : List S) (i : ℕ) (word : S) (cycles now : List V) (cycle : V) → i < length words → word ≡ get_or words i word
      → now ≡ cycles ++ cycle ∷ [] → AreSpelled value (map text (take i words)) cycles → value (text word) ≡ Some cycle → AreSpelled value (map text (take (i + 1) words)) now
  cycles_more text words i word cycles now cycle lt is e h k =
      let taken : take (i + 1) words ≡ take i words ++ word ∷ [] = take_more words i word lt ∙ ap (λ w. take i words ++ w ∷ []) (sym is) in
      let mapped : map text (take (i + 1) words) ≡ map text (take i words) ++ text word ∷ [] = ap (map text) taken ∙ map-append text (take i words) (word ∷ []) in
      rw (e, mapped) (all_zipped_more (λ w q. value w ≡ Some q) (map text (take i words)) cycles (text word) cycle h k)
