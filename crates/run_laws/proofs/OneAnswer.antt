-- Files that tell their bytes, and the words, leave one answer.
use Rattle.std.proofs.Common.{◌≡◌, ℕ, List, [], ◌∷◌, Option, Some, None, inl, inr, sym, ◌∙◌, subst}
use Rattle.description_reader.specs.Printed.{OneText}
use Rattle.time_space.specs.Failing.{FailsRulesOut}
use Rattle.time_space.specs.FirstFailing.{OneFirst}
use Rattle.certificate_checker.specs.Laws.{RefusedIsNotAccepted, OneFirstRefusal}
use Rattle.link_proof.specs.LinkLaws.{LinkRefusedIsNotAccepted, OneFirstLinkRefusal}
use Rattle.band_measure.specs.Pairs.{FinerPairs}
use Rattle.band_measure.specs.Widest.{OneWidest}
use Rattle.typed_plan.specs.Ends.{OneTiming}
use Rattle.half_integer.specs.Answers.{OneEnd}
use Rattle.second_plan.specs.Ends as second
use Rattle.second_plan.specs.Ends.{PlanOrEnd, OnePlan}
use Rattle.std.specs.Prelude.{if◌then◌else◌}
use Rattle.run_inputs.specs.Puts.{NamedBytes, put_of}
use Rattle.run_inputs.specs.Reading.{inputs, Values, StopsReading}
use Rattle.run_inputs.specs.declared.reader.ReadAs.{ReadAs}
use Rattle.run_commands.specs.Table.{row, readers, Finds}
use Rattle.run_commands.specs.Words.{Request, request_of}
use Rattle.maxband_run.specs.Run.{question}
use Rattle.run_laws.specs.Laws.{SameBytes, Same, IsChosen, AnswersAgree, OneAnswer}
use Rattle.run_inputs.specs.declared.cause.Cause.{Cause}
use Rattle.run_laws.proofs.Readers.{OneReading, one_stop, all_apart, same_values}
use Rattle.run_laws.proofs.Once.{put_same, lines_alike, Alike, finds_once, stops_agree, agree_by}
use Rattle.run_laws.proofs.Asking.{PutsAsAsked, words_put}

-- where there is no file no reading stops
some_file : (held : List ℕ → Option (List ℕ)) (before after : List ℕ → ℕ) (rs : List ReadAs) (names : List (List ℕ)) (c : Cause) (l : List ℕ)
    → StopsReading (inputs rs names) 1 held before after c l → rs ≡ [] → ⊥
some_file held before after [] names c l h e = h
some_file held before after (r ∷ rs) names c l h e = absurd cc

-- what is put is as the command puts it
same_of : (r : Request) (c d : Cause) (x y : List ℕ) (p q : Option NamedBytes) (s t : Option (List ℕ)) → PutsAsAsked (Some r) → p ≡ put_of r.output s → q ≡ put_of r.output t
    → Alike r.usage (if (row r.usage).puts then r.output else None) c d x y s t → Same (Some r) c x p d y q
same_of r c d x y p q s t puts e f h =
    let put = subst (λ (o : Option (List ℕ)). SameBytes r.usage (put_of o s) (put_of o t)) puts h.put in
    record {
      cause = h.cause;
      lines = h.lines;
      put = subst (λ (z : Option NamedBytes). SameBytes r.usage p z) (sym f) (subst (λ (z : Option NamedBytes). SameBytes r.usage z (put_of r.output t)) (sym e) put);
    }

module _ (reader : OneReading) (one_text : OneText) (one_first : OneFirst) (rules : FailsRulesOut) (apart : RefusedIsNotAccepted) (once : OneFirstRefusal) (widest : OneWidest) (finer : FinerPairs)
    (one_timing : OneTiming) (ends : OneEnd) (plan_ends : second.OneEnd) (plan_or : PlanOrEnd) (one_plan : OnePlan) (links_apart : LinkRefusedIsNotAccepted) (links_once : OneFirstLinkRefusal) where
  module _ (held : List ℕ → Option (List ℕ)) (before after : List ℕ → ℕ) where
    one_for : (asked : Option Request) → PutsAsAsked asked → AnswersAgree held before after asked (question asked)
    one_for None puts c d x y p q told n m (inl h) k = absurd h.stops
    one_for None puts c d x y p q told n m (inr h) (inl k) = absurd k.stops
    one_for None puts c d x y p q told n m (inr h) (inr k) = record {
      cause = h.finds.0 ∙ sym k.finds.0;
      lines = h.finds.1 ∙ sym k.finds.1;
      put = h.put_is ∙ sym k.put_is;
    }
    one_for (Some r) puts c d x y p q told n m (inl h) (inl k) =
        let e = one_stop reader held before after (inputs (readers r.usage) r.reads) 1 c d x y told n m h.stops k.stops in
        stops_agree (row r.usage).chooses (readers r.usage) (Same (Some r) c x p d y q) (IsChosen r.usage c × IsChosen r.usage d) (some_file held before after (readers r.usage) r.reads c x h.stops)
        (record { cause = e.0; lines = lines_alike r.usage c x y e.1; put = put_same (Some r) p q (h.no_put ∙ sym k.no_put) })
    one_for (Some r) puts c d x y p q told n m (inl h) (inr k) = absurd (all_apart reader held before after (readers r.usage) r.reads 1 k.values c x told n k.read h.stops)
    one_for (Some r) puts c d x y p q told n m (inr h) (inl k) = absurd (all_apart reader held before after (readers r.usage) r.reads 1 h.values d y told m h.read k.stops)
    one_for (Some r) puts c d x y p q told n m (inr h) (inr k) =
        let e = same_values reader held before after (readers r.usage) r.reads h.values k.values told h.read k.read in
        let found = subst (λ (v : Values (readers r.usage)). Finds r.usage v r.settings c x h.bytes) e h.finds.finds in
        let agree = finds_once reader one_text one_first rules apart once widest finer one_timing ends plan_ends plan_or one_plan links_apart links_once
        r.usage r.settings r.output k.values c d x y h.bytes k.bytes found k.finds.finds in
        agree_by (row r.usage).chooses (readers r.usage) (Alike r.usage (if (row r.usage).puts then r.output else None) c d x y h.bytes k.bytes) (Same (Some r) c x p d y q)
        (IsChosen r.usage c × IsChosen r.usage d)
        (same_of r c d x y p q h.bytes k.bytes puts h.put_is k.put_is) agree

  pub one_answer : OneAnswer
  one_answer held before after words = one_for held before after (request_of words) (words_put words)
