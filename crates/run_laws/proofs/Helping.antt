-- What `--help` says.
use Rattle.std.proofs.Common.{◌≡◌, ℕ, ◌-◌, length, replicate, List, [], ◌∷◌, ◌++◌, codes, Bool, true, false, Option, Some, None, map, flat_map, ◌⊎◌, inl, inr, refl, sym, ◌∙◌, ap, subst, append_assoc}
use Rattle.std.specs.Prelude.{option_map, option_and_then, if◌then◌else◌}
use Rattle.std.specs.Str.{bytes_eq}
use Rattle.std.proofs.lemmas.Slice.Eq.{bytes_eq-Decides}
use Rattle.outer_edge.specs.Taken.{Appends}
use Rattle.run_inputs.specs.Labels.{Label}
use Rattle.run_inputs.specs.Status.{number_of}
use Rattle.run_inputs.specs.declared.cause.Cause.{Cause}
use Rattle.run_commands.specs.Help.{statuses_line}
use Rattle.run_commands.specs.Rows.{Row, Page}
use Rattle.run_commands.specs.Pages.{file_label, put_labels, each_word, name_text}
use Rattle.run_commands.specs.Settings.{setting_label, unsaid}
use Rattle.run_commands.specs.Table.{row, page, line_of}
use Rattle.run_commands.specs.Words.{named, all_said, Request, request, request_of}
use Rattle.run_commands.specs.declared.table.Usage.{Usage}
use Rattle.run_commands.specs.declared.table.Usage.TheVariants as usage
use Rattle.run_commands.specs.declared.table.TheConstants.{USAGES}
use Rattle.maxband_run.specs.Outside.{Outside}
use Rattle.maxband_run.specs.Run.{question, Ends}
use Rattle.run_laws.specs.Asked as ask
use Rattle.run_laws.specs.Laws.{IsNamedBy, TellsUsage, TellsCommand, HelpSays}
use Rattle.run_laws.proofs.Asking.{asked_by}
use Rattle.run_laws.proofs.Found.{found_done}

-- it is one of them
abbrev pub IsOf : List Usage → Usage → Type 0
IsOf [] u = ⊥
IsOf (v ∷ vs) u = (v ≡ u) ⊎ IsOf vs u

-- what stands before the line of one of them, and behind
pub around : (f : Usage → List ℕ) (us : List Usage) (u : Usage) → IsOf us u → (front : List ℕ) × (back : List ℕ) × (flat_map f us ≡ front ++ (f u ++ back))
around f [] u h = absurd h
around f (v ∷ vs) u (inl e) = ([], flat_map f vs, ap (λ w. f w ++ flat_map f vs) e)
around f (v ∷ vs) u (inr h) = let r = around f vs u h in (f v ++ r.0, r.1, ap (λ t. f v ++ t) r.2 ∙ sym (append_assoc (f v) r.0 (f u ++ r.1)))

-- the command that a word names is one of them, and has this word
named_first : (b : Bool) (v : Usage) (w : List ℕ) (vs : List Usage) (u : Usage) → bytes_eq (row v).word w ≡ b → (if b then Some v else named vs w) ≡ Some u
    → (named vs w ≡ Some u → IsOf vs u × ((row u).word ≡ w)) → ((v ≡ u) ⊎ IsOf vs u) × ((row u).word ≡ w)
named_first true v w vs u b e h =
    let is : v ≡ u = cc in
    (inl is, ap (λ (x : Usage). (row x).word) (sym is) ∙ (bytes_eq-Decides (row v).word w).0 b)
named_first false v w vs u b e h = let r = h e in (inr r.0, r.1)

pub named_is_one : (us : List Usage) (w : List ℕ) (u : Usage) → named us w ≡ Some u → IsOf us u × ((row u).word ≡ w)
named_is_one [] w u e = absurd cc
named_is_one (v ∷ vs) w u e = named_first (bytes_eq (row v).word w) v w vs u refl e (named_is_one vs w u)

-- ---- the line of a command
-- a text that begins with a blank
abbrev Starts : List ℕ → Type 0
Starts t = (more : List ℕ) × (t ≡ 32 ∷ more)

starts : (ls : List Label) (t : List ℕ) → Starts t → Starts (flat_map name_text ls ++ t)
starts [] t h = h
starts (l ∷ ls) t h = ((l.name ++ flat_map name_text ls) ++ t, refl)

-- the names of all words, and what begins with a blank
words_start : (r : Row) (p : Page) (t : List ℕ) → Starts t → Starts (each_word name_text r p ++ t)
words_start r p t h =
    let files = map file_label r.reads in
    let settings = map setting_label r.settings in
    let rest = starts (put_labels r p) (flat_map name_text settings ++ t) (starts settings t h) in
    let all = starts files (flat_map name_text (put_labels r p) ++ (flat_map name_text settings ++ t)) rest in
    let is : each_word name_text r p ++ t ≡ flat_map name_text files ++ (flat_map name_text (put_labels r p) ++ (flat_map name_text settings ++ t)) =
    append_assoc (flat_map name_text files) (flat_map name_text (put_labels r p) ++ flat_map name_text settings) t
    ∙ ap (λ y. flat_map name_text files ++ y) (append_assoc (flat_map name_text (put_labels r p)) (flat_map name_text settings) t) in
    (all.0, is ∙ all.1)

line_named : (u : Usage) → IsNamedBy (line_of u) (row u).word
line_named u =
    let r = row u in
    let names = each_word name_text r (page u) in
    let asked = codes "maxband " ++ (r.word ++ names) in
    let blanks = replicate (46 - length (asked ++ codes " ")) 32 in
    let end = r.does ++ codes "\n" in
    let tail = codes " " ++ (blanks ++ end) in
    let s = words_start r (page u) tail (blanks ++ end, refl) in
    let is : line_of u ≡ codes "maxband " ++ (r.word ++ (names ++ tail)) =
    append_assoc (asked ++ codes " ") blanks end
    ∙ append_assoc asked (codes " ") (blanks ++ end)
    ∙ append_assoc (codes "maxband ") (r.word ++ names) tail
    ∙ ap (λ y. codes "maxband " ++ y) (append_assoc r.word names tail) in
    record { more = s.0; is = is ∙ ap (λ y. codes "maxband " ++ (r.word ++ y)) s.1 }

-- ---- what is written
all_told : (before now : Outside) (word : List ℕ) (words : List (List ℕ)) (asked : Request) (c : Cause)
    → Ends before now (ask.asked usage.Help [] None unsaid) c → number_of c ≡ 0 → request_of (word ∷ words) ≡ Some asked → TellsUsage before now asked word
all_told before now word words asked c h e k =
    let f = found_done before now (ask.asked usage.Help [] None unsaid) c e h in
    let by = asked_by word words asked k in
    let one = named_is_one USAGES word by.usage by.named_is in
    let l = around line_of USAGES by.usage one.0 in
    let whole = f.answer.finds.finds.1 ∙ ap (λ t. t ++ statuses_line) l.2 ∙ append_assoc l.0 (line_of by.usage ++ l.1) statuses_line
    ∙ ap (λ t. l.0 ++ t) (append_assoc (line_of by.usage) l.1 statuses_line) in
    let is : by.usage ≡ asked.usage = sym by.asked.usage_is in
    let back = l.1 ++ statuses_line in
    record {
      front = l.0;
      back = back;
      told = subst (λ (u : Usage). Appends before.taken now.taken (l.0 ++ (line_of u ++ back))) is (subst (λ (t : List ℕ). Appends before.taken now.taken t) whole f.done.written);
      named = subst (λ (u : Usage). IsNamedBy (line_of u) word) is (subst (λ (w : List ℕ). IsNamedBy (line_of by.usage) w) one.1 (line_named by.usage));
    }

-- what `--help` asks for with a word behind it, which names this
abbrev asked_about : Option Usage → Option Request
asked_about o = option_map (request usage.Help [] None) (option_and_then (all_said [] []) (option_map (λ u. record unsaid { about = Some u }) o))

one_about : (before now : Outside) (word : List ℕ) (c : Cause) (o : Option Usage) → named USAGES word ≡ o
    → Ends before now (question (asked_about o)) c → number_of c ≡ 0 → TellsCommand before now word
one_about before now word c None n h e = let f = found_done before now (question None) c e h in let no = f.answer.finds.0 in absurd cc
one_about before now word c (Some u) n h e =
    let f = found_done before now (question (asked_about (Some u))) c e h in
    record {
      command = u;
      word_is = (named_is_one USAGES word u n).1;
      told = subst (λ (t : List ℕ). Appends before.taken now.taken t) f.answer.finds.finds.1 f.done.written;
    }

pub help_says : HelpSays
help_says = record { all = all_told; one = λ before now word c h e. one_about before now word c (named USAGES word) refl h e }
