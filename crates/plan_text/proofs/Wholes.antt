-- Whole texts: how the answers to a text and to the same with more bytes go together, and what follows for the first bad line.
use Rattle.std.proofs.Common.{◌≡◌, ℕ, ◌+◌, ◌<◌, ◌≤◌, Bool, true, false, List, [], ◌∷◌, ◌++◌, Option, None, Some, Result, Ok, Err, refl, sym, ap, subst, ◌∙◌, inl, inr, arith}
use Rattle.std.specs.Prelude.{◌⊎◌, if◌then◌else◌}
use Rattle.std.proofs.lemmas.Bool.{cases_lt}
use Rattle.plan_text.specs.declared.fault.TextFault.TheVariants.{Ended, Shape}
use Rattle.plan_text.specs.declared.fault.BadText.{BadText}
use Rattle.certificate_model.specs.Words.{cut}
use Rattle.plan_text.specs.Spelling.{end_line}
use Rattle.plan_text.specs.Lines.{◌>>=◌, fault, line_or, line_at, fixed_at, nothing_at}
use Rattle.plan_text.specs.FirstBad.{lines_in, StandsUpTo, NamesFirstBad}
use Rattle.plan_text.proofs.Grown.{Part, Grows, Reaches, IsThere, after_line, one_and, line_grows, line_later, fixed_grows, fixed_later}

-- the text ends there: what else is said is said of its next line
abbrev AtEnd : {A : Type 0} → ℕ → Result A BadText → Type 0
AtEnd last (Ok x) = Unit {0}
AtEnd last (Err b) = b.line ≡ last

-- no line before this one is bad
abbrev pub NotBefore : {A : Type 0} → ℕ → Result A BadText → Type 0
NotBefore last (Ok x) = Unit {0}
NotBefore last (Err b) = last ≤ b.line

abbrev pub Whole : {A : Type 0} → ℕ → Result A BadText → Result A BadText → Type 0
Whole last (Ok x) s = AtEnd last s
Whole last (Err b) s = (IsThere b.kind × (b.line < last) × (s ≡ Err b)) ⊎ ((b ≡ record { line = last; kind = Ended }) × NotBefore last s)

-- ---- steps

pub not_before : {X A : Type 0} (p : Part X) (last : ℕ) (r : Result X BadText) (f : X → Result A BadText) → Reaches p last r
    → ((v : X) → last < p.next v → NotBefore last (f v)) → NotBefore last (r >>= f)
not_before p last (Ok v) f here next = next v here
not_before p last (Err b) f here next = here

pub whole_then : {X A : Type 0} (p : Part X) (last : ℕ) (z : List ℕ) (r s : Result X BadText) (f g : X → Result A BadText) → Grows p last z r s
    → ((v : X) → p.next v + lines_in (p.rest v) ≡ last → Whole last (f v) (g (p.more z v))) → ((v : X) → last < p.next v → NotBefore last (g v)) → Whole last (r >>= f) (s >>= g)
whole_then p last z (Ok v) s f g h same next = subst (λ (y : Result _ BadText). Whole last (f v) (y >>= g)) (sym h.1) (same v h.0)
whole_then p last z (Err b) s f g (inl h) same next = inl (h.0, h.1, ap (λ (y : Result _ BadText). y >>= g) h.2)
whole_then p last z (Err b) s f g (inr h) same next = inr (h.0, not_before p last s g h.1 next)

-- what is made of a value
at_end_made : {A B : Type 0} (last : ℕ) (s : Result A BadText) (make : A → B) → AtEnd last s → AtEnd last (s >>= λ x. Ok (make x))
at_end_made last (Ok x) make h = tt
at_end_made last (Err b) make h = h

pub not_before_made : {A B : Type 0} (last : ℕ) (s : Result A BadText) (make : A → B) → NotBefore last s → NotBefore last (s >>= λ x. Ok (make x))
not_before_made last (Ok x) make h = tt
not_before_made last (Err b) make h = h

pub whole_made : {A B : Type 0} (last : ℕ) (r s : Result A BadText) (make : A → B) → Whole last r s → Whole last (r >>= λ x. Ok (make x)) (s >>= λ x. Ok (make x))
whole_made last (Ok x) s make h = at_end_made last s make h
whole_made last (Err b) s make (inl h) = inl (h.0, h.1, ap (λ (y : Result _ BadText). y >>= λ x. Ok (make x)) h.2)
whole_made last (Err b) s make (inr h) = inr (h.0, not_before_made last s make h.1)

-- ---- the end

abbrev Line : Type 0
Line = List ℕ × List ℕ

abbrev more_is_bad : ℕ → Result Line BadText → Result ℕ BadText
more_is_bad line r = r >>= λ l. fault line Shape

more_by : (last line : ℕ) (z : List ℕ) (r s : Result Line BadText) → Grows (one_and (line + 1)) last z r s → Whole last (more_is_bad line r) (more_is_bad line s)
more_by last line z r s h =
    whole_then (one_and (line + 1)) last z r s (λ l. fault line Shape) (λ l. fault line Shape) h (λ l end. inl (tt, omega arith, refl)) (λ l here. omega arith)

at_end_by : (line : ℕ) (o : Option Line) → AtEnd line (more_is_bad line (line_or line o))
at_end_by line None = refl
at_end_by line (Some l) = refl

at_end : (line : ℕ) (z : List ℕ) → AtEnd line (nothing_at line z)
unfolding nothing_at line_at
at_end line [] = tt
at_end line (c ∷ cs) = at_end_by line (cut 10 (c ∷ cs))

pub nothing_whole : (last line : ℕ) (bytes z : List ℕ) → line + lines_in bytes ≡ last → Whole last (nothing_at line bytes) (nothing_at line (bytes ++ z))
unfolding nothing_at
nothing_whole last line [] z e = subst (λ (n : ℕ). AtEnd n (nothing_at line z)) (omega arith) (at_end line z)
nothing_whole last line (b ∷ bs) z e = more_by last line z (line_at line (b ∷ bs)) (line_at line ((b ∷ bs) ++ z)) (line_grows last line (b ∷ bs) z e)

pub nothing_later : (last line : ℕ) (bytes : List ℕ) → last ≤ line → NotBefore last (nothing_at line bytes)
unfolding nothing_at
nothing_later last line [] before = tt
nothing_later last line (b ∷ bs) before = not_before (one_and (line + 1)) last (line_at line (b ∷ bs)) (λ l. fault line Shape) (line_later last line (b ∷ bs) before) (λ l here. before)

-- the line `end`, after which nothing stands
abbrev pub closing : {A : Type 0} → A → ℕ → List ℕ → Result A BadText
closing x line bytes = fixed_at line end_line bytes >>= λ more. nothing_at (line + 1) more >>= λ nothing. Ok x

abbrev nothing_then : {A : Type 0} → A → ℕ → List ℕ → Result A BadText
nothing_then x line bytes = nothing_at line bytes >>= λ nothing. Ok x

pub closing_later : {A : Type 0} (x : A) (last line : ℕ) (bytes : List ℕ) → last ≤ line → NotBefore last (closing x line bytes)
closing_later x last line bytes before =
    not_before (after_line (line + 1)) last (fixed_at line end_line bytes) (nothing_then x (line + 1)) (fixed_later last line end_line bytes before)
    (λ r here. not_before_made last (nothing_at (line + 1) r) (λ n. x) (nothing_later last (line + 1) r (omega arith)))

pub closing_whole : {A : Type 0} (x : A) (last line : ℕ) (bytes z : List ℕ) → line + lines_in bytes ≡ last → Whole last (closing x line bytes) (closing x line (bytes ++ z))
closing_whole x last line bytes z e =
    whole_then (after_line (line + 1)) last z (fixed_at line end_line bytes) (fixed_at line end_line (bytes ++ z)) (nothing_then x (line + 1))
    (nothing_then x (line + 1)) (fixed_grows last line end_line bytes z e)
    (λ r end. whole_made last (nothing_at (line + 1) r) (nothing_at (line + 1) (r ++ z)) (λ n. x) (nothing_whole last (line + 1) r z end))
    (λ r here. not_before_made last (nothing_at (line + 1) r) (λ n. x) (nothing_later last (line + 1) r (omega arith)))

-- ---- a test of a line that was read

pub guard_whole : {A : Type 0} (last line : ℕ) (c : Bool) (r s : Result A BadText) → line < last → Whole last r s → Whole last (if c then r else fault line Shape) (if c then s else fault line Shape)
guard_whole last line true r s before h = h
guard_whole last line false r s before h = inl (tt, before, refl)

pub guard_not_before : {A : Type 0} (last line : ℕ) (c : Bool) (r : Result A BadText) → last ≤ line → NotBefore last r → NotBefore last (if c then r else fault line Shape)
guard_not_before last line true r after h = h
guard_not_before last line false r after h = after

pub chosen_whole : {A : Type 0} (last : ℕ) (c : Bool) (r s t u : Result A BadText) → Whole last r s → Whole last t u → Whole last (if c then r else t) (if c then s else u)
chosen_whole last true r s t u first second = first
chosen_whole last false r s t u first second = second

pub chosen_not_before : {A : Type 0} (last : ℕ) (c : Bool) (r t : Result A BadText) → NotBefore last r → NotBefore last t → NotBefore last (if c then r else t)
chosen_not_before last true r t first second = first
chosen_not_before last false r t first second = second

-- ---- what follows for the first bad line

err_is : {A : Type 0} (b d : BadText) → ◌≡◌ {A = Result A BadText} (Err b) (Err d) → b ≡ d
err_is b d e = cc

module _ {A : Type 0} (last : ℕ) where
  missing_by : (r s : Result A BadText) (line : ℕ) → Whole last r s → r ≡ fault line Ended → line ≡ last
  missing_by (Ok x) s line h e = absurd cc
  missing_by (Err b) s line (inl h) e = absurd (subst (λ (d : BadText). IsThere d.kind) (err_is b (record { line = line; kind = Ended }) e) h.0)
  missing_by (Err b) s line (inr h) e = ap (λ (d : BadText). d.line) (sym (err_is b (record { line = line; kind = Ended }) e) ∙ h.0)

  there_by : (r s : Result A BadText) (b : BadText) → Whole last r s → r ≡ Err b → (b.kind ≡ Ended → ⊥) → b.line < last
  there_by (Ok x) s b h e other = absurd cc
  there_by (Err d) s b (inl h) e other = subst (λ (f : BadText). f.line < last) (err_is d b e) h.1
  there_by (Err d) s b (inr h) e other = absurd (other (ap (λ (f : BadText). f.kind) (sym (err_is d b e) ∙ h.0)))

  before_by : (r s : Result A BadText) (b : BadText) → Whole last r s → s ≡ Err b → last ≤ b.line → StandsUpTo last r
  before_by (Ok x) s b h e after = tt
  before_by (Err d) s b (inl h) e after =
      let is : d.line ≡ b.line = ap (λ (f : BadText). f.line) (err_is d b (sym h.2 ∙ e)) in
      let early = h.1 in
      absurd (omega arith)
  before_by (Err d) s b (inr h) e after = h.0

  here_by : (r s t : Result A BadText) (b : BadText) → Whole last r s → Whole last r t → s ≡ Err b → b.line < last → t ≡ Err b
  here_by (Ok x) s t b h k e early = let is : b.line ≡ last = subst (AtEnd last) e h in absurd (omega arith)
  here_by (Err d) s t b (inl h) (inl k) e early = k.2 ∙ sym h.2 ∙ e
  here_by (Err d) s t b (inl h) (inr k) e early =
      let is : d.line ≡ last = ap (λ (f : BadText). f.line) k.0 in
      let lt = h.1 in
      absurd (omega arith)
  here_by (Err d) s t b (inr h) k e early = let late : last ≤ b.line = subst (NotBefore last) e h.1 in absurd (omega arith)

pub names_first : {A : Type 0} (read : List ℕ → Result A BadText) → ((bytes z : List ℕ) → Whole (lines_in bytes + 1) (read bytes) (read (bytes ++ z))) → read [] ≡ fault 1 Ended → NamesFirstBad read
names_first read whole empty =
    let same : (start rest other : List ℕ) (b : BadText) → read (start ++ rest) ≡ Err b → b.line ≤ lines_in start → read (start ++ other) ≡ Err b
    = λ start rest other b e early. here_by (lines_in start + 1) (read start) (read (start ++ rest)) (read (start ++ other)) b (whole start rest) (whole start other) e (omega arith) in
    record {
      missing = λ text line e. missing_by (lines_in text + 1) (read text) (read (text ++ [])) line (whole text []) e;
      there = λ text b e other.
          let early : b.line < lines_in text + 1 = there_by (lines_in text + 1) (read text) (read (text ++ [])) b (whole text []) e other in
          let first : 1 ≤ b.line = elim (cases_lt b.line 1) [
            | inl lt ↦
                absurd (other (ap (λ (d : BadText). d.kind) (sym (err_is (record { line = 1; kind = Ended }) b (sym empty ∙ same [] text [] b e (omega arith))))))
            | inr le ↦ le
          ] in
          (first, omega arith);
      before = λ start rest b e late. before_by (lines_in start + 1) (read start) (read (start ++ rest)) b (whole start rest) e (omega arith);
      here = same;
    }
