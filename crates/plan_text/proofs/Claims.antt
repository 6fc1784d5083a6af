-- The claim that is read is the one that was written, with its timing, and what was written is read again.
use Rattle.std.proofs.Common.{◌≡◌, ℕ, ◌+◌, Bool, true, false, List, [], ◌∷◌, ◌++◌, Option, Some, None, Result, Ok, refl, sym, ap, subst, ◌∙◌, codes}
use Rattle.std.specs.Prelude.{if◌then◌else◌}
use Rattle.rational_theory.specs.Rational.{ℚ}
use Rattle.narrow_fraction.specs.Fraction.{FitsFrac}
use Rattle.quantity_text.specs.Exact.{exact_spelling}
use Rattle.plan_text.specs.declared.fault.BadText.{BadText}
use Rattle.plan_text.specs.declared.fault.TextFault.TheVariants.{Shape}
use Rattle.certificate_model.specs.declared.certificate.Claim.{Claim}
use Rattle.certificate_model.specs.declared.certificate.Claim.TheVariants.{Best, NoTiming, Stopped}
use Rattle.certificate_model.specs.Words.{is_text, line_of}
use Rattle.plan_text.specs.Fractions.{exact}
use Rattle.plan_text.specs.TimingTexts.{TimingText}
use Rattle.plan_text.specs.Lines.{◌>>=◌, fault, line_at, words_at, fixed_at}
use Rattle.certificate_model.specs.Warrants.{HasTiming}
use Rattle.plan_text.specs.CertificateText.{best_line, none_line, open_line, no_timing_line, value_key, bound_key, fraction_words, claim_lines, IsHeldClaim, IsHeldTiming}
use Rattle.plan_text.specs.CertificateReading.{or_number, fraction_of, Beginning, best_at, begins_with, found_at, missing_at, open_at, verdict_of, claim_at}
use Rattle.plan_text.proofs.Fields.{bind_ok, guard_ok, moved, same_text, text_same, line_takes, line_again, fixed_takes, fixed_again, IsKey}
use Rattle.plan_text.proofs.ExactWords.{exact_takes, exact_again, exact_word}
use Rattle.plan_text.proofs.WordLines.{number_ok, words_take, words_again, ended_and}
use Rattle.plan_text.proofs.TimingLaws.{TimingLaws}

-- ---- a line with a fraction

record FractionOf (key : List ℕ) (ws : List (List ℕ)) (x : ℚ) : Type 0 where
  spelled : ws ≡ fraction_words key x
  fits : FitsFrac x

fraction_takes : (key : List ℕ) (line : ℕ) (ws : List (List ℕ)) (x : ℚ) → fraction_of key line ws ≡ Ok x → FractionOf key ws x
unfolding fraction_of
fraction_takes key line [] x e = absurd cc
fraction_takes key line (k ∷ []) x e = absurd cc
fraction_takes key line (k ∷ w ∷ []) x e =
    let g = guard_ok (is_text k key) line Shape (or_number line (exact w)) x e in
    let s = exact_takes w x (number_ok line (exact w) x g.1) in
    let same = same_text k key g.0 in
    record { spelled = λ i. same i ∷ s.spelled i ∷ []; fits = s.fits }
fraction_takes key line (k ∷ w ∷ v ∷ ws) x e = absurd cc

fraction_again : (key : List ℕ) (line : ℕ) (x : ℚ) → FitsFrac x → fraction_of key line (fraction_words key x) ≡ Ok x
unfolding fraction_of
fraction_again key line x f = rw (text_same key, exact_again x f) refl

fraction_line : (key : List ℕ) (line : ℕ) (x : ℚ) (rest : List ℕ) → IsKey key → FitsFrac x → words_at line (line_of (fraction_words key x) ++ 10 ∷ rest) ≡ Ok (fraction_words key x, rest)
fraction_line key line x rest is f = words_again line key (exact_spelling x ∷ []) rest (is, (exact_word x f, tt))

-- ---- a claim

pub record ClaimOf {T : Type 0} (text : TimingText T) (bytes : List ℕ) (x : Beginning T) : Type 0 where
  pub parts : bytes ≡ ended_and (claim_lines text x.0 x.1) x.3
  pub timing : HasTiming x.0 x.1
  pub claim : IsHeldClaim x.0
  pub held : IsHeldTiming text x.1

-- the lines `verdict open` and `bound`, and what follows them
abbrev bounded : ℚ → List ℕ → List ℕ
bounded bound bytes = open_line ++ 10 ∷ (line_of (fraction_words bound_key bound) ++ 10 ∷ bytes)

module _ {T : Type 0} (text : TimingText T) (laws : TimingLaws text) where
  best_takes : (bytes : List ℕ) (x : Beginning T) → best_at text bytes ≡ Ok x → ClaimOf text (best_line ++ 10 ∷ bytes) x
  unfolding best_at claim_lines
  best_takes bytes x e =
      let a = bind_ok (words_at 3 bytes) (λ l. fraction_of value_key 3 l.0 >>= λ value. text.read 4 l.1 >>= λ timing. Ok (Best value, Some timing.0, 4 + text.height, timing.1)) x e in
      let b = bind_ok (fraction_of value_key 3 a.0.0) (λ value. text.read 4 a.0.1 >>= λ timing. Ok (Best value, Some timing.0, 4 + text.height, timing.1)) x a.2 in
      let d = bind_ok (text.read 4 a.0.1) (λ timing. Ok (Best b.0, Some timing.0, 4 + text.height, timing.1)) x b.2 in
      let f = fraction_takes value_key 3 a.0.0 b.0 b.1 in
      let timing = laws.takes 4 a.0.1 d.0 d.1 in
      let made : Beginning T = (Best b.0, Some d.0.0, 4 + text.height, d.0.1) in
      moved (ClaimOf text (best_line ++ 10 ∷ bytes)) made x d.2 (record {
        parts = ap (λ (y : List ℕ). best_line ++ 10 ∷ y) (words_take 3 bytes a.0 a.1 ∙ (λ i. line_of (f.spelled i) ++ 10 ∷ timing.parts i));
        timing = tt;
        claim = f.fits;
        held = timing.held;
      })

  found_takes : (bound : ℚ) (ws : List (List ℕ)) (bytes : List ℕ) (x : Beginning T) → FitsFrac bound → found_at text bound ws bytes ≡ Ok x → ClaimOf text (bounded bound (line_of ws ++ 10 ∷ bytes)) x
  unfolding found_at claim_lines
  found_takes bound ws bytes x fits e =
      let b = bind_ok (fraction_of value_key 4 ws) (λ value. text.read 5 bytes >>= λ timing. Ok (Stopped bound (Some value), Some timing.0, 5 + text.height, timing.1)) x e in
      let d = bind_ok (text.read 5 bytes) (λ timing. Ok (Stopped bound (Some b.0), Some timing.0, 5 + text.height, timing.1)) x b.2 in
      let f = fraction_takes value_key 4 ws b.0 b.1 in
      let timing = laws.takes 5 bytes d.0 d.1 in
      let made : Beginning T = (Stopped bound (Some b.0), Some d.0.0, 5 + text.height, d.0.1) in
      moved (ClaimOf text (bounded bound (line_of ws ++ 10 ∷ bytes))) made x d.2 (record {
        parts = λ i. open_line ++ 10 ∷ (line_of (fraction_words bound_key bound) ++ 10 ∷ (line_of (f.spelled i) ++ 10 ∷ timing.parts i));
        timing = tt;
        claim = (fits, f.fits);
        held = timing.held;
      })

  missing_takes : (bound : ℚ) (bytes : List ℕ) (x : Beginning T) → FitsFrac bound → missing_at bound bytes ≡ Ok x → ClaimOf text (bounded bound bytes) x
  unfolding missing_at claim_lines
  missing_takes bound bytes x fits e =
      let a = bind_ok (fixed_at 4 no_timing_line bytes) (λ rest. Ok (Stopped bound None, None, 5, rest)) x e in
      let made : Beginning T = (Stopped bound None, None, 5, a.0) in
      let line = fixed_takes 4 no_timing_line bytes a.0 a.1 in
      moved (ClaimOf text (bounded bound bytes)) made x a.2 (record {
        parts = ap (λ (y : List ℕ). open_line ++ 10 ∷ (line_of (fraction_words bound_key bound) ++ 10 ∷ y)) line;
        timing = tt;
        claim = fits;
        held = tt;
      })

  open_by : (bound : ℚ) (ws : List (List ℕ)) (after bytes : List ℕ) (x : Beginning T) (b : Bool) → FitsFrac bound → bytes ≡ line_of ws ++ 10 ∷ after
      → (if b then found_at text bound ws after else missing_at bound bytes) ≡ Ok x → ClaimOf text (bounded bound bytes) x
  open_by bound ws after bytes x true fits parts e = subst (λ (y : List ℕ). ClaimOf text (bounded bound y) x) (sym parts) (found_takes bound ws after x fits e)
  open_by bound ws after bytes x false fits parts e = missing_takes bound bytes x fits e

  open_takes : (bytes : List ℕ) (x : Beginning T) → open_at text bytes ≡ Ok x → ClaimOf text (open_line ++ 10 ∷ bytes) x
  unfolding open_at
  open_takes bytes x e =
      let a = bind_ok (words_at 3 bytes) (λ l. fraction_of bound_key 3 l.0 >>= λ bound. words_at 4 l.1 >>= λ m. if begins_with value_key m.0 then found_at
      text bound m.0 m.1 else missing_at bound l.1) x e in
      let b = bind_ok (fraction_of bound_key 3 a.0.0) (λ bound. words_at 4 a.0.1 >>= λ m. if begins_with value_key m.0 then found_at text bound m.0 m.1 else missing_at bound a.0.1) x a.2 in
      let d = bind_ok (words_at 4 a.0.1) (λ m. if begins_with value_key m.0 then found_at text b.0 m.0 m.1 else missing_at b.0 a.0.1) x b.2 in
      let f = fraction_takes bound_key 3 a.0.0 b.0 b.1 in
      let first : bytes ≡ line_of (fraction_words bound_key b.0) ++ 10 ∷ a.0.1 = words_take 3 bytes a.0 a.1 ∙ ap (λ (y : List (List ℕ)). line_of y ++ 10 ∷ a.0.1) f.spelled in
      subst (λ (y : List ℕ). ClaimOf text (open_line ++ 10 ∷ y) x) (sym first)
      (open_by b.0 d.0.0 d.0.1 a.0.1 x (begins_with value_key d.0.0) f.fits (words_take 4 a.0.1 d.0 d.1) d.2)

  -- the verdict's line and what follows
  verdict_open : (verdict bytes : List ℕ) (x : Beginning T) (b : Bool) → (b ≡ true → verdict ≡ open_line) → (if b then open_at text bytes else fault 2 Shape) ≡ Ok x
      → ClaimOf text (verdict ++ 10 ∷ bytes) x
  verdict_open verdict bytes x true is e = subst (λ (y : List ℕ). ClaimOf text (y ++ 10 ∷ bytes) x) (sym (is refl)) (open_takes bytes x e)
  verdict_open verdict bytes x false is e = absurd cc

  none_takes : (bytes : List ℕ) (x : Beginning T) → ◌≡◌ {A = Result (Beginning T) BadText} (Ok (NoTiming, None, 3, bytes)) (Ok x) → ClaimOf text (none_line ++ 10 ∷ bytes) x
  unfolding claim_lines
  none_takes bytes x e =
      let made : Beginning T = (NoTiming, None, 3, bytes) in
      moved (ClaimOf text (none_line ++ 10 ∷ bytes)) made x e (record { parts = refl; timing = tt; claim = tt; held = tt })

  verdict_none : (verdict bytes : List ℕ) (x : Beginning T) (b : Bool) → (b ≡ true → verdict ≡ none_line)
      → (if b then Ok (NoTiming, None, 3, bytes) else (if is_text verdict open_line then open_at text bytes else fault 2 Shape)) ≡ Ok x → ClaimOf text (verdict ++ 10 ∷ bytes) x
  verdict_none verdict bytes x true is e = subst (λ (y : List ℕ). ClaimOf text (y ++ 10 ∷ bytes) x) (sym (is refl)) (none_takes bytes x e)
  verdict_none verdict bytes x false is e = verdict_open verdict bytes x (is_text verdict open_line) (same_text verdict open_line) e

  verdict_best : (verdict bytes : List ℕ) (x : Beginning T) (b : Bool) → (b ≡ true → verdict ≡ best_line)
      → (if b then best_at text bytes else (if is_text verdict none_line then Ok (NoTiming, None, 3, bytes) else (if is_text verdict open_line then open_at text bytes else fault 2 Shape)))
      ≡ Ok x → ClaimOf text (verdict ++ 10 ∷ bytes) x
  verdict_best verdict bytes x true is e = subst (λ (y : List ℕ). ClaimOf text (y ++ 10 ∷ bytes) x) (sym (is refl)) (best_takes bytes x e)
  verdict_best verdict bytes x false is e = verdict_none verdict bytes x (is_text verdict none_line) (same_text verdict none_line) e

  verdict_takes : (verdict bytes : List ℕ) (x : Beginning T) → verdict_of text verdict bytes ≡ Ok x → ClaimOf text (verdict ++ 10 ∷ bytes) x
  unfolding verdict_of
  verdict_takes verdict bytes x e = verdict_best verdict bytes x (is_text verdict best_line) (same_text verdict best_line) e

  pub claim_takes : (bytes : List ℕ) (x : Beginning T) → claim_at text bytes ≡ Ok x → ClaimOf text bytes x
  unfolding claim_at
  claim_takes bytes x e =
      let a = bind_ok (line_at 2 bytes) (λ l. verdict_of text l.0 l.1) x e in
      subst (λ (y : List ℕ). ClaimOf text y x) (sym (line_takes 2 bytes a.0 a.1)) (verdict_takes a.0.0 a.0.1 x a.2)

-- ---- and again

-- the number of the line after a claim and its timing, which takes so many lines
abbrev pub claim_end : ℕ → Claim → ℕ
claim_end height (Best value) = 4 + height
claim_end height NoTiming = 3
claim_end height (Stopped bound None) = 5
claim_end height (Stopped bound (Some value)) = 5 + height

value_is_key : IsKey value_key
value_is_key = record { spaces = refl; feeds = refl }

bound_is_key : IsKey bound_key
bound_is_key = record { spaces = refl; feeds = refl }

no_words : (rest : List ℕ) → words_at 4 (no_timing_line ++ 10 ∷ rest) ≡ Ok (codes "no" ∷ codes "timing" ∷ [], rest)
no_words rest = words_again 4 (codes "no") (codes "timing" ∷ []) rest (record { spaces = refl; feeds = refl }, (record { spaces = refl; feeds = refl }, tt))

module _ {T : Type 0} (text : TimingText T) (laws : TimingLaws text) where
  pub claim_again : (claim : Claim) (timing : Option T) (rest : List ℕ) → HasTiming claim timing → IsHeldClaim claim → IsHeldTiming text timing
      → claim_at text (ended_and (claim_lines text claim timing) rest) ≡ Ok (claim, timing, claim_end text.height claim, rest)
  unfolding claim_at verdict_of best_at open_at found_at missing_at claim_lines
  claim_again (Best value) None rest has fits held = absurd has
  claim_again (Best value) (Some t) rest has fits held =
      let second = fraction_line value_key 3 value (ended_and (text.lines t) rest) value_is_key fits in
      let first = line_again 2 best_line (line_of (fraction_words value_key value) ++ 10 ∷ ended_and (text.lines t) rest) refl in
      rw (first, second, fraction_again value_key 3 value fits, laws.again 4 t rest held) refl
  claim_again NoTiming None rest has fits held = rw (line_again 2 none_line rest refl) refl
  claim_again NoTiming (Some t) rest has fits held = absurd has
  claim_again (Stopped bound None) (Some t) rest has fits held = absurd has
  claim_again (Stopped bound None) None rest has fits held =
      let second = fraction_line bound_key 3 bound (no_timing_line ++ 10 ∷ rest) bound_is_key fits in
      let first = line_again 2 open_line (line_of (fraction_words bound_key bound) ++ 10 ∷ (no_timing_line ++ 10 ∷ rest)) refl in
      rw (first, second, fraction_again bound_key 3 bound fits, no_words rest, fixed_again 4 no_timing_line rest refl) refl
  claim_again (Stopped bound (Some value)) None rest has fits held = absurd has
  claim_again (Stopped bound (Some value)) (Some t) rest has fits held =
      let third = fraction_line value_key 4 value (ended_and (text.lines t) rest) value_is_key fits.1 in
      let second = fraction_line bound_key 3 bound (line_of (fraction_words value_key value) ++ 10 ∷ ended_and (text.lines t) rest) bound_is_key fits.0 in
      let first = line_again 2 open_line (line_of (fraction_words bound_key bound) ++ 10 ∷ (line_of (fraction_words value_key value) ++ 10 ∷ ended_and (text.lines t) rest)) refl in
      rw (first, second, fraction_again bound_key 3 bound fits.0, third, fraction_again value_key 4 value fits.1, laws.again 5 t rest held) refl
