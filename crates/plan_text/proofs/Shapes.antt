-- Words that aren't those of a line of this kind.
use Rattle.std.proofs.Common.{◌≡◌, ◌≢◌, ℕ, Bor, false, map, List, [], ◌∷◌, length, get_or, Result, Err, refl, sym, subst, arith}
use Rattle.named_row.specs.declared.names.RowId.{RowId}
use Rattle.plan_text.specs.declared.fault.BadText.{BadText}
use Rattle.plan_text.specs.declared.fault.TextFault.TheVariants.{Shape}
use Rattle.plan_text.specs.declared.fault.TextEnd.{TextEnd}
use Rattle.plan_text.specs.declared.fault.TextEnd.TheVariants as ends
use Rattle.certificate_model.specs.Words.{is_text}
use Rattle.plan_text.specs.Lines.{fault, Fails}
use Rattle.plan_text.specs.SecondText.{rows_key}
use Rattle.plan_text.specs.CertificateText.{split_key}
use Rattle.plan_text.specs.Namings.{Naming, fractions_key}
use Rattle.plan_text.specs.CertificateReading.{listed_row, row_count, head_of}

-- a fault is what reading gives
pub fails_so : {Y : Type 0} (e : TextEnd) (b : BadText) (read : Result Y BadText) → e ≡ ends.Bad b → read ≡ Err b → Fails e read
fails_so e b read is err = subst (λ (x : TextEnd). Fails x read) (sym is) err

-- the first word is another key
other_key : (w : Bor (List ℕ)) (key own : List ℕ) → key ≡ own → false ≡ is_text w.now key → is_text w.now own ≡ false
other_key w key own is e = sym (subst (λ (k : List ℕ). false ≡ is_text w.now k) is e)

pub no_listed : (rows : List RowId) (line : ℕ) (ws : List (Bor (List ℕ))) → length ws ≢ 1 → listed_row rows line (map (λ w. w.now) ws) ≡ fault line Shape
unfolding listed_row
no_listed rows line [] other = refl
no_listed rows line (w ∷ []) other = absurd (other refl)
no_listed rows line (v ∷ w ∷ ws) other = refl

pub no_count : (line : ℕ) (ws : List (Bor (List ℕ))) → length ws ≢ 2 → row_count line (map (λ w. w.now) ws) ≡ fault line Shape
unfolding row_count
no_count line [] other = refl
no_count line (w ∷ []) other = refl
no_count line (v ∷ w ∷ []) other = absurd (other refl)
no_count line (u ∷ v ∷ w ∷ ws) other = refl

pub no_rows : (line : ℕ) (ws : List (Bor (List ℕ))) (d : Bor (List ℕ)) (key : List ℕ) → length ws ≡ 2 → key ≡ rows_key → false ≡ is_text (get_or ws 0 d).now key
    → row_count line (map (λ w. w.now) ws) ≡ fault line Shape
unfolding row_count
no_rows line [] d key two is e = absurd (omega arith)
no_rows line (w ∷ []) d key two is e = absurd (omega arith)
no_rows line (v ∷ w ∷ []) d key two is e = rw (other_key v key rows_key is e) refl
no_rows line (u ∷ v ∷ w ∷ ws) d key two is e = absurd (omega arith)

pub no_head : (names : Naming) (line : ℕ) (ws : List (Bor (List ℕ))) → length ws ≢ 2 → length ws ≢ 3 → length ws ≢ 4 → head_of names line (map (λ w. w.now) ws) ≡ fault line Shape
unfolding head_of
no_head names line [] two three four = refl
no_head names line (a ∷ []) two three four = refl
no_head names line (a ∷ b ∷ []) two three four = absurd (two refl)
no_head names line (a ∷ b ∷ c ∷ []) two three four = absurd (three refl)
no_head names line (a ∷ b ∷ c ∷ d ∷ []) two three four = absurd (four refl)
no_head names line (a ∷ b ∷ c ∷ d ∷ e ∷ ws) two three four = refl

pub no_fractions : (names : Naming) (line : ℕ) (ws : List (Bor (List ℕ))) (d : Bor (List ℕ)) (key : List ℕ) → length ws ≡ 2 → key ≡ fractions_key names → false ≡ is_text (get_or ws 0 d).now key
    → head_of names line (map (λ w. w.now) ws) ≡ fault line Shape
unfolding head_of
no_fractions names line [] d key two is e = absurd (omega arith)
no_fractions names line (w ∷ []) d key two is e = absurd (omega arith)
no_fractions names line (v ∷ w ∷ []) d key two is e = rw (other_key v key (fractions_key names) is e) refl
no_fractions names line (u ∷ v ∷ w ∷ ws) d key two is e = absurd (omega arith)

pub no_split : (names : Naming) (line : ℕ) (ws : List (Bor (List ℕ))) (d : Bor (List ℕ)) (key : List ℕ) → length ws ≡ 4 → key ≡ split_key → false ≡ is_text (get_or ws 0 d).now key
    → head_of names line (map (λ w. w.now) ws) ≡ fault line Shape
unfolding head_of
no_split names line [] d key four is e = absurd (omega arith)
no_split names line (w ∷ []) d key four is e = absurd (omega arith)
no_split names line (v ∷ w ∷ []) d key four is e = absurd (omega arith)
no_split names line (u ∷ v ∷ w ∷ []) d key four is e = absurd (omega arith)
no_split names line (t ∷ u ∷ v ∷ w ∷ []) d key four is e = rw (other_key t key split_key is e) refl
no_split names line (s ∷ t ∷ u ∷ v ∷ w ∷ ws) d key four is e = absurd (omega arith)
