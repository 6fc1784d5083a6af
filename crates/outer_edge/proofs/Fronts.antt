use Rattle.std.proofs.Common.{◌≡◌, ℕ, ◌+◌, ◌≤◌, List, ◌++◌, length, take, drop, arith, sym, ap, ◌∙◌, Option, Some, None, append_assoc, length-append}
use Rattle.std.proofs.Common.{length-take, length-take-le, take-take, length-drop}
use Rattle.std.specs.Prelude.{IfSome}
use Rattle.std.proofs.Math.Seq.{take-add}
use Rattle.outer_edge.specs.Taken.{Appends}
use Rattle.outer_edge.specs.Held.{IsFront, BeginsWith, TakesMore}

-- a front and the bytes after it are a front
front_more : (file before after : List ℕ) (k : ℕ) → IsFront file before → TakesMore file before after k → IsFront file after
front_more file before after k f m =
    let within = f.inside in
    let inside : length before + k ≤ length file = omega (arith, m.inside, length-drop (length before) file) in
    let long : length after ≡ length before + k =
    ap length m.after_is ∙ simp (append_assoc, length-append, length-take, length-drop) (omega arith) in
    record {
      bytes = m.after_is ∙ ap (λ xs. xs ++ take k (drop (length before) file)) f.bytes ∙ sym (take-add (length before) k file) ∙ ap (λ n. take n file) (sym long);
      inside = omega arith;
    }

-- the same where the file is told
pub front_after : (told : Option (List ℕ)) (before after : List ℕ) (k : ℕ) → IfSome told (λ file. IsFront file before) → IfSome told (λ file. TakesMore file before after k)
    → IfSome told (λ file. IsFront file after)
front_after None before after k f m = tt
front_after (Some file) before after k f m = front_more file before after k f m

-- a front of a front is a front
shorter_front : (file front : List ℕ) (n : ℕ) → n ≤ length front → IsFront file front → IsFront file (take n front)
shorter_front file front n l f =
    let inside = f.inside in
    let long : length (take n front) ≡ n = length-take-le n front l in
    record {
      bytes = ap (λ xs. take n xs) f.bytes ∙ take-take n (length front) file l ∙ ap (λ k. take k file) (sym long);
      inside = omega arith;
    }

-- a file of which a front that is as long was taken begins with so many bytes
pub begins_with : (told : Option (List ℕ)) (front : List ℕ) (n : ℕ) → n ≤ length front → IfSome told (λ file. IsFront file front) → BeginsWith n told
begins_with None front n l f = record { front = take n front; long = length-take-le n front l; begins = tt }
begins_with (Some file) front n l f = record { front = take n front; long = length-take-le n front l; begins = shorter_front file front n l f }

-- what is appended after a front of the bytes makes a longer front
pub appends_more : (a b c : Option (List ℕ)) (bytes : List ℕ) (i k : ℕ) → Appends a b (take i bytes) → Appends b c (take k (drop i bytes)) → Appends a c (take (i + k) bytes)
appends_more None b c bytes i k p q = tt
appends_more (Some s) b c bytes i k p q =
    let r = rw p at q in
    r ∙ ap Some (append_assoc s (take i bytes) (take k (drop i bytes)) ∙ ap (λ xs. s ++ xs) (sym (take-add i k bytes)))
