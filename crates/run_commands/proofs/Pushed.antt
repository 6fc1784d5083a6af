-- Texts that are written at the end of what is there, one piece of each number of a range.
use Rattle.std.proofs.Common.{◌≡◌, ℕ, ◌+◌, ◌-◌, ◌≤◌, List, ◌++◌, flat_map, ap, ◌∙◌, append_assoc}
use Rattle.std.specs.List.{range_with_len}
use Rattle.quantity_text.proofs.Pushed.{one_more, three_pushed}
use Rattle.timing_measures.proofs.Pieces.{piece_next}

-- the piece of the next number
pub pushed_next : (f : ℕ → List ℕ) (old before now : List ℕ) (i : ℕ) → 1 ≤ i → before ≡ old ++ flat_map f (range_with_len 1 (i - 1)) → now ≡ before ++ f i
    → now ≡ old ++ flat_map f (range_with_len 1 (i + 1 - 1))
pushed_next f old before now i least was more =
    one_more old (flat_map f (range_with_len 1 (i - 1))) (f i) (flat_map f (range_with_len 1 (i + 1 - 1))) before now was more (piece_next f i least)

-- the lines of a plan in whole seconds
pub plan_pushed : (old cycle offsets outbound inbound weighted loss x1 x2 x3 x4 : List ℕ) → x1 ≡ old ++ cycle → x2 ≡ x1 ++ offsets → x3 ≡ x2 ++ (outbound ++ (inbound ++ weighted)) → x4 ≡ x3 ++ loss
    → x4 ≡ old ++ (cycle ++ (offsets ++ (outbound ++ (inbound ++ (weighted ++ loss)))))
plan_pushed old cycle offsets outbound inbound weighted loss x1 x2 x3 x4 e1 e2 e3 e4 =
    let bands = outbound ++ (inbound ++ weighted) in
    let last : bands ++ loss ≡ outbound ++ (inbound ++ (weighted ++ loss)) =
    append_assoc outbound (inbound ++ weighted) loss ∙ ap (λ (y : List ℕ). outbound ++ y) (append_assoc inbound weighted loss) in
    e4
    ∙ ap (λ (y : List ℕ). y ++ loss) (three_pushed old x1 x2 x3 cycle offsets bands e1 e2 e3)
    ∙ append_assoc old (cycle ++ (offsets ++ bands)) loss
    ∙ ap (λ (y : List ℕ). old ++ y) (append_assoc cycle (offsets ++ bands) loss ∙ ap (λ (y : List ℕ). cycle ++ y) (append_assoc offsets bands loss ∙ ap (λ (y : List ℕ). offsets ++ y) last))

-- an end after four pieces
pub end_pushed : (old a b c d end x1 x2 : List ℕ) → x1 ≡ old ++ (a ++ (b ++ (c ++ d))) → x2 ≡ x1 ++ end → x2 ≡ old ++ (a ++ (b ++ (c ++ (d ++ end))))
end_pushed old a b c d end x1 x2 e1 e2 =
    e2
    ∙ ap (λ (y : List ℕ). y ++ end) e1
    ∙ append_assoc old (a ++ (b ++ (c ++ d))) end
    ∙ ap (λ (y : List ℕ). old ++ y)
    (append_assoc a (b ++ (c ++ d)) end ∙ ap (λ (y : List ℕ). a ++ y) (append_assoc b (c ++ d) end ∙ ap (λ (y : List ℕ). b ++ y) (append_assoc c d end)))

-- two pieces, and four
pub two_pushed : (old a b x1 x2 : List ℕ) → x1 ≡ old ++ a → x2 ≡ x1 ++ b → x2 ≡ old ++ (a ++ b)
two_pushed old a b x1 x2 e1 e2 = e2 ∙ ap (λ (y : List ℕ). y ++ b) e1 ∙ append_assoc old a b

pub four_pushed : (old a b c d x1 x2 x3 x4 : List ℕ) → x1 ≡ old ++ a → x2 ≡ x1 ++ b → x3 ≡ x2 ++ c → x4 ≡ x3 ++ d → x4 ≡ old ++ (a ++ (b ++ (c ++ d)))
four_pushed old a b c d x1 x2 x3 x4 e1 e2 e3 e4 =
    e4
    ∙ ap (λ (y : List ℕ). y ++ d) (three_pushed old x1 x2 x3 a b c e1 e2 e3)
    ∙ append_assoc old (a ++ (b ++ c)) d
    ∙ ap (λ (y : List ℕ). old ++ y) (append_assoc a (b ++ c) d ∙ ap (λ (y : List ℕ). a ++ y) (append_assoc b c d))
