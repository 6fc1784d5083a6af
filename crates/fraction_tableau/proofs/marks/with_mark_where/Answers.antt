use lib.Bits.{or_zero_r}
use mir.Val.{bool_byte}
use Rattle.std.proofs.Common.{◌≡◌, ℕ, Bool, true, false, ◌*◌, ◌<◌, ◌%◌, ◌^◌, bit_or, ◌∙◌, ap, arith}
use Rattle.std.specs.Int.{w64, bit_at}
use Rattle.std.proofs.lemmas.Nat.Bits.{bit_at_set_same, bit_at_set_other}
use Rattle.fraction_tableau.proofs.marks.with_mark_where.Goals as goal

no_mark : (marks x : ℕ) → bit_or marks (0 * x % 18446744073709551616) ≡ marks
no_mark marks x = ap (bit_or marks) (let e : 0 * x % 18446744073709551616 ≡ 0 = omega arith in e) ∙ or_zero_r marks

-- the bits but the place's
others : (marks p : ℕ) → p < 64 → (some : Bool) (i : ℕ) → (i ≡ p → ⊥) → bit_at (bit_or marks (bool_byte some * 2 ^ p % 18446744073709551616)) i ≡ bit_at marks i
others marks p low true i n = bit_at_set_other w64 marks p low i n
others marks p low false i n = ap (λ m. bit_at m i) (no_mark marks (2 ^ p))

pub returns-clause-set : goal.returns-clause-set
returns-clause-set c = λ is.
    let low : c.args.place % 64 < 64 = omega arith in
    rw is (bit_at_set_same w64 c.args.marks (c.args.place % 64) low)

pub returns-clause-others : goal.returns-clause-others
returns-clause-others c = others c.args.marks (c.args.place % 64) (omega arith) c.args.some

pub returns-clause-same : goal.returns-clause-same
returns-clause-same c = λ is. rw is (no_mark c.args.marks (2 ^ (c.args.place % 64)))
