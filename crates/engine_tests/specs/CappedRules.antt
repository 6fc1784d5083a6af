-- The relaxation for the tests as the rules that a search relies on.
use Rattle.std.specs.Prelude.{◌≡◌, ℕ, ℤ, ◌≤ℤ◌}
use Rattle.rational_theory.specs.Rational.{whole}
use Rattle.rational_theory.proofs.Order.{≤ℚ_trans}
use Rattle.progression.specs.Street.{Street}
use Rattle.linear_theory.specs.Boxes.{Area, root_box}
use Rattle.branch_and_bound.specs.Lines.{BoxLine}
use Rattle.branch_and_bound.specs.Rules.{Rules}
use Rattle.branch_and_bound.specs.OpenedNodes.{OpensEmpty, OpensTimed, OpensCut}
use Rattle.branch_and_bound.specs.declared.opened.Opened.{Opened}
use Rattle.branch_and_bound.specs.declared.opened.Opened.TheVariants.{Infeasible, Timed, Splits}
use Rattle.engine_tests.specs.Capped.{ending_of, bound_of, CoversNumbers, HasNone}
use Rattle.engine_tests.specs.laws.Capped.{inside_of, has_numbers_of, low_falls_of, high_falls_of, some_number}

-- ---- the rules
abbrev pub capped_rules : Street → ℤ → Rules ℤ ℕ ℕ
capped_rules a cap = record {
  IsSound = Unit {0};
  root = root_box a;
  steps = λ line. 1;
  ending = λ line. ending_of cap line.area.loops;
  bound = λ line. bound_of line.area.loops;
  IsLeaf = λ line leaf. Unit {0};
  IsVertex = λ line point. Unit {0};
  IsKept = λ line kept. Unit {0};
  IsStart = λ leaf. Unit {0};
  start_bound = bound_of (root_box a).loops;
  IsGood = λ timing value. (value ≡ whole timing) × (timing ≤ℤ cap);
  IsDue = λ line k. k ≡ 0;
  IsWide = λ line k part. part ≡ k;
  Refutes = λ area leaf. HasNone cap area.loops;
  Covers = λ area leaf v. CoversNumbers cap area.loops v;
  laws = record {
    covers_more = λ area leaf v w h k. λ x p. ≤ℚ_trans (whole x) v w (h x p) k;
    not_refuted = λ line leaf met o i none. some_number cap line.area.loops o none;
    inside = λ line place met e. inside_of cap line.area.loops line.area.turns place e;
    has_numbers = λ line place met e. has_numbers_of cap line.area.loops line.area.turns place e;
    low_falls = λ line place met e o. low_falls_of cap line.area.loops line.area.turns place e;
    high_falls = λ line place met e o. high_falls_of cap line.area.loops line.area.turns place e;
  };
}

-- what the end of a box answers
abbrev pub EndsAs : Street → ℤ → BoxLine → Opened ℤ ℕ ℕ → Type 0
EndsAs a cap line (Infeasible leaf) = OpensEmpty (capped_rules a cap) line leaf
EndsAs a cap line (Timed leaf bound timing) = OpensTimed (capped_rules a cap) line leaf bound timing
EndsAs a cap line (Splits leaf bound place point kept) = OpensCut (capped_rules a cap) line leaf bound place point kept
EndsAs a cap line _ = ⊥

-- what a box of this area answers, wherever it stands
abbrev pub EndsHere : ℤ → Area → Opened ℤ ℕ ℕ → Type 0
EndsHere cap area end = (a : Street) (line : BoxLine) → line.area ≡ area → EndsAs a cap line end
