use Rattle.std.proofs.Common.{◌∙◌}
use Rattle.linear_theory.specs.Shifts.{shifts_of}
use Rattle.linear_theory.proofs.RankedShifts.{ranked, rising_strictly, shifts_ascend}
use Rattle.linear_theory.proofs.ShiftSizes.{shift_count_most}
use Rattle.search_box.proofs.Ranked.{rank_allowed}
use Rattle.search_box.proofs.laws.law_shifts_are_ranked.Goals as goal

pub returns-clause-ranked : goal.returns-clause-ranked
returns-clause-ranked c a i n = (
  λ h. let k = ranked a i h.0 h.1 in (k.rank, k.there, k.is ∙ h.2),
  λ h. let k = rank_allowed a i h.0 h.1 in (k.0, k.1, k.2 ∙ h.2),
)

pub returns-clause-rising : goal.returns-clause-rising
returns-clause-rising c a i r s h k = rising_strictly (shifts_of a i) 0 r s (shifts_ascend a i) h k

pub returns-clause-few : goal.returns-clause-few
returns-clause-few c a i = shift_count_most a i
