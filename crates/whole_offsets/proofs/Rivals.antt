-- Other bases with the signals' times of a plan.
use Rattle.std.proofs.Common.{ℕ, ℤ, ◌∙◌, ap, subst}
use Rattle.progression.specs.Street.{Street}
use Rattle.progression.specs.BaseRecord.{BaseRecord}
use Rattle.progression.specs.Lines.{RunsOn}
use Rattle.progression.specs.declared.parts.Dir.{Dir}
use Rattle.free_runs.specs.Free.{with_runs, KeepsSpeeds}
use Rattle.whole_offsets.specs.Offsets.{IsOnOffsets, IsRival}

-- what is on the offsets of one base is on those of another
pub on_both : (f p s : BaseRecord) → IsOnOffsets f p → IsOnOffsets p s → IsOnOffsets f s
on_both f p s on over = over ∙ ap (with_runs s.run_out s.run_in) on

-- a rival of a base that is on the offsets of another
module _ (a : Street) (f p : BaseRecord) (on : IsOnOffsets f p) (d : Dir) (s : BaseRecord) (r : IsRival a p d s) where
  pub rival_kept : KeepsSpeeds a (with_runs s.run_out s.run_in f) d
  rival_kept = subst (λ b. KeepsSpeeds a b d) (on_both f p s on r.offsets) r.speeds

  pub rival_runs : (x : ℤ) (w : ℕ) → RunsOn a s d x w → RunsOn a (with_runs s.run_out s.run_in f) d x w
  rival_runs x w g = subst (λ b. RunsOn a b d x w) (on_both f p s on r.offsets) g
