-- What `narrow` and `widen` put.
use Rattle.std.proofs.Common.{ℕ, List, subst}
use Rattle.outer_edge.specs.Taken.{Appends}
use Rattle.speed_steps.proofs.Timings.{narrow_is_within, widen_holds_all}
use Rattle.maxband_run.specs.Outside.{Outside}
use Rattle.run_laws.specs.Asked as ask
use Rattle.run_laws.specs.PlanLaws.{SaysNarrowed, NarrowSays, SaysWidened, WidenSays}
use Rattle.run_inputs.specs.declared.cause.Cause.TheVariants as cause
use Rattle.run_laws.proofs.PutRead.{is_put}
use Rattle.run_laws.proofs.Found.{Found, found_done}

module _ (before now : Outside) (artery new : List ℕ) where
  narrowed : Found before now (ask.narrow artery new) cause.Done → SaysNarrowed before now artery new
  narrowed f =
      let k = f.answer.finds.finds in
      record {
        street = f.answer.values.0;
        puts = record {
          description = f.answer.read.0;
          text = k.0;
          put = (is_put before now new k.0 f.lines f.put f.answer.bytes f.answer.put_is k.1 f.done).0;
          described = k.2.text_is.described;
          told = subst (λ (l : List ℕ). Appends before.taken now.taken l) k.2.lines_are f.done.written;
        };
        within = λ t good. narrow_is_within f.answer.values.0 t k.2.valid good;
      }

  widened : Found before now (ask.widen artery new) cause.Done → SaysWidened before now artery new
  widened f =
      let k = f.answer.finds.finds in
      record {
        street = f.answer.values.0;
        puts = record {
          description = f.answer.read.0;
          text = k.0;
          put = (is_put before now new k.0 f.lines f.put f.answer.bytes f.answer.put_is k.1 f.done).0;
          described = k.2.text_is.described;
          told = subst (λ (l : List ℕ). Appends before.taken now.taken l) k.2.lines_are f.done.written;
        };
        holds_all = λ t good. widen_holds_all f.answer.values.0 t k.2.valid good;
      }

pub narrow_says : NarrowSays
narrow_says before now artery new c h e = narrowed before now artery new (found_done before now (ask.narrow artery new) c e h)

pub widen_says : WidenSays
widen_says before now artery new c h e = widened before now artery new (found_done before now (ask.widen artery new) c e h)
