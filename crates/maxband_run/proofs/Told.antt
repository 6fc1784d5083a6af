-- From the reading of a command's files, and what it finds of them, to its answer.
use Rattle.std.proofs.Common.{◌≡◌, ℕ, List, [], ◌∷◌, Option, Some, None, Result, Ok, Err, inl, inr, refl, sym, ◌∙◌, ap, subst}
use Rattle.std.specs.Prelude.{IfSome, option_map}
use Rattle.narrow_fraction.specs.declared.memory.Memory.{Memory}
use Rattle.outer_edge.specs.Counts.{SameCounts}
use Rattle.outer_edge.specs.declared.files.Files.{Ghosts}
use Rattle.run_inputs.specs.Lines.{words_line}
use Rattle.run_inputs.specs.Puts.{put_of, bytes_of}
use Rattle.run_inputs.specs.Reading.{Value, Values, AreRead, WereRead, WasUnread, end_of}
use Rattle.run_inputs.specs.Status.{IsOwnAnswer}
use Rattle.run_inputs.specs.declared.cause.Cause.{Cause}
use Rattle.run_inputs.specs.declared.cause.Cause.TheVariants as cause
use Rattle.run_inputs.specs.declared.found.Found.{Found}
use Rattle.run_inputs.specs.declared.found.Unread.{Unread}
use Rattle.run_inputs.specs.declared.found.Unread.TheVariants as stop
use Rattle.run_inputs.specs.declared.reader.ReadAs.{ReadAs}
use Rattle.run_inputs.specs.declared.reader.ReadAs.TheVariants.{Description, Timing, Certificate, LinkCertificate, Timed, TypedPlan, AnyFile}
use Rattle.run_commands.specs.Requested.{value_as, both, values_as, FindsAs}
use Rattle.run_commands.specs.Settings.{Settings}
use Rattle.run_commands.specs.Table.{readers, Finds, IsOwnEnd}
use Rattle.run_commands.specs.Words.{Request}
use Rattle.run_commands.specs.declared.table.Usage.{Usage}
use Rattle.maxband_run.specs.Run.{Question, question, ask, IsAnswered}

-- ---- values of the readers of a row
same_value : (r : ReadAs) (v : Value r) → value_as r r v ≡ Some v
same_value Description v = refl
same_value Timing v = refl
same_value Certificate v = refl
same_value LinkCertificate v = refl
same_value Timed v = refl
same_value TypedPlan v = refl
same_value AnyFile v = refl

same_values : (rs : List ReadAs) (v : Values rs) → values_as rs rs v ≡ Some v
same_values [] v = refl
same_values (r ∷ rs) v =
    ap (λ (o : Option (Value r)). both r rs o (values_as rs rs v.1)) (same_value r v.0) ∙ ap (λ (o : Option (Values rs)). both r rs (Some v.0) o) (same_values rs v.1)

module _ (held : List ℕ → Option (List ℕ)) (names : List (List ℕ)) (s : Settings) (u : Usage) where
  abbrev IsTold : (rs : List ReadAs) → Values rs → Cause → List ℕ → Option (List ℕ) → Type 0
  IsTold rs v c l b = FindsAs u s c l b rs v → AreRead rs names held v → (w : Values (readers u)) × AreRead (readers u) names held w × Finds u w s c l b

  own_values : (v : Values (readers u)) (c : Cause) (l : List ℕ) (b : Option (List ℕ)) → IsTold (readers u) v c l b
  own_values v c l b h k = (v, k, subst (λ (o : Option (Values (readers u))). IfSome o (λ w. Finds u w s c l b)) (same_values (readers u) v) h)

  by_values : (rs : List ReadAs) → rs ≡ readers u → (v : Values rs) (c : Cause) (l : List ℕ) (b : Option (List ℕ)) → IsTold rs v c l b
  by_values rs e = subst (λ (ss : List ReadAs). (v : Values ss) (c : Cause) (l : List ℕ) (b : Option (List ℕ)) → IsTold ss v c l b) (sym e) own_values

-- ---- answers
no_put_of : (output : Option (List ℕ)) → put_of output None ≡ None
no_put_of None = refl
no_put_of (Some name) = refl

-- one of the files isn't read
unread : {F : Type 0} {files : Ghosts F} {before now : F} (q : Question) (end : Unread) → WasUnread files before now q.readers q.names 1 end → IsAnswered files before now q (end_of end)
unread q (stop.Told a) u = record {
  told = inl (record { stops = u.told; no_put = ap (λ b. put_of q.output (option_map (λ x. x.items) b)) u.no_put ∙ no_put_of q.output });
  memory = tt;
}
unread q stop.Memory u = record { told = tt; memory = u.memory }

pub unread_by : {F : Type 0} {files : Ghosts F} {before now : F} (r : Request) (u : Usage) (rs : List ReadAs) → rs ≡ readers u → (end : Unread)
    → WasUnread files before now rs r.reads 1 end → IsAnswered files before now (ask u r) (end_of end)
unread_by {files = files} {before = before} {now = now} r u rs e end h =
    unread (ask u r) end (subst (λ (ss : List ReadAs). WasUnread files before now ss r.reads 1 end) e h)

-- memory is wanting, and no read failed
pub wanting : {F : Type 0} {files : Ghosts F} {before now : F} (q : Question) → SameCounts (files.read_faults before) (files.read_faults now) → IsAnswered files before now q (Err (record {}))
wanting q counts = record { told = tt; memory = counts }

-- what is found is told
pub tells : {F : Type 0} {files : Ghosts F} {before now : F} (r : Request) (u : Usage) (rs : List ReadAs) (e : rs ≡ readers u) (v : Values rs) (a : Found)
    → WereRead files before now rs r.reads v → FindsAs u r.settings a.cause a.lines.items (bytes_of a) rs v → IsOwnEnd u a.cause → IsOwnAnswer a.cause (bytes_of a)
    → IsAnswered files before now (ask u r) (Ok a)
tells {files = files} {before = before} r u rs e v a read h ends answer =
    let k = by_values (files.holds before) r.reads r.settings u rs e v a.cause a.lines.items (bytes_of a) h read.read in
    record {
      told = inr (record { values = k.0; read = k.1; counts = read.counts; bytes = bytes_of a; finds = record { finds = k.2; ends = ends; answer = answer }; put_is = refl });
      memory = tt;
    }

-- words that ask for nothing are told
pub words_told : {F : Type 0} {files : Ghosts F} {before : F} (a : Found) → a.cause ≡ cause.Words → a.lines.items ≡ words_line → IsAnswered files before before (question None) (Ok a)
words_told a c l = record { told = inr (record { values = tt; read = tt; counts = λ name. refl; bytes = bytes_of a; finds = (c, l); put_is = refl }); memory = tt }
