-- What a search puts its check accepts.
use Rattle.std.proofs.Common.{◌≡◌, ℕ, List, Option, Some, inl, inr, refl, sym, subst}
use Rattle.std.specs.Prelude.{IsSome}
use Rattle.outer_edge.specs.Taken.{Appends}
use Rattle.progression.specs.Street.{Street}
use Rattle.certificate_checker.specs.Laws.{RefusedIsNotAccepted}
use Rattle.link_proof.specs.LinkLaws.{LinkRefusedIsNotAccepted}
use Rattle.branch_tree.specs.Certified.{warrant_of}
use Rattle.multi_band.specs.LinkCertified.{link_warrant_of}
use Rattle.run_laws.specs.Asked as ask
use Rattle.run_inputs.specs.Puts.{put_of}
use Rattle.maxband_run.specs.Outside.{Outside, IsPut}
use Rattle.run_inputs.specs.Reading.{Value, IsReadAs, Reads}
use Rattle.run_inputs.specs.declared.reader.ReadAs.TheVariants.{Description}
use Rattle.run_commands.specs.Sought.{Sought, whole_bands, bands_of_links}
use Rattle.run_commands.specs.Checked.{Checked, whole_checked, links_checked}
use Rattle.run_commands.specs.Check.{Accepts, Checks}
use Rattle.run_commands.specs.Ends.{IsVerdict}
use Rattle.maxband_run.specs.Run.{Question, Ends}
use Rattle.run_laws.specs.Laws.{Solves, whole_solves, links_solve, SearchIsAccepted, PutIsAccepted, PutLinksAreAccepted}
use Rattle.run_inputs.specs.Status.{IsReached}
use Rattle.run_inputs.specs.declared.cause.Cause.{Cause}
use Rattle.run_laws.proofs.Complete.{Completes}
use Rattle.run_laws.proofs.PutRead.{reached_ends, verdict_found, is_put, reads_put, finds_of}
use Rattle.run_laws.proofs.Once.{RefusedApart, verdict_reached}
use Rattle.run_laws.proofs.Readers.{OneReading}

-- an accepted certificate isn't refused
accepted_done : (k : Sought) (s : Checked k) → RefusedApart k s → (a : Street) (w : Value k.reader) (c : Cause) (lines : List ℕ) → s.Accepted a w → Checks k s a w c lines → Accepts k s a w c lines
accepted_done k s apart a w c lines is (inl h) = h
accepted_done k s apart a w c lines is (inr h) = absurd (apart a w h.reject h.first h.kept is)

-- what a search found, and the accepted certificate whose text it put
record Solved (k : Sought) (s : Checked k) (solves : Solves k) (before between : Outside) (artery certificate : List ℕ) (limit : Option ℕ) (c : Cause) : Type 0 where
  pub street : Street
  pub lines : List ℕ
  pub text : List ℕ
  pub warrant : Value k.reader
  pub description : Reads Description (before.holds artery) street
  pub solved : solves street limit c lines text warrant
  pub accepted : s.Accepted street warrant
  pub read_back : IsReadAs k.reader text warrant
  pub files : IsPut (put_of (Some certificate) (Some text)) before.holds between.holds

module _ (k : Sought) (s : Checked k) (solves : Solves k) (asks : List ℕ → List ℕ → Option ℕ → Question) (checks : List ℕ → List ℕ → Question) (apart : RefusedApart k s)
    (put : (before between : Outside) (artery certificate : List ℕ) (limit : Option ℕ) (c : Cause) → IsVerdict c → Completes before between (asks artery certificate limit) c
    → Solved k s solves before between artery certificate limit c)
    (finds : (between now : Outside) (artery certificate : List ℕ) (a : Street) (w : Value k.reader) (d : Cause) → IsSome (between.holds artery) → IsSome (between.holds certificate)
    → Reads Description (between.holds artery) a → Reads k.reader (between.holds certificate) w → IsReached d → Ends between now (checks artery certificate) d
    → (lines : List ℕ) × Checks k s a w d lines × Appends between.taken now.taken lines)
  where
    search_accepted : SearchIsAccepted k s solves asks checks
    search_accepted before between now artery certificate limit c d two told put_told few v h m o =
        let e = reached_ends before between (asks artery certificate limit) c (verdict_reached c v) h in
        let f = put before between artery certificate limit c v e in
        let kept : between.holds artery ≡ before.holds artery = f.files.1 artery two in
        let reads = reads_put k.reader (between.holds certificate) f.text f.warrant put_told few f.files.0 f.read_back in
        let first = subst (λ held. Reads Description held f.street) (sym kept) f.description in
        let found = finds between now artery certificate f.street f.warrant d (subst (λ held. IsSome held) (sym kept) told) put_told first reads m o in
        let done = accepted_done k s apart f.street f.warrant d found.0 f.accepted found.1 in
        record {
          street = f.street;
          lines = f.lines;
          text = f.text;
          warrant = f.warrant;
          description = f.description;
          solved = f.solved;
          done = done.cause_is;
          certificate_is = reads;
          accepted = done.accepted;
          proves = done.proves;
          told = subst (λ l. Appends between.taken now.taken l) done.lines_are found.2;
        }

-- ---- solve
solve_put : (before between : Outside) (artery certificate : List ℕ) (limit : Option ℕ) (c : Cause) → IsVerdict c → Completes before between (ask.solve artery certificate limit) c
    → Solved whole_bands whole_checked whole_solves before between artery certificate limit c
solve_put before between artery certificate limit c v e =
    let f = verdict_found before.holds before.reads between.reads (ask.solve artery certificate limit) c e.0 e.1 v e.2 in
    record {
      street = f.values.0;
      lines = e.0;
      text = f.finds.finds.0;
      warrant = warrant_of f.values.0 f.finds.finds.2.found;
      description = f.read.0;
      solved = (f.finds.finds.2, refl);
      accepted = f.finds.finds.2.searched.accepted;
      read_back = f.finds.finds.2.certificate_is.read_back;
      files = is_put before between certificate f.finds.finds.0 e.0 e.1 f.bytes f.put_is f.finds.finds.1 e.3;
    }

pub put_accepted : OneReading → RefusedIsNotAccepted → PutIsAccepted
put_accepted reader apart = search_accepted whole_bands whole_checked whole_solves ask.solve ask.check apart solve_put
    (λ between now artery certificate a w d t u r q m o. let f = finds_of reader between now (ask.check artery certificate) (a, (w, tt)) d (t, (u, tt)) (r, (q, tt)) m o in (f.0, f.2.finds, f.3))

-- ---- links
links_put : (before between : Outside) (artery certificate : List ℕ) (limit : Option ℕ) (c : Cause) → IsVerdict c → Completes before between (ask.links artery certificate limit) c
    → Solved bands_of_links links_checked links_solve before between artery certificate limit c
links_put before between artery certificate limit c v e =
    let f = verdict_found before.holds before.reads between.reads (ask.links artery certificate limit) c e.0 e.1 v e.2 in
    record {
      street = f.values.0;
      lines = e.0;
      text = f.finds.finds.0;
      warrant = link_warrant_of f.values.0 f.finds.finds.2.found;
      description = f.read.0;
      solved = (f.finds.finds.2, refl);
      accepted = f.finds.finds.2.searched.accepted;
      read_back = f.finds.finds.2.certificate_is.read_back;
      files = is_put before between certificate f.finds.finds.0 e.0 e.1 f.bytes f.put_is f.finds.finds.1 e.3;
    }

pub put_links_accepted : OneReading → LinkRefusedIsNotAccepted → PutLinksAreAccepted
put_links_accepted reader apart = search_accepted bands_of_links links_checked links_solve ask.links ask.check_links apart links_put
    (λ between now artery certificate a w d t u r q m o. let f = finds_of reader between now (ask.check_links artery certificate) (a, (w, tt)) d (t, (u, tt)) (r, (q, tt)) m o in (f.0, f.2.finds, f.3))
