-- From the reading of one file and of those behind it to that of all.
use Rattle.std.proofs.Common.{◌≡◌, ℕ, ◌+◌, List, [], ◌∷◌, Option, inl, inr, ◌∙◌, subst}
use Rattle.outer_edge.specs.declared.files.Files.{Ghosts}
use Rattle.run_inputs.specs.declared.reader.ReadAs.{ReadAs}
use Rattle.run_inputs.specs.Reading.{Value, Values, inputs, AreRead, WereRead, WasUnread, LeavesFiles}
use Rattle.run_inputs.specs.declared.found.Unread.{Unread}
use Rattle.run_inputs.specs.declared.found.Unread.TheVariants as stop
use Rattle.run_inputs.proofs.Stopped.{stops_later, same_at}

are_read_before : (rs : List ReadAs) (names : List (List ℕ)) (before mid : List ℕ → Option (List ℕ)) (v : Values rs) → mid ≡ before → AreRead rs names mid v → AreRead rs names before v
are_read_before rs names before mid v e h = subst (λ f. AreRead rs names f v) e h

module _ {F : Type 0} {files : Ghosts F} {before mid now : F} {r : ReadAs} {rs : List ReadAs} {name : List ℕ} {names : List (List ℕ)} {v : Value r} where
  pub next_read : {vs : Values rs} → WereRead files before mid (r ∷ []) (name ∷ []) (v, tt) → LeavesFiles files before mid → WereRead files mid now rs names vs
      → WereRead files before now (r ∷ rs) (name ∷ names) (v, vs)
  next_read {vs = vs} one kept more = record {
    read = (one.read.0, are_read_before rs names (files.holds before) (files.holds mid) vs (same_at (files.holds before) (files.holds mid) kept.holds) more.read);
    counts = λ n. more.counts n ∙ one.counts n;
  }

  -- one of those behind it isn't read
  pub later_unread : {place : ℕ} (end : Unread) → WereRead files before mid (r ∷ []) (name ∷ []) (v, tt) → LeavesFiles files before mid → WasUnread files mid now rs names (place + 1) end
      → WasUnread files before now (r ∷ rs) (name ∷ names) place end
  later_unread {place = place} (stop.Told a) one kept u = record {
    told = inr (
      v,
      one.read.0,
      stops_later (inputs rs names) (place + 1) (files.holds before) (files.holds mid) (files.read_faults before) (files.read_faults mid) (files.read_faults now) a.cause a.lines.items
          kept.holds one.counts u.told,
    );
    no_put = u.no_put;
    memory = tt;
  }
  later_unread stop.Memory one kept u = record { told = tt; no_put = tt; memory = λ n. u.memory n ∙ one.counts n }

module _ {F : Type 0} {files : Ghosts F} {before now : F} {r : ReadAs} {rs : List ReadAs} {name : List ℕ} {names : List (List ℕ)} where
  -- the first isn't read
  pub first_unread : {place : ℕ} (end : Unread) → WasUnread files before now (r ∷ []) (name ∷ []) place end → WasUnread files before now (r ∷ rs) (name ∷ names) place end
  first_unread (stop.Told a) u = record { told = elim u.told [ inl h ↦ inl h | inr h ↦ absurd h.2 ]; no_put = u.no_put; memory = tt }
  first_unread stop.Memory u = record { told = tt; no_put = tt; memory = u.memory }
