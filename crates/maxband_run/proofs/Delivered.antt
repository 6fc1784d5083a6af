-- An answer with what became of it is how the run ended.
use Rattle.std.proofs.Common.{◌≡◌, ℕ, ◌<◌, List, length, Option, Some, None, ◌⊎◌, inl, inr, refl, sym, ◌∙◌, ap, subst, arith}
use Rattle.std.specs.Prelude.{option_map, IsSome}
use Rattle.outer_edge.specs.Counts.{next_count, NoneFell, SameCounts, CountedAt}
use Rattle.outer_edge.specs.Held.{SameFiles, OthersSame}
use Rattle.outer_edge.specs.Taken.{Appends, AppendsFront}
use Rattle.run_inputs.specs.Reading.{inputs, IsRoomForFaults}
use Rattle.run_inputs.specs.Puts.{NamedBytes, named, put_of}
use Rattle.run_commands.specs.Words.{Request}
use Rattle.maxband_run.specs.declared.finish.Put.{Put}
use Rattle.maxband_run.specs.Outside.{put_view, Outside, IsPut, IsDone, IsUntouched, PutFailed, WriteFailed, IsBroken, OthersKept, PutsCounted}
use Rattle.maxband_run.specs.Run.{Question, question, Answers, Ends}
use Rattle.run_inputs.specs.Status.{IsReached}
use Rattle.run_inputs.specs.declared.cause.Cause.{Cause}
use Rattle.run_inputs.specs.declared.cause.Cause.TheVariants as cause
use Rattle.run_inputs.proofs.Stopped.{same_at, IsStop, stops_stop, stops_room}
use Rattle.maxband_run.proofs.Reached.{finds_reached}

-- ---- answers
-- none is a failed write or want of memory
answer_cause : (held : List ℕ → Option (List ℕ)) (before after : List ℕ → ℕ) (asked : Option Request) (c : Cause) (lines : List ℕ) (put : Option NamedBytes)
    → Answers held before after (question asked) c lines put → IsStop c ⊎ IsReached c
answer_cause held before after asked c lines put (inl h) = inl (stops_stop held before after (inputs (question asked).readers (question asked).names) 1 c lines h.stops)
answer_cause held before after asked c lines put (inr h) = inr (finds_reached asked h.values c lines h.bytes h.finds)

pub done_ends : (before now : Outside) (asked : Option Request) (c : Cause) (lines : List ℕ) (put : Option NamedBytes)
    → Answers before.holds before.reads now.reads (question asked) c lines put → IsDone before now lines put → Ends before now (question asked) c
done_ends before now asked cause.WriteFault lines put h d = absurd (elim (answer_cause before.holds before.reads now.reads asked cause.WriteFault lines put h) [ inl k ↦ k | inr k ↦ k ])
done_ends before now asked cause.Memory lines put h d = absurd (elim (answer_cause before.holds before.reads now.reads asked cause.Memory lines put h) [ inl k ↦ k | inr k ↦ k ])
done_ends before now asked c lines put h d = (lines, put, h, d)

-- ---- from the end of the reading on
-- what reading leaves
pub record IsRead (before mid : Outside) : Type 0 where
  pub files : SameFiles before.holds mid.holds
  pub reads : NoneFell before.reads mid.reads
  pub puts : SameCounts before.puts mid.puts
  pub taken : mid.taken ≡ before.taken
  pub writes : mid.writes ≡ before.writes

module _ (before mid now : Outside) (read : IsRead before mid) where
  same_holds : mid.holds ≡ before.holds
  same_holds = same_at before.holds mid.holds read.files

  same_puts : mid.puts ≡ before.puts
  same_puts = same_at before.puts mid.puts read.puts

  is_put : (put : Option NamedBytes) → IsPut put mid.holds now.holds → IsPut put before.holds now.holds
  is_put put h = subst (λ f. IsPut put f now.holds) same_holds h

  puts_since : SameCounts mid.puts now.puts → SameCounts before.puts now.puts
  puts_since h name = h name ∙ read.puts name

  pub done_since : (lines : List ℕ) (put : Option NamedBytes) → IsDone mid now lines put → IsDone before now lines put
  done_since lines put d = record {
    files = is_put put d.files;
    written = subst (λ t. Appends t now.taken lines) read.taken d.written;
    puts = puts_since d.puts;
    writes = d.writes ∙ read.writes;
  }

  pub untouched_since : SameCounts before.reads mid.reads → IsUntouched mid now → IsUntouched before now
  untouched_since same u = record {
    files = subst (λ f. SameFiles f now.holds) same_holds u.files;
    nothing = u.nothing ∙ read.taken;
    reads = λ name. u.reads name ∙ same name;
    puts = puts_since u.puts;
    writes = u.writes ∙ read.writes;
  }

  write_failed : (lines : List ℕ) (put : Option NamedBytes) → WriteFailed mid now lines put → WriteFailed before now lines put
  write_failed lines put w = record {
    counted = w.counted ∙ ap next_count read.writes;
    puts = puts_since w.puts;
    files = is_put put w.files;
    front = subst (λ t. AppendsFront t now.taken lines) read.taken w.front;
  }

  put_failed : (put : NamedBytes) → PutFailed mid now put → PutFailed before now put
  put_failed put p = record {
    counted = subst (λ f. CountedAt f now.puts put.name) same_puts p.counted;
    others = subst (λ f. (other : List ℕ) → (other ≡ put.name → ⊥) → now.holds other ≡ f other) same_holds p.others;
    nothing = p.nothing ∙ read.taken;
    writes = p.writes ∙ read.writes;
  }

  pub broken_since : (lines : List ℕ) (put : Option NamedBytes) → IsBroken mid now lines put → IsBroken before now lines put
  broken_since lines None b = write_failed lines None b
  broken_since lines (Some put) (inl p) = inl (put_failed put p)
  broken_since lines (Some put) (inr w) = inr (write_failed lines (Some put) w)

  module _ (same : SameCounts mid.reads now.reads) where
    pub answered_since : (q : Question) (c : Cause) (lines : List ℕ) (put : Option NamedBytes)
        → Answers before.holds before.reads mid.reads q c lines put → Answers before.holds before.reads now.reads q c lines put
    answered_since q c lines put h = subst (λ f. Answers before.holds before.reads f q c lines put) (sym (same_at mid.reads now.reads same)) h

-- ---- want of memory
some_put : (put : Option Put) → IsSome put → option_map put_view put ≡ None → ⊥
some_put None s e = absurd cc
some_put (Some put) s e = absurd cc

module _ (held : List ℕ → Option (List ℕ)) (before after : List ℕ → ℕ) (q : Question) (c : Cause) (lines : List ℕ) (put : Option Put) where
  -- where memory was wanting no read had failed
  pub wanted_counts : (room : ℕ) → Answers held before after q c lines (option_map put_view put) → IsRoomForFaults (inputs q.readers q.names) room
      → (room < length lines) ⊎ IsSome put → SameCounts before after
  wanted_counts room (inr h) few w = h.counts
  wanted_counts room (inl h) few (inr some) = absurd (some_put put some h.no_put)
  wanted_counts room (inl h) few (inl more) = elim (stops_room held before after (inputs q.readers q.names) 1 room c lines few h.stops) [
    | inl fits ↦ absurd (omega (arith, fits, more))
    | inr same ↦ same
  ]

-- ---- in every case: what is kept but for the file that may be put
others_none : (output : Option (List ℕ)) (before now : List ℕ → Option (List ℕ)) → SameFiles before now → OthersKept output before now
others_none None before now h = h
others_none (Some name) before now h = λ other apart. h other

puts_none : (output : Option (List ℕ)) (before now : List ℕ → ℕ) → SameCounts before now → PutsCounted output before now
puts_none None before now h = h
puts_none (Some name) before now h = λ other. let e = h other in omega (arith, e)

put_name : (name : List ℕ) (bytes : Option (List ℕ)) (p : Put) → Some (put_view p) ≡ put_of (Some name) bytes → p.name.now ≡ name
put_name name None p e = absurd cc
put_name name (Some b) p e = let is : put_view p ≡ named name b = cc in ap (λ (n : NamedBytes). n.name) is

others_of : (output bytes : Option (List ℕ)) (put : Option Put) (before now : List ℕ → Option (List ℕ)) → option_map put_view put ≡ put_of output bytes
    → OthersKept (option_map (λ (p : Put). p.name.now) put) before now → OthersKept output before now
others_of output bytes None before now e h = others_none output before now h
others_of None bytes (Some p) before now e h = absurd cc
others_of (Some name) bytes (Some p) before now e h = subst (λ n. OthersSame before now n) (put_name name bytes p e) h

puts_of : (output bytes : Option (List ℕ)) (put : Option Put) (before now : List ℕ → ℕ) → option_map put_view put ≡ put_of output bytes
    → PutsCounted (option_map (λ (p : Put). p.name.now) put) before now → PutsCounted output before now
puts_of output bytes None before now e h = puts_none output before now h
puts_of None bytes (Some p) before now e h = absurd cc
puts_of (Some name) bytes (Some p) before now e h = h

not_put : (put : Option Put) → option_map put_view put ≡ None → option_map (λ (p : Put). p.name.now) put ≡ None
not_put None e = refl
not_put (Some p) e = absurd cc

module _ (held : List ℕ → Option (List ℕ)) (reads after : List ℕ → ℕ) (q : Question) (c : Cause) (lines : List ℕ) (put : Option Put) where
  others_kept : (mid now : List ℕ → Option (List ℕ)) → Answers held reads after q c lines (option_map put_view put)
      → OthersKept (option_map (λ (p : Put). p.name.now) put) mid now → OthersKept q.output mid now
  others_kept mid now (inl s) h = others_none q.output mid now (subst (λ o. OthersKept o mid now) (not_put put s.no_put) h)
  others_kept mid now (inr s) h = others_of q.output s.bytes put mid now s.put_is h

  puts_kept : (mid now : List ℕ → ℕ) → Answers held reads after q c lines (option_map put_view put)
      → PutsCounted (option_map (λ (p : Put). p.name.now) put) mid now → PutsCounted q.output mid now
  puts_kept mid now (inl s) h = puts_none q.output mid now (subst (λ o. PutsCounted o mid now) (not_put put s.no_put) h)
  puts_kept mid now (inr s) h = puts_of q.output s.bytes put mid now s.put_is h

  pub others_since : (before mid now : List ℕ → Option (List ℕ)) → SameFiles before mid → Answers held reads after q c lines (option_map put_view put)
      → OthersKept (option_map (λ (p : Put). p.name.now) put) mid now → OthersKept q.output before now
  others_since before mid now same s h = subst (λ f. OthersKept q.output f now) (same_at before mid same) (others_kept mid now s h)

  pub puts_since_entry : (before mid now : List ℕ → ℕ) → SameCounts before mid → Answers held reads after q c lines (option_map put_view put)
      → PutsCounted (option_map (λ (p : Put). p.name.now) put) mid now → PutsCounted q.output before now
  puts_since_entry before mid now same s h = subst (λ f. PutsCounted q.output f now) (same_at before mid same) (puts_kept mid now s h)
