-- The text of a link timing, and the same with more bytes.
use Rattle.std.proofs.Common.{ℕ, ◌+◌, ◌-◌, List, length, Result, Ok, refl, arith}
use Rattle.std.specs.Prelude.{pos}
use Rattle.progression.specs.BaseRecord.{BaseRecord}
use Rattle.plan_text.specs.declared.fault.BadText.{BadText}
use Rattle.plan_text.specs.Spelling.{first_key}
use Rattle.plan_text.specs.Lines.{◌>>=◌}
use Rattle.plan_text.specs.Reading.{both_ways_at, pair_at, base_at}
use Rattle.plan_text.proofs.Grown.{after_line, one_and, two_and}
use Rattle.plan_text.proofs.GrownTimings.{ReadsOn, Reads, reads_rest, reads_made, reads_then, ways_read, base_read, firsts_read}
use Rattle.plan_text.proofs.TimingLaws.{TimingLaws}
use Rattle.link_theory.specs.LinkRecord.{LinkRecord, link_banded}
use Rattle.link_proof.specs.LinkTimingTexts.{half_out_key, half_in_key, link_timing_at, link_bands}
use Rattle.link_proof.proofs.LinkTimings.{link_takes, link_again}

abbrev Based : Type 0
Based = BaseRecord × List ℕ

abbrev Pair : Type 0
Pair = ℕ × ℕ × List ℕ

abbrev halves_at : ℕ → Based → List ℕ → Result (List ℕ × List ℕ × List ℕ) BadText
halves_at line b = both_ways_at half_out_key half_in_key (line + 7) (length b.0.patterns - 1)

abbrev from_firsts : ℕ → Based → Pair → Result (LinkRecord × List ℕ) BadText
from_firsts line b first = halves_at line b first.2 >>= λ halves. Ok (link_banded (pos first.0) halves.0 (pos first.1) halves.1 b.0, halves.2)

abbrev from_base : ℕ → Based → Result (LinkRecord × List ℕ) BadText
from_base line b = pair_at first_key (line + 6) b.1 >>= from_firsts line b

halves_read : (line : ℕ) (b : Based) → ReadsOn (two_and (line + 6 + 1)) (line + 7) (one_and (line + 9)) (from_firsts line b)
halves_read line b =
    reads_made (two_and (line + 6 + 1)) (line + 7) (two_and (line + 7 + 2)) (one_and (line + 9)) (λ first. halves_at line b first.2)
    (λ first halves. (link_banded (pos first.0) halves.0 (pos first.1) halves.1 b.0, halves.2))
    (reads_rest (two_and (line + 6 + 1)) (line + 7) (two_and (line + 7 + 2)) (λ first. halves_at line b)
    (λ first. ways_read half_out_key half_in_key (line + 7) (length b.0.patterns - 1)) (λ first z. refl))
    (λ first halves. omega arith) (λ first halves. refl) (λ first halves z. refl)

after_base : (line : ℕ) → ReadsOn (one_and (line + 6)) (line + 6) (one_and (line + 9)) (from_base line)
after_base line =
    reads_then (one_and (line + 6)) (line + 6) (two_and (line + 6 + 1)) (line + 7) (one_and (line + 9)) (λ b. pair_at first_key (line + 6) b.1) (from_firsts line)
    (firsts_read line) (halves_read line) (λ first. omega arith) (λ b z. refl)

link_read : (line : ℕ) → Reads line (one_and (line + 9)) (link_timing_at line)
unfolding link_timing_at
link_read line = reads_then (after_line line) line (one_and (line + 6)) (line + 6) (one_and (line + 9)) (base_at line) (λ bytes. from_base line)
    (base_read line) (λ bytes. after_base line) (λ b. refl) (λ bytes z. refl)

pub link_laws : TimingLaws link_bands
link_laws = record { takes = link_takes; again = link_again; reads = link_read }
