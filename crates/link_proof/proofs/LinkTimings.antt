-- The laws of the text of a link timing: what is read is spelled so, and what is spelled so is read.
use Rattle.std.proofs.Common.{◌≡◌, ℕ, ◌+◌, ◌-◌, ◌≤◌, List, ◌∷◌, ◌++◌, length, Ok, refl, sym, ap, subst, ◌∙◌, arith}
use Rattle.std.specs.Prelude.{pos}
use Rattle.plan_text.specs.Spelling.{spelled, first_key, base_lines, firsts_line}
use Rattle.plan_text.specs.Lines.{◌>>=◌}
use Rattle.plan_text.specs.Reading.{place_of, both_ways_at, pair_at, base_at}
use Rattle.plan_text.proofs.WordLines.{ended_and}
use Rattle.plan_text.proofs.Fields.{bind_ok, moved, Suits}
use Rattle.plan_text.proofs.Timings.{small_of, suits_small, ways_take, ways_again, pair_takes, base_takes, base_again, first_is_held, firsts_again}
use Rattle.plan_text.proofs.TextLaws.{IsTextOf}
use Rattle.link_theory.specs.LinkRecord.{LinkRecord, link_base, link_banded}
use Rattle.link_space.specs.LinkTiming.{AreHalves}
use Rattle.link_proof.specs.LinkTimingTexts.{half_out_key, half_in_key, link_lines, link_timing_at, IsHeldLinks, link_bands}

-- one half for each link
halves_fit : (line : ℕ) (patterns halves : List ℕ) → 2 ≤ length patterns → Suits (place_of line (length patterns - 1) 0) halves → AreHalves patterns halves
halves_fit line patterns halves some s = record {
  count = omega (arith, some, s.fewest, s.most);
  each = small_of (place_of line (length patterns - 1) 0) halves s;
}

-- so are the two lists of halves that were read, however the signals were counted
pub halves_read : (line signals : ℕ) (patterns bytes : List ℕ) (x : List ℕ × List ℕ × List ℕ) → 2 ≤ signals → signals ≡ length patterns
    → both_ways_at half_out_key half_in_key line (signals - 1) bytes ≡ Ok x → AreHalves patterns x.0 × AreHalves patterns x.1
halves_read line signals patterns bytes x few is e =
    let some = subst (λ n. 2 ≤ n) is few in
    let ways = ways_take half_out_key half_in_key line (length patterns - 1) bytes x (subst (λ n. both_ways_at half_out_key half_in_key line (n - 1) bytes ≡ Ok x) is e) in
    (halves_fit line patterns x.0 some ways.outbound, halves_fit (line + 1) patterns x.1 some ways.inbound)

-- what the nine lines are, and that the program can hold it
pub link_takes : (line : ℕ) (bytes : List ℕ) (x : LinkRecord × List ℕ) → link_timing_at line bytes ≡ Ok x → IsTextOf link_bands bytes x
unfolding link_timing_at
link_takes line bytes x e =
    let a = bind_ok (base_at line bytes) (λ b. pair_at first_key (line + 6) b.1 >>= λ first. both_ways_at half_out_key half_in_key (line + 7) (length b.0.patterns - 1) first.2
    >>= λ halves. Ok (link_banded (pos first.0) halves.0 (pos first.1) halves.1 b.0, halves.2)) x e in
    let b = a.0 in
    let c = bind_ok (pair_at first_key (line + 6) b.1) (λ first. both_ways_at half_out_key half_in_key (line + 7) (length b.0.patterns - 1) first.2
    >>= λ halves. Ok (link_banded (pos first.0) halves.0 (pos first.1) halves.1 b.0, halves.2)) x a.2 in
    let f = c.0 in
    let d = bind_ok (both_ways_at half_out_key half_in_key (line + 7) (length b.0.patterns - 1) f.2)
    (λ halves. Ok (link_banded (pos f.0) halves.0 (pos f.1) halves.1 b.0, halves.2)) x c.2 in
    let own = base_takes line bytes b a.1 in
    let first = pair_takes first_key (line + 6) b.1 f c.1 in
    let ways = ways_take half_out_key half_in_key (line + 7) (length b.0.patterns - 1) f.2 d.0 d.1 in
    let halves = halves_read (line + 7) (length b.0.patterns) b.0.patterns f.2 d.0 own.held.ranges.few refl d.1 in
    let later = first.parts ∙ ap (λ (y : List ℕ). firsts_line (pos f.0) (pos f.1) ++ 10 ∷ y) ways.parts in
    moved (IsTextOf link_bands bytes) (link_banded (pos f.0) d.0.0 (pos f.1) d.0.1 b.0, d.0.2) x d.2 (record {
      parts = own.parts ∙ ap (ended_and (base_lines b.0)) later;
      held = record {
        base = own.held;
        first_out = first_is_held f.0 first.first;
        first_in = first_is_held f.1 first.second;
        half_out = halves.0;
        half_in = halves.1;
      };
    })

pub link_again : (line : ℕ) (t : LinkRecord) (rest : List ℕ) → IsHeldLinks t → link_timing_at line (ended_and (link_lines t) rest) ≡ Ok (t, rest)
unfolding link_timing_at
link_again line t rest held =
    let links = length t.patterns - 1 in
    let out = held.half_out.count in
    let in' = held.half_in.count in
    let rest2 = spelled half_out_key t.half_out ++ 10 ∷ (spelled half_in_key t.half_in ++ 10 ∷ rest) in
    let first = base_again line (link_base t) (firsts_line t.first_out t.first_in ++ 10 ∷ rest2) held.base in
    let second = firsts_again (line + 6) t.first_out t.first_in rest2 held.first_out held.first_in in
    let third = ways_again half_out_key half_in_key (line + 7) links t.half_out t.half_in rest (record { spaces = refl; feeds = refl })
    (record { spaces = refl; feeds = refl }) (suits_small (line + 7) t.half_out links (omega arith) held.half_out.each)
    (suits_small (line + 7 + 1) t.half_in links (omega arith) held.half_in.each) in
    rw (first, second, third) (λ i. Ok (link_banded (sym held.first_out.least i) t.half_out (sym held.first_in.least i) t.half_in (link_base t), rest))
