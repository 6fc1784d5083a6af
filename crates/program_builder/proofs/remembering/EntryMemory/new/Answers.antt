use Rattle.std.proofs.Common.{◌≡◌, ◌+◌, sym, ◌∙◌, ap, subst, length}
use Rattle.std.proofs.lemmas.Bool.{false≢true}
use Rattle.program_builder.specs.BoxRows.{rows_of}
use Rattle.program_builder.specs.Remembering.{HaveRoom}
use Rattle.program_builder.proofs.remembering.EntryMemory.new.Goals as goal

pub returns : goal.returns
returns c =
    let rows : c.rows.result ≡ length (rows_of c.args.artery.now) = c.rows.ensures.count ∙ c.in_ok-tableau.ensures.rows in
    record {
      made = c.in_ok-tableau.ensures;
      columns = subst (λ n. HaveRoom c.in_ok-pivots.pivots.items (n + 1)) rows c.in_ok-pivots.ensures;
      bounds = sym c.in_ok-bounds.bounds.ok.0 ∙ c.in_ok-bounds.ensures.len ∙ ap (λ n. n + 1) rows;
      kept = λ e. absurd (false≢true e);
    }
