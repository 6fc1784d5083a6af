-- Lemmas on the definitions of `Promises`.
use Rattle.std.proofs.Common.{ℕ, List, sym}
use Rattle.rational_theory.specs.Rational.{ℚ}
use Rattle.rational_theory.specs.Rows.{Row}
use Rattle.simplex_theory.specs.Tableau.{Tableau, width}
use Rattle.simplex_theory.specs.RowLists.{StandsForRows}
use Rattle.entry_theory.specs.Basics.{basics_of}
use Rattle.entry_theory.specs.Directions.{HaveSameForms}
use Rattle.entry_theory.specs.Ready.{IsFresh, IsReady}
use Rattle.entry_theory.specs.Promises.{IsBasisFor, EntryKeeps, BasicsAreListed}
use Rattle.entry_theory.proofs.Basics.{names_basics_of, names_only}
use Rattle.entry_theory.proofs.Entered.{entry_names, entry_dual, entry_stands}
use Rattle.entry_theory.proofs.SameRows.{same_forms}
use Rattle.entry_theory.proofs.Sorted.{sorted_is}
use Rattle.entry_theory.proofs.Pivots.{is_entry, only_entry}

pub basics_are_listed : BasicsAreListed
basics_are_listed t s p = record {
  names = names_basics_of t s p;
  only = λ vs n. names_only vs (basics_of t) t n (names_basics_of t s p);
  sorted = λ vs m o. sorted_is t vs s p m o;
}

forms_of : (vs : List ℕ) (t : Tableau) (rows : List Row) (goal : List ℚ) → StandsForRows t rows goal → (b : IsBasisFor vs rows goal (width t)) → HaveSameForms t b.table
forms_of vs t rows goal s b = same_forms t b.table rows b.others goal s b.stands b.coefs (sym b.columns)

pub ready_from : (vs : List ℕ) (t : Tableau) (rows : List Row) (goal : List ℚ) → IsFresh t → StandsForRows t rows goal → IsBasisFor vs rows goal (width t) → IsReady vs t
ready_from vs t rows goal f s b = record { fresh = f; table = b.table; dual = b.dual; names = b.names; forms = forms_of vs t rows goal s b }

pub entry_keeps_all : EntryKeeps
entry_keeps_all vs t rows goal f stands b =
    let s = forms_of vs t rows goal stands b in
    record {
      by_rule = is_entry vs b.table b.dual b.names t f s;
      only = λ p r e q. only_entry vs b.table b.dual b.names t f s p r e q;
      names = entry_names vs b.table b.dual b.names t f s;
      dual = entry_dual vs b.table b.dual b.names t f s;
      stands = entry_stands vs b.table b.dual b.names t f s rows goal stands;
    }
