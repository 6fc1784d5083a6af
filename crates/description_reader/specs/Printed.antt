-- What is printed for an artery.
use Rattle.std.specs.Prelude.{◌≡◌, ℕ, List, false}
use Rattle.toml.specs.Data.{table}
use Rattle.toml.specs.Text.{IsDocumentText}
use Rattle.progression.specs.Street.{Street}
use Rattle.description_reader.specs.Described.{ReadsAs, Described}
use Rattle.description_reader.specs.Canonical.{canonical}

-- the bytes are the text of an artery's canonical description
abbrev pub IsPrinted : List ℕ → Street → Type 0
IsPrinted x a = IsDocumentText false (canonical a) x

-- the artery's canonical description: its one text, which is read as the canonical table, and as the artery again
pub record IsCanonicalText (a : Street) (x : List ℕ) : Type 0 where
  pub printed : IsPrinted x a
  pub reads : ReadsAs x (table (canonical a))
  pub described : Described x a

-- an artery is printed as the same bytes each time
pub record OneText : Type 0 where
  pub same : (a : Street) (x y : List ℕ) → IsPrinted x a → IsPrinted y a → x ≡ y
