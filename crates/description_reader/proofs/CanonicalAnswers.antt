-- What a text that is read as a canonical description is.
use Rattle.std.proofs.Common.{◌≡◌, ℕ, ◌≤◌, List, Some, refl, sym, arith}
use Rattle.std.specs.Prelude.{IsUtf8, None}
use Rattle.std.specs.List.{All}
use Rattle.toml.specs.Data.{Members, members_depth, table}
use Rattle.toml.specs.Parse.{parse_document}
use Rattle.progression.specs.Street.{Street}
use Rattle.artery_model.specs.Limits.{artery_fault}
use Rattle.description_reader.specs.Canonical.{canonical, HasFour}
use Rattle.description_reader.specs.Described.{ReadsAs, Described}
use Rattle.description_reader.proofs.CanonicalDepth.{canonical_is_flat}
use Rattle.description_reader.proofs.CanonicalFaults.{canonical_passes}
use Rattle.description_reader.proofs.CanonicalLimits.{street_fits}
use Rattle.description_reader.proofs.CanonicalStreet.{street_back}

-- a text from which a canonical description comes back, which isn't deep
module _ (x : List ℕ) (a : Street) (root : Members) (made : root ≡ canonical a) (text : IsUtf8 x) (back : members_depth root ≤ 80 → parse_document x ≡ Some root) where
  document : parse_document x ≡ Some (canonical a)
  document = rw made at back (omega (arith, canonical_is_flat a))

  pub reads_canonical : ReadsAs x (table (canonical a))
  reads_canonical = record { text = text; root = canonical a; document = document; is = refl }

  pub described_canonical : artery_fault a ≡ None → All HasFour a.signals → Described x a
  described_canonical fault four = record {
    text = text;
    root = canonical a;
    document = document;
    no_fault = canonical_passes a fault four;
    is = sym (street_back a four (street_fits a fault));
  }
