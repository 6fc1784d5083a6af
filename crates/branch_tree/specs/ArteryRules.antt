-- An artery as the rules of a relaxation that is searched by branch and bound, as Little searched his mixed-integer program of 1966.
use Rattle.std.specs.Prelude.{◌≡◌}
use Rattle.progression.specs.Street.{Street}
use Rattle.progression.specs.TimingRecord.{TimingRecord}
use Rattle.linear_theory.specs.Boxes.{root_box}
use Rattle.entry_theory.specs.Basics.{basics_of}
use Rattle.branch_and_bound.specs.Rules.{Rules}
use Rattle.box_search.specs.declared.site.SitePart.{SitePart}
use Rattle.branch_tree.specs.declared.kept.KeptBasis.{KeptBasis}
use Rattle.branch_tree.specs.ArteryProgram.{program_of}
use Rattle.box_search.specs.Meaning.{Meaning, rules_from}
use Rattle.branch_tree.specs.Starts.{start_bound}
use Rattle.box_search.specs.Searchable.{IsSearchable}
use Rattle.branch_tree.specs.Relaxed.{IsStartLeaf, IsTiming, RefutesBox, CoversBox}
use Rattle.branch_tree.specs.laws.Relaxed.{covers_more, not_refuted, inside, has_numbers, low_falls, high_falls}

-- an end keeps the basic variables of its last tableau, ascending
abbrev pub meaning_of : (a : Street) → Meaning KeptBasis (program_of a)
meaning_of a = record {
  IsSound = IsSearchable a;
  root = root_box a;
  IsStart = IsStartLeaf a;
  start_bound = start_bound a;
  Keeps = λ table kept. kept.basis.items ≡ basics_of table;
  IsGood = IsTiming a;
  Refutes = RefutesBox a;
  Covers = CoversBox a;
  laws = record {
    covers_more = covers_more a;
    not_refuted = not_refuted a;
    inside = inside a;
    has_numbers = has_numbers a;
    low_falls = low_falls a;
    high_falls = high_falls a;
  };
}

-- ---- the relaxation
abbrev pub rules_of : Street → Rules TimingRecord KeptBasis SitePart
rules_of a = rules_from (program_of a) (meaning_of a)
