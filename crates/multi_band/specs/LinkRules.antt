-- The links of an artery as the rules of a relaxation that is searched by branch and bound, as Little searched his mixed-integer program of 1966.
use Rattle.progression.specs.Street.{Street}
use Rattle.linear_theory.specs.Boxes.{root_box}
use Rattle.link_theory.specs.LinkRecord.{LinkRecord}
use Rattle.branch_and_bound.specs.Rules.{Rules}
use Rattle.box_search.specs.declared.site.SitePart.{SitePart}
use Rattle.box_search.specs.Meaning.{Meaning, rules_from}
use Rattle.box_search.specs.Searchable.{IsSearchable}
use Rattle.multi_band.specs.LinkProgram.{link_program}
use Rattle.multi_band.specs.LinkStarts.{link_start_bound}
use Rattle.multi_band.specs.LinkRelaxed.{IsLinkStartLeaf, IsLinkTiming, RefutesLinkBox, CoversLinkBox}
use Rattle.multi_band.specs.laws.LinkRelaxed.{links_cover_more, links_not_refuted, links_inside, links_have_numbers, links_low_falls, links_high_falls}

-- an end keeps nothing: each part begins from its own opening
abbrev pub link_meaning : (a : Street) → Meaning (Unit {0}) (link_program a)
link_meaning a = record {
  IsSound = IsSearchable a;
  root = root_box a;
  IsStart = IsLinkStartLeaf a;
  start_bound = link_start_bound a;
  Keeps = λ table kept. Unit {0};
  IsGood = IsLinkTiming a;
  Refutes = RefutesLinkBox a;
  Covers = CoversLinkBox a;
  laws = record {
    covers_more = links_cover_more a;
    not_refuted = links_not_refuted a;
    inside = links_inside a;
    has_numbers = links_have_numbers a;
    low_falls = links_low_falls a;
    high_falls = links_high_falls a;
  };
}

-- ---- the relaxation
abbrev pub link_rules : Street → Rules LinkRecord (Unit {0}) SitePart
link_rules a = rules_from (link_program a) (link_meaning a)
