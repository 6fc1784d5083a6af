use Rattle.link_proof.proofs.LinkTexts.{one_links_text, links_again, first_bad_of_links}
use Rattle.link_proof.proofs.laws.law_links_text.Goals as goal

pub returns : goal.returns
returns c = record { one = one_links_text; again = links_again; bad = first_bad_of_links }
