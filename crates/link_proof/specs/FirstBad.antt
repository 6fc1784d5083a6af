-- What it means that the first bad line of a text is named.
use Rattle.std.specs.Prelude.{◌≡◌, ℕ, ◌≤◌, List, ◌++◌, Err}
use Rattle.plan_text.specs.declared.fault.BadText.{BadText}
use Rattle.plan_text.specs.FirstBad.{lines_in, NamesFirstBad}
use Rattle.link_proof.specs.LinkWarrants.{LinkWarrant, IsHeldLinkWarrant, links_text, links_of}

pub record FirstBadOfLinks : Type 0 where
  pub named : NamesFirstBad links_of
  -- so the text of no link certificate begins with the lines up to a bad one
  pub no_certificate : (start rest other : List ℕ) (b : BadText) (c : LinkWarrant) → links_of (start ++ rest) ≡ Err b → b.line ≤ lines_in start → IsHeldLinkWarrant c → links_text c ≡ start ++ other → ⊥
