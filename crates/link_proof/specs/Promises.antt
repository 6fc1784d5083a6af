-- Reading and writing are one notion: some bytes are read as a link certificate exactly where the program can hold it and they are its text.
use Rattle.std.specs.Prelude.{◌≡◌, ◌↔◌, ℕ, List, Ok}
use Rattle.link_proof.specs.LinkWarrants.{LinkWarrant, IsHeldLinkWarrant, links_text, links_of}

abbrev pub OneLinksText : Type 0
OneLinksText = (x : List ℕ) (c : LinkWarrant) → (links_of x ≡ Ok c) ↔ (IsHeldLinkWarrant c × (x ≡ links_text c))

-- so what is written is read again
abbrev pub LinksReadBack : Type 0
LinksReadBack = (c : LinkWarrant) → IsHeldLinkWarrant c → links_of (links_text c) ≡ Ok c
