-- What a command searches for: a kind of timing, the certificates that have one, and what is said of such timings on any grid.
use Rattle.std.specs.Prelude.{Option}
use Rattle.progression.specs.Street.{Street}
use Rattle.progression.specs.TimingRecord.{TimingRecord}
use Rattle.progression.specs.Objectives.{Objective}
use Rattle.progression.specs.Best.{bands_of}
use Rattle.link_theory.specs.LinkRecord.{LinkRecord}
use Rattle.link_theory.specs.BestLinks.{links_of}
use Rattle.certificate_model.specs.declared.certificate.Claim.{Claim}
use Rattle.certificate_checker.specs.Claims.{ClaimHoldsBy}
use Rattle.run_inputs.specs.Reading.{Value}
use Rattle.run_inputs.specs.declared.reader.ReadAs.{ReadAs}
use Rattle.run_inputs.specs.declared.reader.ReadAs.TheVariants.{Certificate, LinkCertificate}

pub record Sought : Type 1 where
  pub reader : ReadAs  -- of its certificates
  pub Timing : Type 0
  pub claim : Value reader → Claim
  pub timing : Value reader → Option Timing
  pub objective : Street → Objective Timing  -- which are good, and what each is worth

-- what the claim of a certificate says of all timings of its kind on any grid holds
abbrev pub Proves : (k : Sought) → Street → Value k.reader → Type 0
Proves k a w = ClaimHoldsBy (k.objective a) (k.claim w) (k.timing w)

-- one band a direction, all the way
abbrev pub whole_bands : Sought
whole_bands = record {
  reader = Certificate;
  Timing = TimingRecord;
  claim = λ w. w.claim;
  timing = λ w. w.timing;
  objective = bands_of;
}

-- a band for each link
abbrev pub bands_of_links : Sought
bands_of_links = record {
  reader = LinkCertificate;
  Timing = LinkRecord;
  claim = λ w. w.claim;
  timing = λ w. w.timing;
  objective = links_of;
}
