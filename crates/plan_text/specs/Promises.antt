-- Reading and writing are one notion: some bytes are read as a value exactly where the program can hold it and they are its text, of a certificate one of its two.
use Rattle.std.specs.Prelude.{◌≡◌, ◌↔◌, ◌⊎◌, ℕ, List, Ok}
use Rattle.progression.specs.TimingRecord.{TimingRecord}
use Rattle.plan_text.specs.Spelling.{timing_text, IsHeld}
use Rattle.plan_text.specs.Reading.{timing_of}
use Rattle.certificate_model.specs.Warrants.{Warrant}
use Rattle.plan_text.specs.CertificateText.{IsHeldWarrant}
use Rattle.plan_text.specs.FirstText.{certificate_text}
use Rattle.plan_text.specs.SecondText.{second_text}
use Rattle.plan_text.specs.CertificateReading.{certificate_of}

pub record OneText : Type 0 where
  pub timing : (x : List ℕ) (t : TimingRecord) → (timing_of x ≡ Ok t) ↔ (IsHeld t × (x ≡ timing_text t))
  pub certificate : (x : List ℕ) (w : Warrant) → (certificate_of x ≡ Ok w) ↔ (IsHeldWarrant w × ((x ≡ certificate_text w) ⊎ (x ≡ second_text w)))

-- so what is written is read again
pub record ReadsBack : Type 0 where
  pub timing : (t : TimingRecord) → IsHeld t → timing_of (timing_text t) ≡ Ok t
  pub certificate : (w : Warrant) → IsHeldWarrant w → certificate_of (certificate_text w) ≡ Ok w
  pub second : (w : Warrant) → IsHeldWarrant w → certificate_of (second_text w) ≡ Ok w
