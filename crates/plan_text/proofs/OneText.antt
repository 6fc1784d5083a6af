-- What is read is held and spelled so, and what is held and spelled so is read.
use Rattle.std.proofs.Common.{ap, ◌∙◌, inl, inr}
use Rattle.plan_text.specs.Reading.{timing_of}
use Rattle.plan_text.specs.CertificateReading.{certificate_of}
use Rattle.plan_text.specs.Promises.{OneText, ReadsBack}
use Rattle.plan_text.proofs.Timings.{timing_takes, timing_again}
use Rattle.plan_text.proofs.Certificates.{certificate_takes, certificate_again, second_text_again}

pub one_text : OneText
one_text = record {
  timing = λ x t. ((λ e. let taken = timing_takes x t e in (taken.1, taken.0)), (λ p. ap timing_of p.1 ∙ timing_again t p.0));
  certificate = λ x w. (
    (λ e. let taken = certificate_takes x w e in (taken.held, taken.parts)),
    (λ p. elim p.1 [ inl e ↦ ap certificate_of e ∙ certificate_again w p.0 | inr e ↦ ap certificate_of e ∙ second_text_again w p.0 ]),
  );
}

pub reads_back : ReadsBack
reads_back = record { timing = timing_again; certificate = certificate_again; second = second_text_again }
