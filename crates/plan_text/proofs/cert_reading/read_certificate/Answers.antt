use Rattle.std.proofs.Common.{subst, ap, ◌∙◌}
use Rattle.plan_text.specs.Lines.{Gives}
use Rattle.plan_text.specs.CertificateReading.{certificate_of}
use Rattle.plan_text.proofs.Certificates.{is_found, certificate_again, second_text_again}
use Rattle.plan_text.proofs.cert_reading.read_certificate.Goals as goal

pub returns-clause-found : goal.returns-clause-found
returns-clause-found c = is_found c.args.bytes.now c.certificate_of.result c.certificate_of.ensures

pub returns-clause-only : goal.returns-clause-only
returns-clause-only c = λ w held e. subst (λ read. Gives (λ c. c) c.certificate_of.result read) (ap certificate_of e ∙ certificate_again w held) c.certificate_of.ensures

pub returns-clause-only_second : goal.returns-clause-only_second
returns-clause-only_second c = λ w held text. subst (Gives (λ c. c) c.certificate_of.result) (ap certificate_of text ∙ second_text_again w held) c.certificate_of.ensures
