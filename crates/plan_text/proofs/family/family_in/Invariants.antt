use Rattle.std.proofs.Common.{◌≡◌, ◌+◌, drop}
use Rattle.certificate_model.specs.Families.{table_of, texts, number_in, family_in}
use Rattle.plan_text.proofs.family.family_in.Given as goal

-- the names so far are others
abbrev pub invariant-loop-place : goal.invariant-loop-place
invariant-loop-place l = family_in (table_of l.names) l.word ≡ number_in (l.place + 1) (texts (table_of (drop l.place l.names))) l.word
