use Rattle.std.proofs.Common.{◌-◌, ap, ◌∙◌, sym}
use Rattle.certificate_model.specs.Families.{table_of, is_lone_in}
use Rattle.certificate_model.proofs.FamilyTables.{zero_lone, lone_here, lone_past}
use Rattle.certificate_model.proofs.family.is_lone_in.Goals as goal

pub returns-then-family-eq0 : goal.returns-then-family-eq0
returns-then-family-eq0 c = sym (ap (is_lone_in (table_of c.args.names.now)) c.if-family-eq0.true ∙ zero_lone (table_of c.args.names.now))

pub returns-in-Some : goal.returns-in-Some
returns-in-Some c = lone_here c.args.names.now (c.from.result - 1) c.args.family c.in-Some.name.now _ c.in-Some.ensures.lookup.0 c.in-Some.ensures.lookup.1
    (ap (λ n. n - 1) c.from.ensures) c.if-family-eq0.false

pub returns-in-None : goal.returns-in-None
returns-in-None c = lone_past c.args.names.now (c.from.result - 1) c.args.family c.in-None.ensures.lookup.0 (ap (λ n. n - 1) c.from.ensures) c.if-family-eq0.false
