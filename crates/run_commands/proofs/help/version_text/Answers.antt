use Rattle.std.proofs.Common.{rules, ◌≡◌, ◌++◌}
use Rattle.std.specs.Prelude.{codes}
use Rattle.std.specs.Fmt.{digits}
use Rattle.run_commands.specs.Help.{version_text}
use Rattle.run_commands.proofs.help.version_text.Goals as goal

pub returns : goal.returns
unfolding version_text digits
returns c =
    let pushed : c.push_text-2.new.out.items ≡ (codes "maxband " ++ codes "1.3.0") ++ codes "\ndescriptions 1 2\nplans 1\ntimings 1\ncertificates 1 2\ncertificates of links 1\n" = search rules in
    pushed
