use Rattle.std.proofs.Common.{rules, ◌≡◌, ◌++◌, refl}
use Rattle.run_commands.specs.Hold.{verdict_line}
use Rattle.run_commands.specs.Typed.{measured_lines}
use Rattle.run_commands.proofs.typed.write_measured.Goals as goal

pub returns-clause-finds : goal.returns-clause-finds
returns-clause-finds c =
    let line : c.push_verdict.new.out.items ≡ measured_lines c.args.artery.now c.args.made.now ++ verdict_line c.broken.result = search rules in (
      refl,
      (
        c.in_ok-bytes.bytes.items,
        refl,
        record {
          broken = c.broken.result;
          judged = c.broken.ensures;
          lines_are = line;
          written = c.in_ok-bytes.ensures.text;
          read_back = c.in_ok-bytes.ensures.read_back;
        },
      ),
    )
