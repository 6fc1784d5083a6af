use Rattle.progression.specs.BaseRecord.{cycle}
use Rattle.progression.specs.TimingRecord.{base}
use Rattle.run_commands.proofs.Below.{band_below}
use Rattle.run_commands.proofs.typed.measured_lines.Goals as goal

pub push_widest-requires : goal.push_widest-requires
push_widest-requires c = band_below (cycle c.args.artery.now (base c.args.made.now.timing)) c.args.made.now.outbound c.requires.outbound

pub push_widest-requires-2 : goal.push_widest-requires-2
push_widest-requires-2 c = band_below (cycle c.args.artery.now (base c.args.made.now.timing)) c.args.made.now.inbound c.requires.inbound
