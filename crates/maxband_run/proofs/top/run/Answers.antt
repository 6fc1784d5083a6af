use Rattle.std.proofs.Common.{Option, Err, ap, map, subst, sym, arith}
use Rattle.std.specs.Prelude.{option_map, string_bytes, IfSome}
use Rattle.run_commands.specs.Words as commands
use Rattle.run_commands.specs.Words.{Request}
use Rattle.run_commands.specs.Requested.{IsFit}
use Rattle.maxband_run.specs.Outside.{Outside, outside, OthersKept, PutsCounted}
use Rattle.maxband_run.specs.Run.{Ends, question}
use Rattle.run_commands.proofs.Limits.{request_fits}
use Rattle.maxband_run.proofs.Delivered.{IsRead, others_since, puts_since_entry}
use Rattle.maxband_run.proofs.Running.{with_put, run_done, run_broken, run_wanted}
use Rattle.std.proofs.lemmas.Grind.{common_steps, elements}
use Rattle.maxband_run.proofs.top.run.Goals as goal

pub answer_to-requires : goal.answer_to-requires
answer_to-requires g c = subst (λ (o : Option Request). IfSome o IsFit) (sym c.request_in-request.ensures) (request_fits (map string_bytes c.args.words.now))

pub returns-in-Ok-deliver-clause-ends : goal.returns-in-Ok-deliver-clause-ends
returns-in-Ok-deliver-clause-ends g c =
    let before : Outside = outside (g.F.Files.holds c.args.files.now) (g.F.Files.read_faults c.args.files.now) (g.F.Files.put_faults c.args.files.now)
    (g.K.Sink.taken c.args.out.now) (g.K.Sink.faults c.args.out.now) in
    let mid : Outside = outside (g.F.Files.holds c.answer_to.new.files) (g.F.Files.read_faults c.answer_to.new.files) (g.F.Files.put_faults c.answer_to.new.files)
    (g.K.Sink.taken c.reserve.new.self) (g.K.Sink.faults c.reserve.new.self) in
    let now : Outside = outside (g.F.Files.holds c.deliver.new.files) (g.F.Files.read_faults c.deliver.new.files) (g.F.Files.put_faults c.deliver.new.files)
    (g.K.Sink.taken c.deliver.new.out) (g.K.Sink.faults c.deliver.new.out) in
    let read : IsRead before mid = record {
      files = c.answer_to.ensures.kept.holds;
      reads = c.answer_to.ensures.kept.reads;
      puts = c.answer_to.ensures.kept.puts;
      taken = c.reserve.ensures.taken;
      writes = c.reserve.ensures.faults;
    } in
    let asked : Option Request = option_map commands.view c.request_in-request.result in
    subst (λ (o : Option Request). Ends before now (question o) c.status-in-Ok-deliver.result.cause) c.request_in-request.ensures
    (run_done before mid now read c.deliver.ensures.reads asked c.in-Ok.answer.cause c.in-Ok.answer.lines.items c.as_slice.result.now c.put_of-put.result
    (with_put _ _ _ asked c.in-Ok.answer _ c.put_of-put.result c.put_of-put.ensures c.output_of.ensures c.in-Ok.ensures.answered.told) c.as_slice.ensures.value
    c.status-in-Ok-deliver.result.cause c.status-in-Ok-deliver.ensures.cause c.in-Ok-deliver.ensures.done)

pub returns-in-Err-Broken-clause-ends : goal.returns-in-Err-Broken-clause-ends
returns-in-Err-Broken-clause-ends g c =
    let before : Outside = outside (g.F.Files.holds c.args.files.now) (g.F.Files.read_faults c.args.files.now) (g.F.Files.put_faults c.args.files.now)
    (g.K.Sink.taken c.args.out.now) (g.K.Sink.faults c.args.out.now) in
    let mid : Outside = outside (g.F.Files.holds c.answer_to.new.files) (g.F.Files.read_faults c.answer_to.new.files) (g.F.Files.put_faults c.answer_to.new.files)
    (g.K.Sink.taken c.reserve.new.self) (g.K.Sink.faults c.reserve.new.self) in
    let now : Outside = outside (g.F.Files.holds c.deliver.new.files) (g.F.Files.read_faults c.deliver.new.files) (g.F.Files.put_faults c.deliver.new.files)
    (g.K.Sink.taken c.deliver.new.out) (g.K.Sink.faults c.deliver.new.out) in
    let read : IsRead before mid = record {
      files = c.answer_to.ensures.kept.holds;
      reads = c.answer_to.ensures.kept.reads;
      puts = c.answer_to.ensures.kept.puts;
      taken = c.reserve.ensures.taken;
      writes = c.reserve.ensures.faults;
    } in
    let asked : Option Request = option_map commands.view c.request_in-request.result in
    subst (λ (o : Option Request). Ends before now (question o) c.status-in-Err-Broken.result.cause) c.request_in-request.ensures
    (run_broken before mid now read c.deliver.ensures.reads asked c.in-Ok.answer.cause c.in-Ok.answer.lines.items c.as_slice.result.now c.put_of-put.result
    (with_put _ _ _ asked c.in-Ok.answer _ c.put_of-put.result c.put_of-put.ensures c.output_of.ensures c.in-Ok.ensures.answered.told) c.as_slice.ensures.value
    c.status-in-Err-Broken.result.cause c.status-in-Err-Broken.ensures.cause (c.in-Err-Broken.ensures.broken (ap Err c.in-Err-Broken.field-0-is)))

pub returns-clause-ends : goal.returns-clause-ends
returns-clause-ends g c =
    let before : Outside = outside (g.F.Files.holds c.args.files.now) (g.F.Files.read_faults c.args.files.now) (g.F.Files.put_faults c.args.files.now)
    (g.K.Sink.taken c.args.out.now) (g.K.Sink.faults c.args.out.now) in
    let mid : Outside = outside (g.F.Files.holds c.answer_to.new.files) (g.F.Files.read_faults c.answer_to.new.files) (g.F.Files.put_faults c.answer_to.new.files)
    (g.K.Sink.taken c.reserve.new.self) (g.K.Sink.faults c.reserve.new.self) in
    let now : Outside = outside (g.F.Files.holds c.deliver.new.files) (g.F.Files.read_faults c.deliver.new.files) (g.F.Files.put_faults c.deliver.new.files)
    (g.K.Sink.taken c.deliver.new.out) (g.K.Sink.faults c.deliver.new.out) in
    let read : IsRead before mid = record {
      files = c.answer_to.ensures.kept.holds;
      reads = c.answer_to.ensures.kept.reads;
      puts = c.answer_to.ensures.kept.puts;
      taken = c.reserve.ensures.taken;
      writes = c.reserve.ensures.faults;
    } in
    let asked : Option Request = option_map commands.view c.request_in-request.result in
    subst (λ (o : Option Request). Ends before now (question o) c.status-in-Err-Memory.result.cause) c.request_in-request.ensures
    (run_wanted before mid now read c.deliver.ensures.reads asked c.in-Ok.answer.cause c.in-Ok.answer.lines.items c.as_slice.result.now c.put_of-put.result
    (with_put _ _ _ asked c.in-Ok.answer _ c.put_of-put.result c.put_of-put.ensures c.output_of.ensures c.in-Ok.ensures.answered.told) c.as_slice.ensures.value
    c.room_for-room.result c.status-in-Err-Memory.result.cause c.status-in-Err-Memory.ensures.cause c.room_for-room.ensures
    (c.in-Err-Memory.ensures.wanting (ap Err c.in-Err-Memory.field-0-is))
    (c.in-Err-Memory.ensures.untouched (ap Err c.in-Err-Memory.field-0-is)))

pub returns-in-Ok-deliver-clause-files : goal.returns-in-Ok-deliver-clause-files
returns-in-Ok-deliver-clause-files g c =
    let asked : Option Request = option_map commands.view c.request_in-request.result in
    subst (λ (o : Option Request). OthersKept (question o).output (g.F.Files.holds c.args.files.now) (g.F.Files.holds c.deliver.new.files)) c.request_in-request.ensures
    (others_since (g.F.Files.holds c.args.files.now) (g.F.Files.read_faults c.args.files.now) (g.F.Files.read_faults c.answer_to.new.files) (question asked)
    c.in-Ok.answer.cause c.in-Ok.answer.lines.items c.put_of-put.result
    (g.F.Files.holds c.args.files.now) (g.F.Files.holds c.answer_to.new.files) (g.F.Files.holds c.deliver.new.files) c.answer_to.ensures.kept.holds
    (with_put _ _ _ asked c.in-Ok.answer _ c.put_of-put.result c.put_of-put.ensures c.output_of.ensures c.in-Ok.ensures.answered.told) c.deliver.ensures.others)

pub returns-in-Err-Broken-clause-files : goal.returns-in-Err-Broken-clause-files
returns-in-Err-Broken-clause-files g c =
    let asked : Option Request = option_map commands.view c.request_in-request.result in
    subst (λ (o : Option Request). OthersKept (question o).output (g.F.Files.holds c.args.files.now) (g.F.Files.holds c.deliver.new.files)) c.request_in-request.ensures
    (others_since (g.F.Files.holds c.args.files.now) (g.F.Files.read_faults c.args.files.now) (g.F.Files.read_faults c.answer_to.new.files) (question asked)
    c.in-Ok.answer.cause c.in-Ok.answer.lines.items c.put_of-put.result
    (g.F.Files.holds c.args.files.now) (g.F.Files.holds c.answer_to.new.files) (g.F.Files.holds c.deliver.new.files) c.answer_to.ensures.kept.holds
    (with_put _ _ _ asked c.in-Ok.answer _ c.put_of-put.result c.put_of-put.ensures c.output_of.ensures c.in-Ok.ensures.answered.told) c.deliver.ensures.others)

pub returns-in-Err-Broken-clause-puts : goal.returns-in-Err-Broken-clause-puts
returns-in-Err-Broken-clause-puts g c =
    let asked : Option Request = option_map commands.view c.request_in-request.result in
    subst (λ (o : Option Request). PutsCounted (question o).output (g.F.Files.put_faults c.args.files.now) (g.F.Files.put_faults c.deliver.new.files)) c.request_in-request.ensures
    (puts_since_entry (g.F.Files.holds c.args.files.now) (g.F.Files.read_faults c.args.files.now) (g.F.Files.read_faults c.answer_to.new.files) (question asked)
    c.in-Ok.answer.cause c.in-Ok.answer.lines.items c.put_of-put.result
    (g.F.Files.put_faults c.args.files.now) (g.F.Files.put_faults c.answer_to.new.files) (g.F.Files.put_faults c.deliver.new.files) c.answer_to.ensures.kept.puts
    (with_put _ _ _ asked c.in-Ok.answer _ c.put_of-put.result c.put_of-put.ensures c.output_of.ensures c.in-Ok.ensures.answered.told) c.deliver.ensures.puts)

pub returns-clause-files : goal.returns-clause-files
returns-clause-files g c =
    let asked : Option Request = option_map commands.view c.request_in-request.result in
    subst (λ (o : Option Request). OthersKept (question o).output (g.F.Files.holds c.args.files.now) (g.F.Files.holds c.deliver.new.files)) c.request_in-request.ensures
    (others_since (g.F.Files.holds c.args.files.now) (g.F.Files.read_faults c.args.files.now) (g.F.Files.read_faults c.answer_to.new.files) (question asked)
    c.in-Ok.answer.cause c.in-Ok.answer.lines.items c.put_of-put.result
    (g.F.Files.holds c.args.files.now) (g.F.Files.holds c.answer_to.new.files) (g.F.Files.holds c.deliver.new.files) c.answer_to.ensures.kept.holds
    (with_put _ _ _ asked c.in-Ok.answer _ c.put_of-put.result c.put_of-put.ensures c.output_of.ensures c.in-Ok.ensures.answered.told) c.deliver.ensures.others)

pub returns-clause-puts : goal.returns-clause-puts
returns-clause-puts g c =
    let asked : Option Request = option_map commands.view c.request_in-request.result in
    subst (λ (o : Option Request). PutsCounted (question o).output (g.F.Files.put_faults c.args.files.now) (g.F.Files.put_faults c.deliver.new.files)) c.request_in-request.ensures
    (puts_since_entry (g.F.Files.holds c.args.files.now) (g.F.Files.read_faults c.args.files.now) (g.F.Files.read_faults c.answer_to.new.files) (question asked)
    c.in-Ok.answer.cause c.in-Ok.answer.lines.items c.put_of-put.result
    (g.F.Files.put_faults c.args.files.now) (g.F.Files.put_faults c.answer_to.new.files) (g.F.Files.put_faults c.deliver.new.files) c.answer_to.ensures.kept.puts
    (with_put _ _ _ asked c.in-Ok.answer _ c.put_of-put.result c.put_of-put.ensures c.output_of.ensures c.in-Ok.ensures.answered.told) c.deliver.ensures.puts)

pub returns-then-is_err : goal.returns-then-is_err
returns-then-is_err g c = grind (arith, common_steps)

pub returns-in-Err : goal.returns-in-Err
returns-in-Err g c = grind (arith, elements)

pub deliver-requires : goal.deliver-requires
deliver-requires g c = grind (arith, common_steps)

pub returns-in-Ok-deliver-clause-number : goal.returns-in-Ok-deliver-clause-number
returns-in-Ok-deliver-clause-number g c = grind (arith, elements)

pub returns-in-Ok-deliver-clause-reads : goal.returns-in-Ok-deliver-clause-reads
returns-in-Ok-deliver-clause-reads g c = grind (arith, elements)

pub returns-in-Ok-deliver-clause-puts : goal.returns-in-Ok-deliver-clause-puts
returns-in-Ok-deliver-clause-puts g c = grind (arith, elements)

pub returns-in-Err-Broken-clause-number : goal.returns-in-Err-Broken-clause-number
returns-in-Err-Broken-clause-number g c = grind (arith, elements)

pub returns-in-Err-Broken-clause-reads : goal.returns-in-Err-Broken-clause-reads
returns-in-Err-Broken-clause-reads g c = grind (arith, elements)

pub returns-clause-number : goal.returns-clause-number
returns-clause-number g c = grind (arith, elements)

pub returns-clause-reads : goal.returns-clause-reads
returns-clause-reads g c = grind (arith, common_steps)
