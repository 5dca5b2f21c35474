use Rattle.std.proofs.Common.{rules, arith}
use Rattle.std.proofs.lemmas.Grind.{common_steps}
use Rattle.export_run.proofs.Left.{exported_left, unwritten_left}
use Rattle.export_run.proofs.running.export_file.Goals as goal

pub returns-in-Ok-write : goal.returns-in-Ok-write
returns-in-Ok-write g c =
    exported_left c.args.file.now c.args.target.now g.F.Folder c.args.folder.now c.read_export.new.folder c.write.new.folder g.S.Sink c.in-Ok.export c.as_slice.result.now c.in-Ok.ensures (search rules)
    c.in-Ok-write.ensures.told c.args.out.now c.print_exported.new.out c.print_exported.result c.in-Ok-write.ensures.counts c.in-Ok-write.ensures.writes c.print_exported.ensures

pub returns-in-Ok : goal.returns-in-Ok
returns-in-Ok g c =
    unwritten_left c.args.file.now c.args.target.now g.F.Folder c.args.folder.now c.read_export.new.folder c.write.new.folder g.S.Sink c.in-Ok.export c.as_slice.result.now c.in-Ok.ensures (search rules)
    c.in-Err-write.ensures.told c.args.out.now c.in-Err-write.error c.write_status.result c.write_status.ensures c.in-Err-write.ensures.counts c.in-Err-write.ensures.writes

pub returns : goal.returns
returns g c = grind (arith, common_steps)
