use Rattle.export_run.proofs.LongFiles.{gives_long}
use Rattle.export_run.proofs.reading.read_export.Goals as goal

pub returns-in-Err-Over : goal.returns-in-Err-Over
returns-in-Err-Over g c =
    gives_long c.args.file.now g.F.Folder c.args.folder.now _ c.in-Err-Over.field-0 c.in-Err-Over.field-0-0 c.in-Err-Over.field-0-is
    c.in-Err-Over.ensures.counts c.in-Err-Over.ensures.told c.in-Err-Over.ensures.reads
