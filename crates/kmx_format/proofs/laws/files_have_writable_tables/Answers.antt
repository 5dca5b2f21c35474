use Rattle.kmx_format.proofs.FileWritable.{files_have_writable_tables}
use Rattle.kmx_format.proofs.laws.files_have_writable_tables.Goals as goal

pub returns : goal.returns
returns c = files_have_writable_tables
