use Rattle.kmn_outside.proofs.Files.{file_of-distinct}
use Rattle.kmn_outside.proofs.memory_folder.MemoryFolder.new.Goals as goal

pub returns-clause-given : goal.returns-clause-given
returns-clause-given c = file_of-distinct c.args.files c.requires
