-- The folder after a file is put: the bytes under the name, and each other file.
use Rattle.std.proofs.Common.{refl}
use Rattle.kmn_outside.proofs.Files.{file_of-put, file_of-put_other}
use Rattle.kmn_outside.proofs.memory_folder.MemoryFolderFolder.write.Goals as goal

pub returns-then-is_due-clause-writes : goal.returns-then-is_due-clause-writes
returns-then-is_due-clause-writes c = rw c.in_ok-put.ensures (file_of-put_other _ _ _, refl)

pub returns-clause-writes : goal.returns-clause-writes
returns-clause-writes c =
    rw c.in_ok-put-2.ensures (
      file_of-put_other _ _ _,
      file_of-put c.args.self.now.files c.args.name.now c.args.bytes.now,
      refl,
    )
