use Rattle.std.proofs.Common.{◌≡◌, ◌≤◌, length, take}
use Rattle.keyman_words.specs.Beside.{folder_part}
use Rattle.keyman_words.proofs.file_name.folder_part.Given as goal

abbrev pub invariant-loop-end : goal.invariant-loop-end
invariant-loop-end l = (l.end ≤ length l.name) × (folder_part (take l.end l.name) ≡ folder_part l.name)

abbrev pub decreases-loop-end : goal.decreases-loop-end
decreases-loop-end l = l.end
