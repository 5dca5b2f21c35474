use Rattle.std.proofs.Common.{◌≡◌, ◌+◌, ◌-◌, ◌≤◌, length, take}
use Rattle.std.specs.List.{suffix_len}
use Rattle.kmn_base.specs.Lists.{is_mark}
use Rattle.kmn_base.proofs.items.end_marks.Given as goal

abbrev pub invariant-loop-count : goal.invariant-loop-count
invariant-loop-count l = (l.count ≤ length l.items) × (length l.items - l.count + suffix_len is_mark (take l.count l.items) ≡ suffix_len is_mark l.items)

abbrev pub decreases-loop-count : goal.decreases-loop-count
decreases-loop-count l = l.count
