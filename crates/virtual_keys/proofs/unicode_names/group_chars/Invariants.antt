use Rattle.std.proofs.Common.{◌≡◌, ◌+◌, ◌*◌, ◌≤◌, ◌++◌, map, option_copied}
use Rattle.std.specs.List.{list_all}
use Rattle.arrayvec.specs.ArrayVec.{array_vec_len}
use Rattle.virtual_keys.specs.Dictionary.{is_group, hex_value, groups}
use Rattle.virtual_keys.specs.Groups.{groups_behind, bytes_behind}
use Rattle.virtual_keys.proofs.unicode_names.group_chars.Given as goal

abbrev pub decreases-loop-rest : goal.decreases-loop-rest
decreases-loop-rest l = bytes_behind (option_copied l.rest)

-- each group that was read has at least four bytes and is followed by a _
abbrev pub invariant-loop-rest : goal.invariant-loop-rest
invariant-loop-rest l = record {
  formed : list_all is_group (groups_behind (option_copied l.rest)) ≡ list_all is_group (groups l.text);
  values : l.chars.items ++ map hex_value (groups_behind (option_copied l.rest)) ≡ map hex_value (groups l.text);
  room : 5 * array_vec_len l.chars + bytes_behind (option_copied l.rest) ≤ 79;
}
