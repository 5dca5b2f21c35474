use Rattle.std.proofs.Common.{rules}
use Rattle.rule_index.proofs.indexed_keyboard.IndexedKeyboard.stated.Goals as goal

pub deref-requires : goal.deref-requires
deref-requires c κs = search rules

pub get-requires : goal.get-requires
get-requires c κs = search rules

pub as_slice-requires : goal.as_slice-requires
as_slice-requires c κs = search rules
