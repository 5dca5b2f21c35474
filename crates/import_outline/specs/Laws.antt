-- The law of the groups that names reach.
use Rattle.std.specs.Prelude.{◌≡◌, ℕ, Bool, true, not, ◌||◌, List}
use Rattle.std.specs.List.{list_all}
use Rattle.import_outline.specs.declared.outline.GroupUse.{GroupUse}
use Rattle.import_outline.specs.Names.{has_name}
use Rattle.import_outline.specs.Outline.{reachable}

-- whether a use by a group among names is of a group among them
abbrev pub is_closed_use : List (List ℕ) → GroupUse → Bool
is_closed_use names entry = not (has_name names entry.user) || has_name names entry.used

-- with each group that names reach, the list has all groups that it uses
abbrev pub ReachableIsClosed : Type 0
ReachableIsClosed = (uses : List GroupUse) (names : List (List ℕ)) → list_all (is_closed_use (reachable uses names)) uses ≡ true
