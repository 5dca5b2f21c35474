-- Tables with the records of their groups in order.
use Rattle.std.specs.Prelude.{◌≡◌}
use Rattle.rule_model.specs.declared.tables.Tables.{Tables}
use Rattle.compile_laws.specs.Compiles.{AreOrderedGroups}

-- tables have each record of the groups of other tables once and in order, and are the same in all other parts
pub record IsOrdered (expanded ordered : Tables) : Type 0 where
  pub version : ordered.version ≡ expanded.version
  pub start_ansi : ordered.start_ansi ≡ expanded.start_ansi
  pub start_unicode : ordered.start_unicode ≡ expanded.start_unicode
  pub stores : ordered.stores ≡ expanded.stores
  pub groups : AreOrderedGroups expanded.groups ordered.groups
