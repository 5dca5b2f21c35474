-- Expanded tables in order are those that the program compiles to.
use Rattle.std.proofs.Common.{◌≡◌, ◌∙◌, ap, subst}
use Rattle.rule_model.specs.declared.program.Program.{Program}
use Rattle.rule_model.specs.declared.tables.Tables.{Tables}
use Rattle.compile_laws.specs.Compiles.{Compiles, AreOrderedGroups}
use Rattle.rule_order.specs.Order.{IsOrdered}
use Rattle.rule_expand.specs.Expanded.{expanded_tables}

pub ordered_compiles : (program : Program) (expanded tables : Tables) → expanded ≡ expanded_tables program → IsOrdered expanded tables → Compiles program tables
unfolding expanded_tables
ordered_compiles program expanded tables is ordered = record {
  version = ordered.version ∙ ap (λ (t : Tables). t.version) is;
  start_ansi = ordered.start_ansi ∙ ap (λ (t : Tables). t.start_ansi) is;
  start_unicode = ordered.start_unicode ∙ ap (λ (t : Tables). t.start_unicode) is;
  stores = ordered.stores ∙ ap (λ (t : Tables). t.stores) is;
  groups = subst (λ (t : Tables). AreOrderedGroups t.groups tables.groups) is ordered.groups;
}
