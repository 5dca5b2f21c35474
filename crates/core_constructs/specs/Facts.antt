-- What is known of a keyboard before its records are judged.
use Rattle.std.specs.Prelude.{map}
use Rattle.kmn_base.specs.Rising.{rising}
use Rattle.rule_model.specs.declared.tables.Tables.{Tables}
use Rattle.rule_model.specs.Tab.{tab_options}
use Rattle.core_constructs.specs.declared.facts.Facts.{Facts}
use Rattle.core_constructs.specs.Changes.{may_change}
use Rattle.core_constructs.specs.Marks.{put_marks}
use Rattle.core_constructs.specs.Reached.{reached_groups}
use Rattle.core_constructs.specs.Widths.{store_units}

-- the stores that are options, the units of each store, the marks that outputs put, the groups that an event can enter, and the options that
-- each group may change
abbrev pub facts_of : Tables → Facts
facts_of tables = record {
  options = rising (tab_options tables);
  units = map store_units tables.stores;
  marks = put_marks tables;
  reached = reached_groups tables;
  changes = may_change tables;
}
