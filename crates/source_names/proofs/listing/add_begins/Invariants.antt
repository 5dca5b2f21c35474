use Rattle.std.proofs.Common.{◌≡◌, [], ◌++◌, take, drop}
use Rattle.std.specs.List.{list_any}
use Rattle.rule_model.specs.Src.{is_unicode}
use Rattle.store_table.specs.Names.{is_ansi}
use Rattle.source_names.specs.Causes.{begin_faults, each_of}
use Rattle.source_names.proofs.listing.add_begins.Given as goal

abbrev pub invariant-loop-start : goal.invariant-loop-start
invariant-loop-start l = record {
  unicode : l.unicode ≡ list_any is_unicode (take l.start-index l.begins);
  ansi : l.ansi ≡ list_any is_ansi (take l.start-index l.begins);
  causes : l.causes.items ++ each_of (begin_faults l.groups) (take l.start-index l.begins) (drop l.start-index l.begins) ≡ l.fn.causes.items ++ each_of (begin_faults l.groups) [] l.begins;
}
