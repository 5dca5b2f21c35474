use Rattle.std.proofs.Common.{◌≡◌, [], ◌++◌, take, drop}
use Rattle.std.specs.List.{list_any}
use Rattle.rule_model.specs.Src.{is_unicode}
use Rattle.store_table.specs.First.{all_of}
use Rattle.store_table.specs.Names.{begin_refusal, is_ansi}
use Rattle.store_table.proofs.listing.add_begins_refusals.Given as goal

abbrev pub invariant-loop-start : goal.invariant-loop-start
invariant-loop-start l = record {
  unicode : l.unicode ≡ list_any is_unicode (take l.start-index l.begins);
  ansi : l.ansi ≡ list_any is_ansi (take l.start-index l.begins);
  refusals : l.refusals ++ all_of (begin_refusal l.stated) (take l.start-index l.begins) (drop l.start-index l.begins) ≡ l.fn.refusals ++ all_of (begin_refusal l.stated) [] l.begins;
}
