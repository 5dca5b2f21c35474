use Rattle.std.proofs.Common.{◌≡◌, ◌++◌, drop}
use Rattle.std.specs.Prelude.{vec_len, vec_capacity}
use Rattle.kmn_base.specs.declared.limits.TheConstants.{EVENT_ENTRIES}
use Rattle.rule_engine.proofs.workspace.copied.Given as goal

abbrev pub invariant-loop-line : goal.invariant-loop-line
invariant-loop-line l = record {
  count : vec_len l.copy ≡ l.line-index;
  room : vec_capacity l.copy ≡ EVENT_ENTRIES;
  same : l.copy.items ++ drop l.line-index l.lines ≡ l.lines;
}
