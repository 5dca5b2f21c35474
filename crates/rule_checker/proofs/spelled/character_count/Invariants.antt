use Rattle.std.proofs.Common.{◌≡◌, ◌+◌, ◌≤◌, drop}
use Rattle.rule_checker.specs.Counting.{capped}
use Rattle.rule_checker.proofs.SpelledTexts.{ending_in}
use Rattle.rule_checker.proofs.spelled.character_count.Given as goal

abbrev pub invariant-loop-byte : goal.invariant-loop-byte
invariant-loop-byte l = record {
  fits : l.count ≤ 0xFFFF_FFFF;
  count : capped (l.count + ending_in l.coming (drop l.byte-index l.text)) ≡ capped (ending_in 0 l.text);
}
