use Rattle.std.proofs.Common.{◌≡◌, ◌++◌, drop, encode_utf8_all}
use Rattle.std.specs.String.{string_bytes}
use Rattle.small_host.proofs.put_text.Given as goal

abbrev pub invariant-loop-c : goal.invariant-loop-c
invariant-loop-c l = string_bytes l.out ++ encode_utf8_all (drop l.c-index l.fn.text) ≡ string_bytes l.initial.out ++ encode_utf8_all l.fn.text
