use Rattle.std.proofs.Common.{◌≡◌, string_bytes}
use Rattle.load_maker.specs.Loads.{press_lines}
use Rattle.load_maker.proofs.load.script_text.Given as goal

abbrev pub invariant-loop : goal.invariant-loop
invariant-loop l = string_bytes l.script ≡ press_lines l.counter
