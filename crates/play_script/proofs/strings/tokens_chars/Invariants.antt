use Rattle.std.proofs.Common.{◌≡◌, ◌++◌, length, option_map}
use Rattle.play_script.specs.Strings.{tokens_chars}
use Rattle.play_script.specs.Words.{IsTight}
use Rattle.play_script.proofs.strings.tokens_chars.Given as goal

abbrev pub decreases-loop-rest : goal.decreases-loop-rest
decreases-loop-rest l = length l.rest

abbrev pub invariant-loop-rest : goal.invariant-loop-rest
invariant-loop-rest l = record {
  read : option_map (λ more. l.all ++ more) (tokens_chars 0 l.rest) ≡ tokens_chars 0 l.text;
  tight : IsTight l.rest;
}
