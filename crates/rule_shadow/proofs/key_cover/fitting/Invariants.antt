use Rattle.std.proofs.Common.{◌≡◌, ◌++◌, drop}
use Rattle.std.specs.Prelude.{filter, flat_map}
use Rattle.virtual_keys.specs.Fits.{key_fits}
use Rattle.rule_shadow.specs.Keys.{presses_of}
use Rattle.rule_shadow.proofs.key_cover.fitting.Given as goal

abbrev pub invariant-loop-code : goal.invariant-loop-code
invariant-loop-code l =
    l.presses.items ++ flat_map (λ code. filter (key_fits l.key) (presses_of l.modifiers code)) (drop l.code-index l.codes)
    ≡ flat_map (λ code. filter (key_fits l.key) (presses_of l.modifiers code)) l.codes
