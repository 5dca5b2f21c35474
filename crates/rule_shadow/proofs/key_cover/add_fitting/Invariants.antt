use Rattle.std.proofs.Common.{◌≡◌, ◌++◌, drop}
use Rattle.std.specs.Prelude.{filter}
use Rattle.virtual_keys.specs.Fits.{key_fits}
use Rattle.rule_shadow.specs.Keys.{presses_of}
use Rattle.rule_shadow.proofs.key_cover.add_fitting.Given as goal

abbrev pub invariant-loop-mods : goal.invariant-loop-mods
invariant-loop-mods l =
    l.presses.items ++ filter (key_fits l.key) (presses_of (drop l.mods-index l.modifiers) l.code)
    ≡ l.fn.presses.items ++ filter (key_fits l.key) (presses_of l.modifiers l.code)
