use Rattle.std.proofs.Common.{◌≡◌, drop, not, ◌||◌}
use Rattle.std.specs.List.{list_all}
use Rattle.virtual_keys.specs.Fits.{key_fits}
use Rattle.rule_shadow.specs.Keys.{presses_of}
use Rattle.rule_shadow.proofs.key_cover.fit_for.Given as goal

abbrev pub invariant-loop-code : goal.invariant-loop-code
invariant-loop-code l =
    list_all (λ code. list_all (λ press. not (key_fits l.b press) || key_fits l.a press) (presses_of l.modifiers code)) (drop l.code-index l.codes)
    ≡ list_all (λ code. list_all (λ press. not (key_fits l.b press) || key_fits l.a press) (presses_of l.modifiers code)) l.codes
