use Rattle.std.proofs.Common.{ℕ, None, drop, ap, ◌∙◌, arith}
use Rattle.kmn_import.specs.Utf16.{unit_characters}
use Rattle.kmn_import.proofs.Utf16Steps.{character_step}
use Rattle.kmn_import.proofs.utf16.unit_characters.Goals as goal

pub loop-rest-preserved : goal.loop-rest-preserved
loop-rest-preserved c =
    character_step c.loop-rest.characters c.add.new.self c.loop-rest.rest.now c.behind-rest.result.now c.in-Some.character (unit_characters None c.args.units.now)
    (omega (arith, c.in-len1-up.len_at_least)) c.in-Some.ensures c.in_ok-add.ensures
    (c.behind-rest.ensures ∙ ap (λ (n : ℕ). drop n c.loop-rest.rest.now) c.unit_count-count.ensures) c.loop-rest.invariant
